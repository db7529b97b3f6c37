use Rattle.std.proofs.Common.{◌≡◌, sym, subst, Some}
use Rattle.std.specs.Ordering.{nat_cmp}
use Rattle.std.specs.BTreeMap.{Updates}
use Rattle.std.specs.BTreeMap.Entry.{map_with_value, entry_map_ref}
use Rattle.up_machine.specs.Content.{Content}
use Rattle.up_machine.proofs.uploads.insert_noted.Goals as goal

pub returns-clause-ok : goal.returns-clause-ok
returns-clause-ok c =
    let u = subst (λ e. (w : Content) → Updates nat_cmp c.args.entries.now (map_with_value e w) c.args.id (Some w)) c.in-Vacant.is c.in_ok-place.ensures.update.0 in
    let s = subst (λ e. (entry_map_ref e).ghost_name ≡ c.entry-arg-1.given) c.in-Vacant.is c.in_ok-place.ensures.same_map in
    rw (c.entries-3-1.given.1 (sym s), ← c.insert.ensures.value) (u c.insert.result.now)
