use Rattle.std.proofs.Common.{◌≡◌, Some, None, sym, ap, ◌∙◌}
use Rattle.std.specs.FinMap as map
use Rattle.std.specs.Option.{option_copied_mut}
use Rattle.std.specs.Ordering.{nat_cmp}
use Rattle.std.specs.BTreeMap.{WritesThrough}
use Rattle.up_machine.proofs.UploadsLemmas.{get_at, on_ok, on_err, written, rewritten}
use Rattle.up_machine.proofs.uploads.Uploads.append.Goals as goal

pub unreachable-requires : goal.unreachable-requires
unreachable-requires c =
    let is : map.get c.args.self.now c.args.id ≡ None =
    ap (λ m. map.get m c.args.id) (sym c.self.view_is) ∙ get_at c.self.inside.entries.entries c.args.id ∙ sym c.get_mut.ensures.value ∙ ap option_copied_mut c.in_default.is in
    rw is at c.requires.room

pub append-requires-clause-room : goal.append-requires-clause-room
append-requires-clause-room c =
    let is : map.get c.args.self.now c.args.id ≡ Some c.in-Some.upload.now =
    ap (λ m. map.get m c.args.id) (sym c.self.view_is) ∙ get_at c.self.inside.entries.entries c.args.id ∙ sym c.get_mut.ensures.value ∙ ap option_copied_mut c.in-Some.is in
    rw is at c.requires.room

pub returns-clause-ok : goal.returns-clause-ok
returns-clause-ok c =
    let is : map.get c.args.self.now c.args.id ≡ Some c.in-Some.upload.now =
    ap (λ m. map.get m c.args.id) (sym c.self.view_is) ∙ get_at c.self.inside.entries.entries c.args.id ∙ sym c.get_mut.ensures.value ∙ ap option_copied_mut c.in-Some.is in
    let writes : WritesThrough nat_cmp (nat_cmp c.args.id) c.self.inside.entries c.append.new.self (c.get_mut.follows.lender c.append.new.self) = c.get_mut.follows.holds c.append.new.self in
    rw is (on_ok c.append.result _ _ (λ e. written c.self.inside.entries (c.get_mut.follows.lender c.append.new.self) c.args.id c.in-Some.upload.now c.append.new.self (sym (sym c.get_mut.ensures.value ∙ ap option_copied_mut c.in-Some.is)) writes
    ∙ ap (λ m. map.insert m c.args.id c.append.new.self) c.self.view_is ∙ ap (λ x. map.insert c.args.self.now c.args.id x) e) c.append.ensures.ok)

pub returns-clause-err : goal.returns-clause-err
returns-clause-err c =
    let writes : WritesThrough nat_cmp (nat_cmp c.args.id) c.self.inside.entries c.append.new.self (c.get_mut.follows.lender c.append.new.self) = c.get_mut.follows.holds c.append.new.self in
    on_err c.append.result _ _ (λ e. rewritten c.self.inside.entries (c.get_mut.follows.lender c.append.new.self) c.args.id c.in-Some.upload.now c.append.new.self (sym (sym c.get_mut.ensures.value ∙ ap option_copied_mut c.in-Some.is)) e writes ∙ c.self.view_is) c.append.ensures.err
