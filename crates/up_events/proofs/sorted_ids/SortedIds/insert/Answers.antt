use Rattle.std.proofs.Common.{◌≡◌, ap, length, sym, ◌∙◌, subst, arith}
use Rattle.std.specs.List.{insert}
use Rattle.std.specs.List.Sorted.{IsBinarySearchResult, IsNonDecreasing}
use Rattle.std.specs.Ordering.{nat_cmp}
use Rattle.std.specs.Result.{is_ok}
use Rattle.std.proofs.lemmas.List.Edits.{length-insert}
use Rattle.up_events.specs.Ascending.{has, ids_in}
use Rattle.up_events.proofs.AscendingLemmas.{has_already, has-insert, search_keeps, search_says, search_within}
use Rattle.up_events.proofs.sorted_ids.SortedIds.insert.Goals as goal

pub returns-in_default-clause-ok : goal.returns-in_default-clause-ok
returns-in_default-clause-ok c =
    let ids = c.args.self.now in
    has_already ids c.args.id (sym (search_says ids c.args.id c.find.result c.find.ensures.found c.find.ensures.ascend) ∙ ap is_ok c.in_default.is)

pub put_at-requires-clause-within : goal.put_at-requires-clause-within
put_at-requires-clause-within c =
    let ids = c.args.self.now in
    let at = subst (IsBinarySearchResult (λ u. nat_cmp u c.args.id) ids) c.in-Err.is c.find.ensures.found in
    rw (c.make_place.ensures.same, c.self.view_is) (search_within ids c.args.id c.in-Err.place at c.find.ensures.ascend)

pub invariant_of-self-2 : goal.invariant_of-self-2
invariant_of-self-2 c =
    let ids = c.args.self.now in
    let id = c.args.id in
    let place = c.in-Err.place in
    let at = subst (IsBinarySearchResult (λ u. nat_cmp u id) ids) c.in-Err.is c.find.ensures.found in
    let is : ids_in c.put_at.new.blocks.items ≡ insert ids place id = c.put_at.ensures.ids ∙ ap (λ l. insert l place id) (c.make_place.ensures.same ∙ c.self.view_is) in
    record {
      ascends = subst IsNonDecreasing (sym is) (search_keeps ids id place at c.find.ensures.ascend);
      counted = omega (arith, c.self.invariant.counted, ap length c.self.view_is, ap length is, length-insert ids place id (search_within ids id place at c.find.ensures.ascend));
      countable = omega (arith, c.self.invariant.countable, c.if-self.false);
      room = omega (arith, c.put_at.ensures.rows, c.in_ok-make_place.ensures.ok);
      are_blocks = c.put_at.ensures.blocks;
    }

pub returns-clause-ok : goal.returns-clause-ok
returns-clause-ok c = λ u.
    let is : ids_in c.put_at.new.blocks.items ≡ insert c.args.self.now c.in-Err.place c.args.id = c.put_at.ensures.ids ∙ ap (λ l. insert l c.in-Err.place c.args.id) (c.make_place.ensures.same ∙ c.self.view_is) in
    ap (λ l. has l u) is ∙ has-insert c.args.self.now c.in-Err.place c.args.id u
