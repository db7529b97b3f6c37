use Rattle.std.proofs.Common.{◌≡◌, ◌++◌, List, length, ap, subst, sym, ◌∙◌}
use Rattle.up_log.specs.declared.entry.Entry.{Entry as Logged}
use Rattle.up_tie.proofs.Spans.{written_same}
use Rattle.up_tie.specs.Ties.{AreSame}
use Rattle.up_tie.proofs.batch.Batch.on_disk.Goals as goal

pub invariant_of-result : goal.invariant_of-result
invariant_of-result g c =
    let inside = c.self.inside in
    let written = c.requires.written in
    let changes : c.args.self.now.entries ≡ inside.changes.items = ap (λ v. v.entries) (sym c.self.view_is) in
    let same = written_same c.args.entries written.0 inside.changes.items inside.front c.args.place inside.first (written.1 ∙ ap (λ l. written.0 ++ l) changes) written.2 c.self.invariant in
    let count = ap (λ (l : List Logged). length l) (c.changes.ensures ∙ changes) in
    subst (λ n. AreSame (record { place = c.args.place; number = inside.first; count = n }) c.args.entries c.again.result) (sym count)
    (subst (λ l. AreSame (record { place = c.args.place; number = inside.first; count = length inside.changes.items }) c.args.entries l) (sym c.again.ensures) same)
