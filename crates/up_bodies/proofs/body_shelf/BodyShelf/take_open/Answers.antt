use Rattle.std.proofs.Common.{All, IfSome, subst, sym, ◌∙◌}
use Rattle.up_bodies.specs.Shelves.{IsTrueFile}
use Rattle.up_bodies.proofs.Reading.{all_before, all_last}
use Rattle.up_bodies.proofs.body_shelf.BodyShelf.take_open.Goals as goal

pub returns-clause-stays : goal.returns-clause-stays
returns-clause-stays g c were =
    let is_true = IsTrueFile g.D.Disk in
    let closed = c.args.self.now.closed.items in
    let pushed = subst (All is_true) c.push.ensures were.0 in (
      all_before is_true closed c.in_ok-file.file pushed,
      subst (λ o. IfSome o is_true) (sym (sym c.take.ensures.value ∙ c.in_ok-file.was)) (all_last is_true closed c.in_ok-file.file pushed),
    )
