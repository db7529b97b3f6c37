use Rattle.std.proofs.Common.{◌≡◌, Some, sym, ap, ◌∙◌, refl, subst}
use Rattle.std.specs.FinMap as map
use Rattle.up_machine.specs.Details.{details_in}
use Rattle.up_machine.specs.Fresh.{AreFresh}
use Rattle.up_machine.specs.State.{State}
use Rattle.up_machine.proofs.FreshLemmas.{one_there}
use Rattle.up_machine.proofs.book.Book.note_details.Goals as goal

pub invariant_of-self-2 : goal.invariant_of-self-2
invariant_of-self-2 c =
    let a = c.self.inside in
    let listed = subst (AreFresh a.uploads a.journal.accepted) c.in-Some.is c.self.invariant.fresh in
    let is : Some c.in-Ok-Some.details ≡ details_in a.uploads c.args.id = sym c.in-Ok-Some.field-0-is ∙ c.in-Ok-Some.ensures ∙ ap (λ (s : State). details_in s.content c.args.id) (sym c.self.view_is) in
    let own = one_there a.uploads a.journal.accepted c.args.id c.in-Ok-Some.details (map.get a.uploads c.args.id) c.self.invariant.sound.fits refl is in
    record { sound = c.self.invariant.sound; fresh = c.add.ensures a.uploads a.journal.accepted own listed }
