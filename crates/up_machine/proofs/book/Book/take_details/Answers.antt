use Rattle.std.proofs.Common.{All, IfSome, subst}
use Rattle.std.proofs.lemmas.Option.{IfSome_then}
use Rattle.up_machine.specs.Details.{IsOfUpload}
use Rattle.up_machine.specs.Fresh.{AreFresh}
use Rattle.up_machine.specs.State.{State}
use Rattle.up_machine.proofs.book.Book.take_details.Goals as goal

pub invariant_of-self-2 : goal.invariant_of-self-2
invariant_of-self-2 c =
    let a = c.self.inside in
    let listed = subst (AreFresh a.uploads a.journal.accepted) c.in-Some.is c.self.invariant.fresh in
    record { sound = c.self.invariant.sound; fresh = c.take.ensures.rest a.uploads a.journal.accepted listed }

pub returns-clause-own : goal.returns-clause-own
returns-clause-own c =
    let a = c.self.inside in
    let listed = subst (AreFresh a.uploads a.journal.accepted) c.in-Some.is c.self.invariant.fresh in
    subst (λ (s : State). IfSome c.take.result (λ list. All (IsOfUpload s.content s.journal.accepted) list.items)) c.self.view_is
    (IfSome_then c.take.result c.take.ensures.taken (λ list of. of a.uploads a.journal.accepted listed))
