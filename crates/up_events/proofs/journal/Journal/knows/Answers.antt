use Rattle.std.proofs.Common.{◌≡◌, true, sym, ◌∙◌, subst}
use Rattle.up_events.specs.Ascending.{has}
use Rattle.up_events.specs.History.{is_known}
use Rattle.up_events.specs.Records.{Records}
use Rattle.up_events.proofs.TrackLemmas.{known_there, known_absent}
use Rattle.up_events.proofs.journal.Journal.knows.Goals as goal

pub returns-then-contains_key : goal.returns-then-contains_key
returns-then-contains_key c =
    let a = c.self.inside in
    let known = known_there a c.self.invariant c.args.id (sym c.contains_key.ensures ∙ c.if-contains_key.true) in
    c.if-contains_key.true ∙ sym (subst (λ (r : Records). is_known r.accepted c.args.id ≡ true) c.self.view_is known)

pub returns-else-contains_key : goal.returns-else-contains_key
returns-else-contains_key c =
    let a = c.self.inside in
    let known = known_absent a c.self.invariant c.args.id (sym c.contains_key.ensures ∙ c.if-contains_key.false) in
    c.contains.ensures ∙ sym (subst (λ (r : Records). is_known r.accepted c.args.id ≡ has a.ended c.args.id) c.self.view_is known)
