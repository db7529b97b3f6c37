use Rattle.std.proofs.Common.{◌≡◌, ◌++◌, ◌∷◌, [], refl, sym, ap, ◌∙◌, subst}
use Rattle.up_events.specs.History.{id_of}
use Rattle.up_events.specs.Reached.{ended_by}
use Rattle.up_events.proofs.track.keep.Goals as goal

pub returns-in-Terminated-clause-ended : goal.returns-in-Terminated-clause-ended
returns-in-Terminated-clause-ended c =
    let ended = c.args.ended.now in
    c.in_ok-insert.ensures.ok ∙ ap (λ id. ended ++ id ∷ []) c.id-id.ensures
    ∙ subst (λ change. ended ++ id_of change ∷ [] ≡ ended ++ ended_by change) (sym c.in-Terminated.is) refl
