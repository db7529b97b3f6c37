use Rattle.std.proofs.Common.{subst, List}
use Rattle.std.specs.List.{All}
use Rattle.up_compact.specs.Surveys.{JoinsOnly, Seen, has_id, nothing_seen}
use Rattle.up_compact.specs.declared.joining.Joining.{Joining}
use Rattle.up_compact.proofs.Surveying.{entries_kept}
use Rattle.up_compact.proofs.survey.Survey.left_out.Goals as goal

pub returns-clause-kept : goal.returns-clause-kept
returns-clause-kept c = λ entries is.
    let ids = has_id c.without_parts.result in
    let joins = subst (λ (l : List Joining). All (JoinsOnly ids) l) c.deref.ensures.value c.without_parts.ensures.joins in
    let seen = subst (λ (s : Seen). All (JoinsOnly ids) s.joinings) c.self.view_is joins in
    entries_kept ids c.args.self.now nothing_seen entries is seen
