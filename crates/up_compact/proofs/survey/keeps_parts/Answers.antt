use Rattle.std.proofs.Common.{◌∙◌, sym, subst}
use Rattle.std.proofs.lemmas.List.Elements.{All-more}
use Rattle.up_compact.specs.Surveys.{JoinsOnly, has_id}
use Rattle.up_compact.proofs.Surveying.{only_from_test}
use Rattle.up_compact.proofs.survey.keeps_parts.Goals as goal

pub loop-joining-preserved : goal.loop-joining-preserved
loop-joining-preserved c =
    let ids = has_id c.args.ids.now in
    let joining = c.joining-item.result in
    All-more (JoinsOnly ids) c.args.joinings.now c.loop-joining.joining-index joining c.loop-joining-test.true c.loop-joining.invariant
    (subst (JoinsOnly ids) c.joining-item.is (only_from_test ids joining (sym c.misses_part.ensures ∙ c.if-misses_part.false)))
