use Rattle.std.proofs.Common.{◌≡◌, ◌<◌, length, get_or, sym, ap, ◌∙◌, subst, rules}
use Rattle.std.proofs.lemmas.Bool.{eqb-true, eq-eqb}
use Rattle.up_events.specs.Records.{lane_log}
use Rattle.up_dispatch.specs.Idle.{IsIdle}
use Rattle.up_dispatch.proofs.Idling.{idle_if, cursor_if}
use Rattle.up_dispatch.proofs.inside.Inside.is_idle.Goals as goal

pub returns-then-cursor-all : goal.returns-then-cursor-all
returns-then-cursor-all g c =
    let i = c.self.inside in
    let cursor = c.in-Some.cursor.now in
    let within : c.args.lane < length i.cursors.items = search rules in
    let is : cursor ≡ get_or i.cursors.items c.args.lane cursor = search rules in
    let log = c.log_len-all.ensures ∙ ap (λ j. length (lane_log j c.args.lane)) c.journal.ensures.journal in (
      λ all. subst (λ s. IsIdle s c.args.lane c.args.taken) c.self.view_is
          (idle_if g.B.Naming.queue g.B.Naming.lanes g.B.Naming.max_size i.book i.cursors.items i.given i.total.total i.rest.parts i.rest.amount c.args.lane c.args.taken cursor c.self.invariant within is
          (sym c.is_closed.ensures ∙ c.if-is_closed.false) (c.if-cursor-all.true ∙ log) (sym (eqb-true _ _ all) ∙ log)),
      λ idle. eq-eqb _ _ (sym (idle.taken_all ∙ ap (λ s. length (lane_log s.book.journal c.args.lane)) (sym c.self.view_is) ∙ sym log)),
    )

pub returns-else-cursor-all : goal.returns-else-cursor-all
returns-else-cursor-all g c =
    let i = c.self.inside in
    let cursor = c.in-Some.cursor.now in
    let within : c.args.lane < length i.cursors.items = search rules in
    let is : cursor ≡ get_or i.cursors.items c.args.lane cursor = search rules in
    let log = c.log_len-all.ensures ∙ ap (λ j. length (lane_log j c.args.lane)) c.journal.ensures.journal in (
      λ all. absurd (c.if-cursor-all.false (eqb-true _ _ all)),
      λ idle. absurd (c.if-cursor-all.false (cursor_if g.B.Naming.queue g.B.Naming.lanes g.B.Naming.max_size i.book i.cursors.items i.given i.total.total i.rest.parts i.rest.amount c.args.lane c.args.taken cursor c.self.invariant within is
          (subst (λ s. IsIdle s c.args.lane c.args.taken) (sym c.self.view_is) idle) ∙ sym log)),
    )
