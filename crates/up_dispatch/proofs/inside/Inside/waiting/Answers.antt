use Rattle.std.proofs.Common.{◌≡◌, ◌+◌, ◌-◌, ◌≤◌, ◌<◌, [], length, get_or, ap, ◌∙◌, subst, arith, rules}
use Rattle.up_events.specs.Records.{lane_log}
use Rattle.up_events.proofs.JournalLemmas.{log_of-absent}
use Rattle.up_dispatch.specs.Puts.{end_at}
use Rattle.up_dispatch.specs.BoardView.{BoardView}
use Rattle.up_dispatch.proofs.Idling.{waits_for}
use Rattle.up_dispatch.proofs.inside.Inside.waiting.Goals.{in-Some, in-None}
use Rattle.up_dispatch.proofs.inside.Inside.waiting.Goals as goal

pub returns-clause-unput : goal.returns-clause-unput
returns-clause-unput g c =
    let i = c.self.inside in
    let lane = c.args.lane in
    let log = lane_log i.book.journal lane in
    subst (λ (s : BoardView). length (lane_log s.book.journal lane) ≤ c.match-get_mut.result + length (end_at s.ends lane).put) c.self.view_is (elim c.match-get_mut.branch [
      | in-Some w ↦
          let cursor = w.in-Some.cursor.now in
          let within : lane < length i.cursors.items = search rules in
          let is : cursor ≡ get_or i.cursors.items lane cursor = search rules in
          let all : c.log_len-all.result ≡ length log = c.log_len-all.ensures ∙ ap (λ j. length (lane_log j lane)) c.journal.ensures.journal in
          waits_for g.B.Naming.queue g.B.Naming.lanes g.B.Naming.max_size i.book i.cursors.items i.given i.total.total i.rest.parts i.rest.amount lane c.match-get_mut.result cursor c.self.invariant within is
          (omega (arith, all, w.waiting.ensures.waiting.0, w.result-is))
      | in-None w ↦
          let past : length i.cursors.items ≤ lane = search rules in
          let none : log ≡ [] = log_of-absent i.book.journal.lanes i.book.journal.accepted lane (omega (arith, c.self.invariant.some, c.self.invariant.lanes)) (omega (arith, past, c.self.invariant.lanes)) in
          omega (arith, ap length none)
    ])
