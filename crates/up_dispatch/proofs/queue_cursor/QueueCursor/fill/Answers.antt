use Rattle.std.proofs.Common.{◌≡◌, ◌<◌, length, get_or, sym, subst, ◌++◌, ◌∷◌, [], arith, rules}
use Rattle.std.proofs.lemmas.Grind.{common_steps}
use Rattle.up_queue.specs.declared.item.Item.TheVariants as item
use Rattle.up_events.specs.Records.{lane_log}
use Rattle.up_queue.specs.Line.{IsOrderly}
use Rattle.std.proofs.lemmas.Option.{get_or_from_slice_get}
use Rattle.up_dispatch.proofs.QueueCursors.{queued_event, orderly_event, orderly_end, where_ok}
use Rattle.up_dispatch.proofs.queue_cursor.QueueCursor.fill.Goals as goal

pub event_at-event-requires-clause-there : goal.event_at-event-requires-clause-there
event_at-event-requires-clause-there g c = omega (arith, c.requires.there, c.loop-self.invariant.onward)

pub put-requires : goal.put-requires
put-requires g c =
    let cursor = c.loop-self.self in
    let log = lane_log c.args.journal.now c.args.lane in
    let event = c.event_at-event.result in
    let less : cursor.position < length log = omega (arith, c.loop-self-test.true, c.log_len-all.ensures) in
    let is : event ≡ get_or log cursor.position event = sym (get_or_from_slice_get log cursor.position event event c.event_at-event.ensures) in
    record {
      orderly = subst (λ e. IsOrderly (cursor.put_end.put ++ item.Event e ∷ [])) (sym is)
          (orderly_event c.args.self.now.put_end.queue log c.args.closed cursor event c.loop-self.invariant.queued c.requires.lawful less);
    }

pub put-requires-then-not-self : goal.put-requires-then-not-self
put-requires-then-not-self g c =
    let cursor = c.loop-self.self in
    record { orderly = orderly_end c.args.self.now.put_end.queue (lane_log c.args.journal.now c.args.lane) c.args.closed cursor c.loop-self.invariant.queued c.requires.lawful c.if-not-self.true }

pub loop-self-preserved : goal.loop-self-preserved
loop-self-preserved g c = record {
  queued = queued_event c.args.self.now.put_end.queue (lane_log c.args.journal.now c.args.lane) c.args.closed c.loop-self.self c.event_at-event.result c.put.new.self c.loop-self.invariant.queued c.event_at-event.ensures
      (where_ok c.put.result c.if-is_err.ensures.value c.put.ensures.put);
  onward = omega (arith, c.loop-self.invariant.onward);
  extends = grind (arith, common_steps);
}

pub returns-else-is_err-2-clause-extends : goal.returns-else-is_err-2-clause-extends
returns-else-is_err-2-clause-extends g c = grind (arith, common_steps)

pub returns-else-is_err-2-clause-whole : goal.returns-else-is_err-2-clause-whole
returns-else-is_err-2-clause-whole g c = grind (arith, common_steps)

pub returns-else-closed-clause-whole : goal.returns-else-closed-clause-whole
returns-else-closed-clause-whole g c = grind (arith, common_steps)

pub returns-else-is_err-2-clause-queued : goal.returns-else-is_err-2-clause-queued
returns-else-is_err-2-clause-queued g c = search rules
