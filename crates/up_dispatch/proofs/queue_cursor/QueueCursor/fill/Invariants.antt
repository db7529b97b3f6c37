use Rattle.std.proofs.Common.{◌-◌, ◌≤◌}
use Rattle.up_events.specs.Records.{lane_log}
use Rattle.up_dispatch.specs.QueuedUpTo.{IsQueuedUpTo}
use Rattle.up_dispatch.specs.Puts.{Extends}
use Rattle.up_dispatch.proofs.queue_cursor.QueueCursor.fill.Given as goal

abbrev pub invariant-loop-self : goal.invariant-loop-self
invariant-loop-self g l = record {
  queued : IsQueuedUpTo l.fn.self.put_end.queue (lane_log l.journal l.lane) l.closed l.self;
  onward : l.fn.self.position ≤ l.self.position;
  extends : Extends l.fn.self.put_end l.self.put_end;
}

abbrev pub decreases-loop-self : goal.decreases-loop-self
decreases-loop-self g l = l.all - l.self.position
