use Rattle.std.proofs.Common.{◌≡◌, ◌-◌, ◌≤◌, take}
use Rattle.up_events.specs.Left.{log_length}
use Rattle.up_events.proofs.tail.Tail.events.Given as goal

abbrev pub invariant-loop-place : goal.invariant-loop-place
invariant-loop-place l = (l.place-end ≡ log_length l.self) × (l.self.first ≤ l.place) × (l.place ≤ l.place-end) × (l.events.items ≡ take (l.place - l.self.first) l.self.events)
