-- When there is nothing for a lane.
use Rattle.std.specs.Prelude.{◌≡◌, ◌<◌, ℕ, length, false}
use Rattle.up_events.specs.Records.{lane_log}
use Rattle.up_queue.specs.Line.{items_of}
use Rattle.up_dispatch.specs.Puts.{end_at}
use Rattle.up_dispatch.specs.BoardView.{BoardView}

-- more changes may come, the whole log of the lane was put, and as many items were taken as it has events
pub record IsIdle (s : BoardView) (lane taken : ℕ) : Type 0 where
  pub there : lane < s.book.journal.lanes
  pub going : s.book.closed ≡ false
  pub put_all : (end_at s.ends lane).put ≡ items_of (lane_log s.book.journal lane)
  pub taken_all : taken ≡ length (lane_log s.book.journal lane)
