-- A conversation from a seat of a board, with counted ids.
use Rattle.std.specs.Prelude.{ℕ, []}
use Rattle.up_dispatch.specs.Answering.{Serves, keeper_state}
use Rattle.up_dispatch.specs.Counts.{CountsIds}
use Rattle.up_dispatch.specs.Keepers.{by_seat, seat_state}
use Rattle.up_dispatch.specs.Keeps.{ClosureAnswers}
use Rattle.up_dispatch.specs.Turn.{Converses, conversation_state, no_disk}
use Rattle.up_dispatch.specs.declared.ended.Ended.{Ended}
use Rattle.up_queue.specs.EndViews.{QueueId}
use Rattle.up_wire.specs.Device.{Device}

-- one conversation, with ids counted from 1, from a seat of a board with this many lanes and this size limit: how many
-- changes were made from the seat, the source and the sink, each before and after it
abbrev pub IsServedFrom : (ℕ → QueueId) → ℕ → ClosureAnswers → ℕ → ℕ → ℕ → Device → Device → Device → Device → Ended → Type 0
IsServedFrom queue lanes gives max_size count count_after source source_after sink sink_after ended =
    (last : ℕ) × Converses no_disk (Serves (by_seat queue lanes max_size gives) CountsIds) max_size (conversation_state (keeper_state (seat_state count []) 0) source sink) (conversation_state (keeper_state (seat_state count_after []) last) source_after sink_after) ended
