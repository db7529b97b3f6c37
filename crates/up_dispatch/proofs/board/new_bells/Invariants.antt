use Rattle.std.proofs.Common.{◌≡◌, vec_len}
use Rattle.up_dispatch.proofs.board.new_bells.Given as goal

abbrev pub invariant-loop-lane : goal.invariant-loop-lane
invariant-loop-lane l = vec_len l.bells ≡ l._lane
