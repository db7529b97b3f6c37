use Rattle.std.proofs.Common.{◌≡◌, length}
use Rattle.up_wire.specs.Message.{is_crlfs}
use Rattle.up_wire.proofs.head_reader.is_blank.Given as goal

abbrev pub invariant-loop-text : goal.invariant-loop-text
invariant-loop-text l = is_crlfs l.text ≡ is_crlfs l.fn.text

abbrev pub decreases-loop-text : goal.decreases-loop-text
decreases-loop-text l = length l.text
