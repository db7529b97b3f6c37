use Rattle.std.proofs.Common.{◌≡◌, ◌-◌, ◌≤◌, All, false, length, vec_len}
use Rattle.httparse.specs.Grammar.{HasNoRequest}
use Rattle.up_wire.specs.Limits.{max_head}
use Rattle.up_wire.specs.Message.{open_yet}
use Rattle.up_wire.specs.Steps.{Took}
use Rattle.up_wire.proofs.BlankLines.{IsEnd}
use Rattle.up_wire.proofs.head_reader.read_head.Given as goal

abbrev pub invariant-lines : goal.invariant-lines
invariant-lines g l = record {
  took : Took (g.R.Source.device l.fn.source) (g.R.Source.device l.source) l.fn.interruptions l.interruptions l.text.items open_yet;
  short : length l.text.items ≤ max_head;
  no_head : HasNoRequest l.text.items;
  blank : l.is_begun ≡ false → All IsEnd l.text.items;
}

abbrev pub decreases-lines : goal.decreases-lines
decreases-lines g l = max_head - vec_len l.text
