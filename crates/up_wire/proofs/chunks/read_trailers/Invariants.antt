use Rattle.std.proofs.Common.{◌-◌, ◌≤◌, length, vec_len}
use Rattle.httparse.specs.Grammar.{HasNoSection}
use Rattle.up_wire.specs.Limits.{max_head}
use Rattle.up_wire.specs.Message.{open_yet}
use Rattle.up_wire.specs.Steps.{Took}
use Rattle.up_wire.proofs.chunks.read_trailers.Given as goal

abbrev pub invariant-lines : goal.invariant-lines
invariant-lines g l = record {
  took : Took (g.R.Source.device l.fn.source) (g.R.Source.device l.source) l.fn.interruptions l.interruptions l.text.items open_yet;
  short : length l.text.items ≤ max_head;
  no_section : HasNoSection l.text.items;
}

abbrev pub decreases-lines : goal.decreases-lines
decreases-lines g l = max_head - vec_len l.text
