use Rattle.std.proofs.Common.{◌≡◌, ◌<◌, ◌≤◌, ◌-◌, ◌%◌, length}
use Rattle.up_wire.specs.Message.{open_yet}
use Rattle.up_wire.specs.Steps.{HasRead}
use Rattle.up_wire.proofs.spooled.read_blocks.Given as goal

abbrev pub invariant-spans : goal.invariant-spans
invariant-spans g l = record {
  read : HasRead (g.R.Source.device l.fn.source) (g.R.Source.device l.source) l.fn.interruptions l.interruptions
      (λ run ending. (g.P.Spool.body l.spool ≡ run) × (length run ≡ l.done) × (ending ≡ open_yet));
  within : l.done ≤ l.size;
  whole : l.done < l.size → l.done % 65_536 ≡ 0;
}

abbrev pub decreases-spans : goal.decreases-spans
decreases-spans g l = l.size - l.done
