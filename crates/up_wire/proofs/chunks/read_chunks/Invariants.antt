use Rattle.std.proofs.Common.{◌-◌, ◌≤◌, List, ℕ, length, vec_len}
use Rattle.up_wire.specs.Chunks.{AreChunks}
use Rattle.up_wire.specs.Message.{open_yet}
use Rattle.up_wire.specs.Steps.{Took, IsBounded}
use Rattle.up_wire.proofs.chunks.read_chunks.Given as goal

abbrev pub invariant-chunks : goal.invariant-chunks
invariant-chunks g l = record {
  chunks : (text : List ℕ) × Took (g.R.Source.device l.fn.source) (g.R.Source.device l.source) l.fn.interruptions l.interruptions text open_yet × AreChunks l.body.items text;
  within : length l.body.items ≤ l.limit;
  bounded : IsBounded l.body;
}

abbrev pub decreases-chunks : goal.decreases-chunks
decreases-chunks g l = l.limit - vec_len l.body
