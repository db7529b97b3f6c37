use Rattle.std.proofs.Common.{arith}
use Rattle.std.proofs.lemmas.List.{nil_from_length}
use Rattle.up_replay.proofs.ReplayLemmas.{replay_step, replay_end}
use Rattle.up_replay.specs.Replay.{replayed}
use Rattle.up_replay.proofs.replaying.replay.Goals as goal

pub loop-entry-preserved : goal.loop-entry-preserved
loop-entry-preserved c =
    replay_step c.loop-entry.book c.replay_one.new.book c.loop-entry.rest.items c.pop.new.self.items c.in-Some.entry (replayed c.args.book.now c.args.entries) c.in-Some.ensures.items c.in_ok-replay_one.ensures.ok c.loop-entry.invariant

pub returns : goal.returns
returns c = replay_end c.loop-entry.book c.loop-entry.rest.items (replayed c.args.book.now c.args.entries) (nil_from_length c.loop-entry.rest.items (omega (arith, c.in_default.ensures.cases.0, c.loop-entry.rest.ok))) c.loop-entry.invariant
