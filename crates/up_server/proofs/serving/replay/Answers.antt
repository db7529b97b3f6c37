use Rattle.std.proofs.Common.{inr, rules, arith, slice_index_or}
use Rattle.std.proofs.lemmas.Grind.{common_steps}
use Rattle.up_queue.specs.EndViews.{no_queue}
use Rattle.up_server.proofs.serving.replay.Goals as goal

pub returns : goal.returns
returns g c =
    let queues = c.in-Ok.parts.queues in
    let sink = c.run.new.sink in
    inr (
      (λ lane. slice_index_or queues lane no_queue),
      c.in-Ok-run.served,
      g.W.Sink.device sink,
      c.in-Ok-run.ensures.run,
      c.in-Ok-run.ensures.sound,
      c.run_outcome.ensures,
    )

pub run-requires-clause-lanes : goal.run-requires-clause-lanes
run-requires-clause-lanes g c κs within = search rules

pub run-requires-clause-one_for_each : goal.run-requires-clause-one_for_each
run-requires-clause-one_for_each g c κs within = grind (arith, common_steps)
