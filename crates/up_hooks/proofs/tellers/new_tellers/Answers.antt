use Rattle.std.proofs.Common.{◌+◌, ap, ◌∙◌}
use Rattle.std.proofs.lemmas.List.{length_push}
use Rattle.std.proofs.lemmas.List.Elements.{All-push}
use Rattle.up_hooks.proofs.tellers.new_tellers.Goals as goal
use Rattle.up_hooks.proofs.tellers.new_tellers.Invariants.{IsNew}

pub loop-preserved : goal.loop-preserved
loop-preserved g c = rw c.in_ok-push.ensures.items (
  length_push c.loop.made.items c.new.result ∙ ap (λ n. n + 1) c.loop.invariant.0,
  All-push (IsNew g) c.loop.made.items c.new.result c.loop.invariant.1 (c.new.ensures.sound, c.new.ensures.handed),
)
