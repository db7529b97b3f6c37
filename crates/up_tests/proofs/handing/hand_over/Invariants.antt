use Rattle.up_tests.proofs.handing.hand_over.Given as goal

-- the post-hook can be called
abbrev pub invariant-loop-number : goal.invariant-loop-number
invariant-loop-number g l = g.H.PostHook.is_sound l.hook
