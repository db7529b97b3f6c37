use Rattle.up_tests.proofs.hooks.recording.hand_all.Given as goal

-- it can be called
abbrev pub invariant-loop-event : goal.invariant-loop-event
invariant-loop-event g l = g.H.PostHook.is_sound l.hook
