use Rattle.std.proofs.Common.{◌≡◌, ◌+◌, ◌++◌, All, vec_len, []}
use Rattle.std.specs.Vec.Iter.{into_iter_items, into_iter_len}
use Rattle.up_handed.specs.Withholds.{IsWithheld, withheld_hooks}
use Rattle.up_handed.proofs.withheld.withhold_each.Given as goal

abbrev pub invariant-loop-hook : goal.invariant-loop-hook
invariant-loop-hook g l =
    record {
      count : vec_len l.made + into_iter_len l.hook-iterator ≡ vec_len l.fn.hooks;
      new : All (λ h. g.H.PostHook.is_sound h × (g.H.PostHook.handed h ≡ [])) (into_iter_items l.hook-iterator);
      made : All (λ w. (g.H.PostHook.is_sound w.hook × IsWithheld g.H.PostHook g.P.Permission.given w) × (g.H.PostHook.handed w.hook ≡ [])) l.made.items;
      same : withheld_hooks l.made.items ++ into_iter_items l.hook-iterator ≡ l.fn.hooks.items;
    }
