use Rattle.std.proofs.Common.{◌≡◌, ◌+◌, ◌++◌, All, vec_len, []}
use Rattle.std.specs.Iterator.Adapters.{zip_first, zip_second}
use Rattle.std.specs.Vec.Iter.{into_iter_items, into_iter_len}
use Rattle.up_handed.specs.Continues.{GoesOn, handed_events}
use Rattle.up_handed.specs.Openings.{hooks_of, counts_of, opened_counts}
use Rattle.up_handed.proofs.continuing.continue_each.Given as goal

abbrev pub invariant-loop-hook : goal.invariant-loop-hook
invariant-loop-hook g l =
    let done = vec_len l.made in
    record {
      hooks : done + into_iter_len (zip_first l.hook-iterator) ≡ vec_len l.fn.hooks;
      counts : done + into_iter_len (zip_second l.hook-iterator) ≡ vec_len l.fn.counts;
      new : All (λ h. g.H.PostHook.is_sound h × (g.H.PostHook.handed h ≡ [])) (into_iter_items (zip_first l.hook-iterator));
      made : All (λ n. GoesOn g.H.PostHook n.hook × (handed_events n.hook ≡ [])) l.made.items;
      same_hooks : hooks_of l.made.items ++ into_iter_items (zip_first l.hook-iterator) ≡ l.fn.hooks.items;
      same_counts : counts_of l.made.items ++ opened_counts (into_iter_items (zip_second l.hook-iterator)) ≡ opened_counts l.fn.counts.items;
    }
