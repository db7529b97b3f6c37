use Rattle.std.proofs.Common.{◌≡◌, ◌⊎◌, inl, inr, ℕ, [], ◌++◌, ◌+◌, map, vec_len, rules, arith, ap, subst, sym, ◌∙◌}
use Rattle.std.proofs.lemmas.List.{length-map}
use Rattle.std.proofs.lemmas.List.Elements.{All-nil, All-head, All-rest, All-push}
use Rattle.std.specs.Iterator.Adapters.{zip_first, zip_second}
use Rattle.std.specs.Vec.Iter.{into_iter_items, into_iter_len}
use Rattle.std.specs.List.{All}
use Rattle.up_handed.specs.Continues.{GoesOn, handed_events}
use Rattle.up_handed.specs.Openings.{opened_counts}
use Rattle.up_handed.specs.declared.continued.Continued.{Continued}
use Rattle.up_handed.specs.declared.handed.Handed.{Handed}
use Rattle.up_handed.specs.declared.noting.Noting.{Noting}
use Rattle.up_handed.specs.declared.opened.Opened.{Opened}
use Rattle.up_handed.proofs.Making.{grows, all_made}
use Rattle.up_handed.proofs.continuing.continue_each.Goals as goal

-- a loop over two lists of the same length ends after as many turns
ended : {S T : Type 0} (first second done all : ℕ) (P : S → Type 0) (Q : T → Type 0) → ((u : S) × P u) ⊎ ((u : T) × Q u)
    → ((u : S) → P u → first ≡ 0) → ((u : T) → Q u → second ≡ 0) → done + first ≡ all → done + second ≡ all → done ≡ all
ended first second done all P Q (inl none) no_first no_second firsts seconds = omega (arith, no_first none.0 none.1, firsts)
ended first second done all P Q (inr none) no_first no_second firsts seconds = omega (arith, no_second none.0 none.1, seconds)

pub loop-hook-init : goal.loop-hook-init
loop-hook-init g c =
    let sound : Noting (Continued g.row.H.Denot g.row.D.Denot g.D.Disk) g.row.E.Denot → Type 0 = λ m. GoesOn g.H.PostHook m.hook × (handed_events m.hook ≡ []) in
    let fresh : g.row.H.Denot → Type 0 = λ h. g.H.PostHook.is_sound h × (g.H.PostHook.handed h ≡ []) in
    let hook_of : Noting (Continued g.row.H.Denot g.row.D.Denot g.D.Disk) g.row.E.Denot → g.row.H.Denot = λ m. m.hook.hook in
    let count_of : Noting (Continued g.row.H.Denot g.row.D.Denot g.D.Disk) g.row.E.Denot → Handed g.row.D.Denot g.D.Disk × ℕ = λ m. (m.hook.handed, m.hook.left_out) in
    let same : c.args.hooks.items ≡ into_iter_items (zip_first c.into_iter-hook-iterator.result) = search rules in
    let same_counts : c.args.counts.items ≡ into_iter_items (zip_second c.into_iter-hook-iterator.result) = search rules in
    record {
      hooks = search rules;
      counts = search rules;
      new = subst (All fresh) same c.requires.new;
      made = subst (All sound) (sym c.in_ok-made.ensures.items) (All-nil sound);
      same_hooks = ap (λ l. map hook_of l ++ into_iter_items (zip_first c.into_iter-hook-iterator.result)) c.in_ok-made.ensures.items ∙ sym same;
      same_counts = ap (λ l. map count_of l ++ opened_counts (into_iter_items (zip_second c.into_iter-hook-iterator.result))) c.in_ok-made.ensures.items ∙ ap (λ l. opened_counts l) (sym same_counts);
    }

pub without-continued-requires-clause-sound : goal.without-continued-requires-clause-sound
without-continued-requires-clause-sound g c = λ lives outlive.
    let fresh : g.row.H.Denot → Type 0 = λ h. g.H.PostHook.is_sound h × (g.H.PostHook.handed h ≡ []) in
    (All-head fresh c.in-Some.hook (into_iter_items (zip_first c.next.new.self)) (subst (All fresh) c.in-Some.ensures.steps.0.0 c.loop-hook.invariant.new)).0

pub loop-hook-preserved : goal.loop-hook-preserved
loop-hook-preserved g c =
    let step = c.in-Some.ensures.steps in
    let was = c.loop-hook.invariant in
    let fresh : g.row.H.Denot → Type 0 = λ h. g.H.PostHook.is_sound h × (g.H.PostHook.handed h ≡ []) in
    let sound : Noting (Continued g.row.H.Denot g.row.D.Denot g.D.Disk) g.row.E.Denot → Type 0 = λ m. GoesOn g.H.PostHook m.hook × (handed_events m.hook ≡ []) in
    let hook_of : Noting (Continued g.row.H.Denot g.row.D.Denot g.D.Disk) g.row.E.Denot → g.row.H.Denot = λ m. m.hook.hook in
    let count_of : Noting (Continued g.row.H.Denot g.row.D.Denot g.D.Disk) g.row.E.Denot → Handed g.row.D.Denot g.D.Disk × ℕ = λ m. (m.hook.handed, m.hook.left_out) in
    let made = c.loop-hook.made.items in
    let opened = c.in-Some.opened in
    let continued = c.without-continued.result in
    let left = into_iter_items (zip_second c.loop-hook.hook-iterator) in
    let rest = into_iter_items (zip_second c.next.new.self) in
    let same_count : count_of c.new.result ≡ (opened.handed, opened.left_out) =
    ap (λ (x : Continued g.row.H.Denot g.row.D.Denot g.D.Disk). (x.handed, x.left_out)) c.new.ensures.hook
    ∙ ap (λ h. (h, continued.left_out)) c.without-continued.ensures.handed
    ∙ ap (λ n. (opened.handed, n)) c.without-continued.ensures.left_out in
    let more : vec_len c.push.new.self ≡ vec_len c.loop-hook.made + 1 = search rules in
    record {
      hooks = omega (arith, more, step.0.1, was.hooks);
      counts = omega (arith, more, step.1.1, was.counts);
      new = All-rest fresh c.in-Some.hook (into_iter_items (zip_first c.next.new.self)) (into_iter_items (zip_first c.loop-hook.hook-iterator)) step.0.0 was.new;
      made = subst (All sound) (sym c.in_ok-push.ensures.items) (All-push sound c.loop-hook.made.items c.new.result was.made (subst (λ h. GoesOn g.H.PostHook h × (handed_events h ≡ [])) (sym c.new.ensures.hook) (c.without-continued.ensures.sound, c.without-continued.ensures.events)));
      same_hooks = subst (λ l. map hook_of l ++ into_iter_items (zip_first c.next.new.self) ≡ c.args.hooks.items) (sym c.in_ok-push.ensures.items)
          (grows hook_of made c.new.result c.in-Some.hook (into_iter_items (zip_first c.next.new.self)) (into_iter_items (zip_first c.loop-hook.hook-iterator)) c.args.hooks.items (ap (λ x. x.hook) c.new.ensures.hook ∙ c.without-continued.ensures.hook) step.0.0 was.same_hooks);
      same_counts = subst (λ l. map count_of l ++ opened_counts rest ≡ opened_counts c.args.counts.items) (sym c.in_ok-push.ensures.items)
          (grows count_of made c.new.result (opened.handed, opened.left_out) (opened_counts rest) (opened_counts left) (opened_counts c.args.counts.items) same_count (ap (λ l. opened_counts l) step.1.0) was.same_counts);
    }

pub returns-clause-hooks : goal.returns-clause-hooks
returns-clause-hooks g c =
    let hook_of : Noting (Continued g.row.H.Denot g.row.D.Denot g.D.Disk) g.row.E.Denot → g.row.H.Denot = λ m. m.hook.hook in
    let was = c.loop-hook.invariant in
    let first = into_iter_len (zip_first c.loop-hook.hook-iterator) in
    let second = into_iter_len (zip_second c.loop-hook.hook-iterator) in
    let count : vec_len c.loop-hook.made ≡ vec_len c.args.hooks =
    ended first second (vec_len c.loop-hook.made) (vec_len c.args.hooks) (λ u. (first ≡ 0) × (into_iter_len u ≡ 0)) (λ u. (second ≡ 0) × (into_iter_len u ≡ 0)) c.in-None.ensures.steps (λ u none. none.0) (λ u none. none.0) was.hooks (was.counts ∙ c.requires.one_each) in
    all_made hook_of c.loop-hook.made.items (into_iter_items (zip_first c.loop-hook.hook-iterator)) c.args.hooks.items was.same_hooks
    (omega (arith, count, c.loop-hook.made.ok.0, c.args.hooks.ok.0))

pub returns-clause-counts : goal.returns-clause-counts
returns-clause-counts g c =
    let count_of : Noting (Continued g.row.H.Denot g.row.D.Denot g.D.Disk) g.row.E.Denot → Handed g.row.D.Denot g.D.Disk × ℕ = λ m. (m.hook.handed, m.hook.left_out) in
    let in_opened : Opened g.row.D.Denot g.D.Disk → Handed g.row.D.Denot g.D.Disk × ℕ = λ o. (o.handed, o.left_out) in
    let was = c.loop-hook.invariant in
    let first = into_iter_len (zip_first c.loop-hook.hook-iterator) in
    let second = into_iter_len (zip_second c.loop-hook.hook-iterator) in
    let count : vec_len c.loop-hook.made ≡ vec_len c.args.counts =
    ended first second (vec_len c.loop-hook.made) (vec_len c.args.counts) (λ u. (first ≡ 0) × (into_iter_len u ≡ 0)) (λ u. (second ≡ 0) × (into_iter_len u ≡ 0)) c.in-None.ensures.steps (λ u none. none.0) (λ u none. none.0) (was.hooks ∙ sym c.requires.one_each) was.counts in
    all_made count_of c.loop-hook.made.items (map in_opened (into_iter_items (zip_second c.loop-hook.hook-iterator))) (map in_opened c.args.counts.items) was.same_counts
    (omega (arith, count, c.loop-hook.made.ok.0, c.args.counts.ok.0, length-map c.args.counts.items in_opened))
