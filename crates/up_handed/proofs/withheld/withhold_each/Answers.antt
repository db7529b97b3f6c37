use Rattle.std.proofs.Common.{◌≡◌, [], ◌+◌, ◌++◌, map, vec_len, rules, arith, ap, subst, sym, ◌∙◌}
use Rattle.std.proofs.lemmas.List.Elements.{All-rest, All-push}
use Rattle.std.specs.Vec.Iter.{into_iter_items}
use Rattle.std.specs.List.{All}
use Rattle.up_handed.specs.Withholds.{IsWithheld}
use Rattle.up_handed.specs.declared.withheld.Withheld.{Withheld}
use Rattle.up_handed.proofs.Making.{grows, all_made}
use Rattle.up_handed.proofs.withheld.withhold_each.Goals as goal

pub loop-hook-preserved : goal.loop-hook-preserved
loop-hook-preserved g c =
    let step = c.in-Some.ensures.steps in
    let was = c.loop-hook.invariant in
    let fresh : g.row.H.Denot → Type 0 = λ h. g.H.PostHook.is_sound h × (g.H.PostHook.handed h ≡ []) in
    let sound : Withheld g.row.H.Denot g.row.P.Denot → Type 0 = λ w. (g.H.PostHook.is_sound w.hook × IsWithheld g.H.PostHook g.P.Permission.given w) × (g.H.PostHook.handed w.hook ≡ []) in
    let hook_of : Withheld g.row.H.Denot g.row.P.Denot → g.row.H.Denot = λ w. w.hook in
    let rest = into_iter_items c.next.new.self in
    let more : vec_len c.push.new.self ≡ vec_len c.loop-hook.made + 1 = search rules in
    record {
      count = omega (arith, more, step.1, was.count);
      new = All-rest fresh c.in-Some.hook (into_iter_items c.next.new.self) (into_iter_items c.loop-hook.hook-iterator) step.0 was.new;
      made = subst (All sound) (sym c.in_ok-push.ensures.items) (All-push sound c.loop-hook.made.items c.new.result was.made (c.new.ensures.sound, c.new.ensures.events));
      same = subst (λ l. map hook_of l ++ rest ≡ c.args.hooks.items) (sym c.in_ok-push.ensures.items)
          (grows hook_of c.loop-hook.made.items c.new.result c.in-Some.hook rest (into_iter_items c.loop-hook.hook-iterator) c.args.hooks.items c.new.ensures.hook step.0 was.same);
    }

pub returns-clause-hooks : goal.returns-clause-hooks
returns-clause-hooks g c =
    let hook_of : Withheld g.row.H.Denot g.row.P.Denot → g.row.H.Denot = λ w. w.hook in
    all_made hook_of c.loop-hook.made.items (into_iter_items c.loop-hook.hook-iterator) c.args.hooks.items c.loop-hook.invariant.same
    (omega (arith, c.loop-hook.invariant.count, c.in-None.ensures.steps.0, c.loop-hook.made.ok.0, c.args.hooks.ok.0))
