use Rattle.std.proofs.Common.{rules, inl, inr, ◌+◌, take, drop, sym, arith, add-one}
use Rattle.std.proofs.Math.Seq.{split_at}
use Rattle.std.proofs.lemmas.List.{take_all}
use Rattle.std.proofs.lemmas.List.Elements.{All-more}
use Rattle.up_hooks.specs.MayAnswer.{LetsPassOrAllows}
use Rattle.up_hooks.proofs.pre_hooks.ask_each.Goals as goal
use Rattle.up_hooks.proofs.pre_hooks.ask_each.Goals.{then-is_of+in_default, else-is_of}

pub returns-in-Refuse-clause-closures : goal.returns-in-Refuse-clause-closures
returns-in-Refuse-clause-closures g c = (
  take c.loop-hook.hook-index c.args.hooks.now,
  c.hook-item.result,
  drop (c.loop-hook.hook-index + 1) c.args.hooks.now,
  rw (add-one, c.hook-item.is) (split_at c.args.hooks.now c.loop-hook.hook-index c.hook-item.result (omega arith)),
  c.loop-hook.invariant,
  search rules,
  c.in-Refuse.ensures.answer,
)

pub loop-hook-preserved : goal.loop-hook-preserved
loop-hook-preserved g c = All-more (LetsPassOrAllows c.args.ask.now) c.args.hooks.now c.loop-hook.hook-index c.hook-item.result (omega arith) c.loop-hook.invariant
    (rw (← c.hook-item.is) (elim c.if-is_of.branch [ then-is_of+in_default w ↦ (λ e. w.in_default.ensures.answer) | else-is_of w ↦ (λ e. absurd (search rules)) ]))

pub returns-in-Create : goal.returns-in-Create
returns-in-Create g c = record {
  closures = (elim c.in-Create.is [ inl e ↦ (λ f. absurd (cc)) | inr e ↦ (λ f. absurd (cc)) ], rw (sym (take_all c.loop-hook.hook-index c.args.hooks.now (omega arith))) c.loop-hook.invariant);
  status = search rules;
}

pub returns-in-Finish-clause-closures : goal.returns-in-Finish-clause-closures
returns-in-Finish-clause-closures g c = (c.in-Finish.is, rw (sym (take_all c.loop-hook.hook-index c.args.hooks.now (omega arith))) c.loop-hook.invariant)
