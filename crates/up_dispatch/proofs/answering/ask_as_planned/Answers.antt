use Rattle.std.proofs.Common.{Ok, inr, sym, subst, ◌∙◌, rules}
use Rattle.up_hooks.specs.MayAnswer.{ClosuresMayAnswer}
use Rattle.up_machine.specs.declared.plan.Plan.{Plan}
use Rattle.up_dispatch.specs.Keeps.{AreAskedInTurn, IsAsked}
use Rattle.up_dispatch.proofs.answering.ask_as_planned.Goals as goal

pub returns-else-is_refusal : goal.returns-else-is_refusal
returns-else-is_refusal g c =
    let gives = ClosuresMayAnswer c.args.hooks.now in
    let asked : AreAskedInTurn gives c.in-AskBoth.first c.in-AskBoth.second c.ask_about-else-is_refusal.result =
    inr (c.ask_about-asked.result, c.ask_about-asked.ensures.closures, sym c.is_refusal.ensures ∙ c.if-is_refusal.false, c.ask_about-else-is_refusal.ensures.closures) in
    subst (λ (p : Plan). IsAsked gives (Ok p) c.ask_about-else-is_refusal.result) (sym c.in-AskBoth.is) asked

pub returns-in-Ask : goal.returns-in-Ask
returns-in-Ask g c = search rules
