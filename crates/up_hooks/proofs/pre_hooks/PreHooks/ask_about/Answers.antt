use Rattle.up_hooks.proofs.pre_hooks.PreHooks.ask_about.Goals as goal

pub returns-clause-about : goal.returns-clause-about
returns-clause-about g c = (
  c.ask_each-before.result,
  rw c.deref.ensures.value at c.ask_each-before.ensures.closures,
  c.ask_if_last.ensures.closures,
)

pub returns-clause-closures : goal.returns-clause-closures
returns-clause-closures g c = (c.args.origin.now, returns-clause-about g c)
