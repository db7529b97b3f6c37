use Rattle.std.proofs.Common.{rules, sym, ap, subst}
use Rattle.up_queue.specs.Line.{IsOrderly}
use Rattle.up_queue.proofs.Moves.{no_items}
use Rattle.up_queue.proofs.ends.made.Goals as goal

pub invariant_of-put_end : goal.invariant_of-put_end
invariant_of-put_end g c = record { line = search rules; role = search rules; orderly = subst IsOrderly (sym (ap (λ v. v.put) c.in_ok-line.ensures.puts)) no_items; counted = search rules }

pub invariant_of-take_end : goal.invariant_of-take_end
invariant_of-take_end g c = record { line = search rules; role = search rules; orderly = subst IsOrderly (sym (ap (λ v. v.taken) c.in_ok-line.ensures.takes)) no_items; counted = search rules }

pub open-requires-clause-room : goal.open-requires-clause-room
open-requires-clause-room g c = search rules

pub returns : goal.returns
returns g c = search rules
