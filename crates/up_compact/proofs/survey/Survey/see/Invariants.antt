use Rattle.std.proofs.Common.{◌≡◌, drop}
use Rattle.up_compact.specs.Surveys.{saw_all}
use Rattle.up_compact.proofs.survey.Survey.see.Given as goal

abbrev pub invariant-loop-entry : goal.invariant-loop-entry
invariant-loop-entry l = saw_all l.self (drop l.entry-index l.entries) ≡ saw_all l.fn.self l.entries
