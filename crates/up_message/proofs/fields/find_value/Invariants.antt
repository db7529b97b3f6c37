use Rattle.std.proofs.Common.{take}
use Rattle.up_message.specs.Fields.{values, IsOneOf}
use Rattle.up_message.proofs.fields.find_value.Given as goal

abbrev pub invariant-loop-field : goal.invariant-loop-field
invariant-loop-field l = IsOneOf l.found (values l.name (take l.field-index l.fields))
