use Rattle.std.proofs.Common.{take, true}
use Rattle.std.specs.List.{flat_map}
use Rattle.up_wire.specs.Steps.{HasWritten}
use Rattle.up_wire.specs.Response.{field_line}
use Rattle.up_wire.proofs.response.write_fields.Given as goal

abbrev pub invariant-loop-field : goal.invariant-loop-field
invariant-loop-field g l =
    HasWritten (g.W.Sink.device l.fn.sink) (g.W.Sink.device l.sink) l.fn.interruptions l.interruptions (flat_map field_line (take l.field-index l.fields)) true
