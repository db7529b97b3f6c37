use Rattle.std.proofs.Common.{◌≡◌, take}
use Rattle.std.specs.Prelude.{codes}
use Rattle.std.specs.List.{list_any}
use Rattle.up_message.specs.Fields.{values}
use Rattle.up_wire.specs.Framing.{is_continue}
use Rattle.up_wire.proofs.connection.expects_continue.Given as goal

abbrev pub invariant-loop-field : goal.invariant-loop-field
invariant-loop-field l = l.asks ≡ list_any is_continue (values (codes "expect") (take l.field-index l.fields))
