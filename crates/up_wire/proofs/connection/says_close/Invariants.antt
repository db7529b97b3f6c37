use Rattle.std.proofs.Common.{◌≡◌, take}
use Rattle.std.specs.Prelude.{codes}
use Rattle.std.specs.List.{list_any}
use Rattle.up_message.specs.Fields.{values}
use Rattle.up_wire.specs.Framing.{has_token}
use Rattle.up_wire.proofs.connection.says_close.Given as goal

abbrev pub invariant-loop-field : goal.invariant-loop-field
invariant-loop-field l = l.closes ≡ list_any (has_token (codes "close")) (values (codes "connection") (take l.field-index l.fields))
