use Rattle.std.proofs.Common.{[], inl, refl}
use Rattle.up_wire.specs.Message.{open_yet}
use Rattle.up_wire.proofs.Counting.{took_none}
use Rattle.up_wire.proofs.spooled.keep_body.Goals as goal

pub returns-in-Err : goal.returns-in-Err
returns-in-Err g c = record {
  input = [];
  ending = open_yet;
  took = took_none _ _ c.requires.patient;
  is = inl refl;
}
