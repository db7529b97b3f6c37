use Rattle.std.proofs.Common.{arith, refl, [], ◌∷◌}
use Rattle.up_wire.proofs.Lines.{short_in_line}
use Rattle.up_wire.proofs.device.Source.take_in_line.Goals as goal

pub returns-in-Byte-clause-bytes : goal.returns-in-Byte-clause-bytes
returns-in-Byte-clause-bytes g c =
    let run = c.in-Byte.byte ∷ [] in
    (run, c.in-Byte.ensures.bytes, c.push_reserved.ensures.items, (refl, omega arith, omega (arith, c.requires.some)), short_in_line run (omega arith))
