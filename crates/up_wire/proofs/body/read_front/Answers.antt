use Rattle.std.proofs.Common.{◌∷◌}
use Rattle.up_wire.proofs.Counting.{took_on}
use Rattle.up_wire.proofs.body.read_front.Goals as goal

pub returns-in-Byte : goal.returns-in-Byte
returns-in-Byte g c =
    let more = c.read_large_front.ensures in
    record { input = c.in-Byte.first ∷ more.input; ending = more.ending; took = took_on c.in-Byte.ensures more.took; is = more.is }
