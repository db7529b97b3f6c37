use Rattle.std.proofs.Common.{◌++◌}
use Rattle.up_wire.proofs.ChunkedTexts.{crlf_after}
use Rattle.up_wire.proofs.Counting.{took_on, took_so}
use Rattle.up_wire.proofs.chunks.read_crlf.Goals as goal

pub returns-in-Ok : goal.returns-in-Ok
returns-in-Ok g c =
    let a = c.in-Ok.ensures in
    let b = c.read_byte-in-Ok.ensures in
    record {
      input = a.input ++ b.input;
      ending = b.ending;
      took = took_on (took_so a.took a.is.1) b.took;
      is = crlf_after a.input b.input b.ending c.read_byte-in-Ok.result a.is.0 b.is;
    }
