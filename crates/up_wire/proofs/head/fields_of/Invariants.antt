use Rattle.std.proofs.Common.{◌≡◌, take, map}
use Rattle.httparse.specs.Spans.{header_bytes}
use Rattle.up_wire.proofs.head.fields_of.Given as goal

abbrev pub invariant-loop-span : goal.invariant-loop-span
invariant-loop-span l = l.fields ≡ map (header_bytes l.text) (take l.span-index l.spans)
