use Rattle.std.proofs.Common.{◌≡◌, take, true, ◌<◌, ◌≤◌, ◌-◌, ◌%◌, length}
use Rattle.up_wire.specs.Shown.{Shows}
use Rattle.up_wire.proofs.shown.write_place.Given as goal

abbrev pub invariant-spans : goal.invariant-spans
invariant-spans g l = record {
  shown : Shows g.W.Sink g.S.Shelf l.fn.sink l.sink l.fn.shelf l.shelf l.fn.interruptions l.interruptions (take l.from l.place.bytes) true;
  stays : g.S.Shelf.is_true l.shelf → g.S.Shelf.is_true l.fn.shelf;
  within : l.from ≤ length l.place.bytes;
  whole : l.from < length l.place.bytes → l.from % 65_536 ≡ 0;
}

abbrev pub decreases-spans : goal.decreases-spans
decreases-spans g l = length l.place.bytes - l.from
