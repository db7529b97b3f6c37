-- The fields of an end, and what contracts see of them.
use Rattle.std.specs.Prelude.{◌≡◌, ◌%◌, ◌^◌, length}
use Rattle.std.specs.Arc.{arc_value}
use Rattle.crossbeam_queue.specs.Passes.{view, IsPassOf, ruled_capacity}
use Rattle.up_queue.specs.declared.ends.PutEnd.TheInside.{Inside as PutInside}
use Rattle.up_queue.specs.declared.ends.TakeEnd.TheInside.{Inside as TakeInside}
use Rattle.up_queue.specs.Line.{IsOrderly}
use Rattle.up_queue.specs.Rule.{putting, taking}
use Rattle.up_queue.specs.EndViews.{PutEndView, TakeEndView}

abbrev pub put_end_view : PutInside → PutEndView
put_end_view e = record { queue = e.pass.table_id; capacity = (view e.pass).capacity; put = (view e.pass).put }

-- the pass belongs to the line, and puts; what was put is orderly, and is counted
pub record IsPutEnd (e : PutInside) : Type 0 where
  pub line : IsPassOf (arc_value e.line) e.pass
  pub role : view e.pass ≡ putting (ruled_capacity (arc_value e.line)) (view e.pass).put
  pub orderly : IsOrderly (view e.pass).put
  pub counted : e.count ≡ length (view e.pass).put % 2 ^ 64

abbrev pub take_end_view : TakeInside → TakeEndView
take_end_view e = record { queue = e.pass.table_id; capacity = (view e.pass).capacity; taken = (view e.pass).taken }

-- the pass belongs to the line, and takes; what was taken is orderly, and is counted
pub record IsTakeEnd (e : TakeInside) : Type 0 where
  pub line : IsPassOf (arc_value e.line) e.pass
  pub role : view e.pass ≡ taking (ruled_capacity (arc_value e.line)) (view e.pass).taken
  pub orderly : IsOrderly (view e.pass).taken
  pub counted : e.count ≡ length (view e.pass).taken % 2 ^ 64
