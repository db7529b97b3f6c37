use Rattle.std.proofs.Common.{◌++◌, ap}
use Rattle.std.specs.List.{flat_map}
use Rattle.up_wire.specs.Response.{field_line, length_line, gap_text}
use Rattle.up_wire.proofs.Writing.{writes_as, cut_at, then_at}
use Rattle.up_wire.proofs.response.write_head.Goals as goal

pub returns-then-not-write_start : goal.returns-then-not-write_start
returns-then-not-write_start g c =
    let r = c.args.response.now in
    let after = length_line c.args.bare r ++ gap_text c.args.close in
    cut_at (flat_map field_line r.fields ++ after) c.if-not-write_start.true c.write_start.ensures

pub returns-then-not-write_fields : goal.returns-then-not-write_fields
returns-then-not-write_fields g c =
    let r = c.args.response.now in
    let after = length_line c.args.bare r ++ gap_text c.args.close in
    let fields = writes_as (ap (flat_map field_line) c.as_slice.ensures) c.write_fields.ensures in
    then_at c.if-not-write_start.false c.write_start.ensures (cut_at after c.if-not-write_fields.true fields)

pub returns-then-not-write_length : goal.returns-then-not-write_length
returns-then-not-write_length g c =
    let fields = writes_as (ap (flat_map field_line) c.as_slice.ensures) c.write_fields.ensures in
    then_at c.if-not-write_start.false c.write_start.ensures
    (then_at c.if-not-write_fields.false fields (cut_at (gap_text c.args.close) c.if-not-write_length.true c.write_length.ensures))

pub returns : goal.returns
returns g c =
    let fields = writes_as (ap (flat_map field_line) c.as_slice.ensures) c.write_fields.ensures in
    then_at c.if-not-write_start.false c.write_start.ensures
    (then_at c.if-not-write_fields.false fields (then_at c.if-not-write_length.false c.write_length.ensures c.write_gap.ensures))
