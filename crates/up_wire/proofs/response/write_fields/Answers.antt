use Rattle.std.proofs.Common.{refl, ap}
use Rattle.up_wire.specs.Response.{field_line}
use Rattle.up_wire.proofs.Writing.{none_written, each_whole, each_cut, each_next, writes_as}
use Rattle.up_wire.proofs.response.write_fields.Goals as goal

pub returns-then-not-write_field : goal.returns-then-not-write_field
returns-then-not-write_field g c =
    each_cut field_line c.args.fields.now c.loop-field.field-index c.field-item.result c.loop-field-test.true c.loop-field.invariant
    (writes_as (ap field_line c.field-item.is) c.write_field.ensures) c.if-not-write_field.true

pub loop-field-preserved : goal.loop-field-preserved
loop-field-preserved g c =
    each_next field_line c.args.fields.now c.loop-field.field-index c.field-item.result c.loop-field-test.true c.loop-field.invariant
    (writes_as (ap field_line c.field-item.is) c.write_field.ensures) c.if-not-write_field.false

pub loop-field-init : goal.loop-field-init
loop-field-init g c = none_written _ _ c.requires

pub write_field-requires : goal.write_field-requires
write_field-requires g c = c.loop-field.invariant.tries.patient refl

pub returns : goal.returns
returns g c = each_whole field_line c.args.fields.now c.loop-field.field-index c.loop-field-test.false c.loop-field.invariant
