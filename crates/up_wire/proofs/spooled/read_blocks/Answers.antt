use Rattle.std.proofs.Common.{◌++◌, ◌≤◌, ◌+◌, subst, arith}
use Rattle.up_wire.specs.Steps.{IsBytesRead}
use Rattle.up_wire.proofs.Bodies.{put_away}
use Rattle.up_wire.proofs.Counting.{took_on, took_so}
use Rattle.up_wire.proofs.spooled.read_blocks.Goals as goal

pub returns-then-len-count : goal.returns-then-len-count
returns-then-len-count g c =
    let before = c.spans.invariant.read in
    let more = c.read_block-block.ensures in
    record {
      input = before.input ++ more.input;
      ending = more.ending;
      took = took_on (took_so before.took before.is.2) more.took;
      is = tt;
    }

pub returns-in_default : goal.returns-in_default
returns-in_default g c =
    let before = c.spans.invariant.read in
    let more = c.read_block-block.ensures in
    record {
      input = before.input ++ more.input;
      ending = more.ending;
      took = took_on (took_so before.took before.is.2) more.took;
      is = tt;
    }

pub returns-in-Err : goal.returns-in-Err
returns-in-Err g c =
    let before = c.spans.invariant.read in
    let more = c.read_block-block.ensures in
    let within : c.spans.done + c.min-count.result ≤ c.args.size = omega (arith, c.min-count.ensures, c.spans-test.true) in
    record {
      input = before.input ++ more.input;
      ending = more.ending;
      took = took_on (took_so before.took before.is.2) more.took;
      is = put_away (Unit {0}) c.args.size c.spans.done c.min-count.result before.input more.input _ _ _ more.ending c.in-Err.stop before.is.0 before.is.1 within more.is.0 c.in-Ok.ensures.put
          (subst (IsBytesRead c.min-count.result _ more.ending) c.in-Err.is more.is.1);
    }
