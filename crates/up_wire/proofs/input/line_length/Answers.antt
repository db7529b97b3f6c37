use Rattle.std.proofs.Common.{◌≡◌, length, take, add-one, inl, inr, arith, subst, sym}
use Rattle.std.proofs.Math.Seq.{take-length}
use Rattle.up_wire.specs.Device.{IsInLine}
use Rattle.up_wire.proofs.Lines.{ended_at, has_none}
use Rattle.up_wire.proofs.input.line_length.Goals as goal

pub returns-in-Some-clause-in_line : goal.returns-in-Some-clause-in_line
returns-in-Some-clause-in_line c =
    let found = c.in-Some.ensures in
    rw (add-one c.in-Some.at) (inr (ended_at c.args.bytes.now c.in-Some.at found.0.high found.1 (λ k below. found.0.before k (omega arith) below)))

pub returns-in-None-clause-in_line : goal.returns-in-None-clause-in_line
returns-in-None-clause-in_line c =
    let all : take (length c.args.bytes.now) c.args.bytes.now ≡ c.args.bytes.now = take-length c.args.bytes.now in
    subst IsInLine (sym all) (inl (has_none c.args.bytes.now (λ k below. c.in-None.ensures k (omega arith) below)))
