use Rattle.std.proofs.Common.{◌≡◌, ◌++◌, ◌∷◌, []}
use Rattle.std.proofs.lemmas.Result.{err_from_is_err_and}
use Rattle.up_log.specs.Reading.{so_many_at, pair_at}
use Rattle.up_log.proofs.Loop.{goes_on, ends, is_done}
use Rattle.up_log.proofs.reading.so_many_pairs.Goals as goal

pub returns-in_err-pair : goal.returns-in_err-pair
returns-in_err-pair c =
    let p = err_from_is_err_and c.from_residual.result c.from_residual.ensures.1 in
    rw (p.1, p.2) (ends pair_at c.in_err-pair.field-0.0 c.loop.pairs c.args.count c.loop.counter c.loop.rest.now (so_many_at pair_at c.args.count c.args.bytes.now) c.loop-test.true c.in_err-pair.ensures c.loop.invariant)

pub loop-preserved : goal.loop-preserved
loop-preserved c =
    let n = c.in_ok-pair.pair in
    let e : c.push.new.self ≡ c.loop.pairs ++ n ∷ [] = c.in_ok-push.ensures.ok in
    rw e (goes_on pair_at c.loop.pairs c.args.count c.loop.counter c.loop.rest.now n c.in_ok-pair.after.now (so_many_at pair_at c.args.count c.args.bytes.now) c.loop-test.true c.in_ok-pair.ensures c.loop.invariant)

pub returns : goal.returns
returns c = is_done pair_at c.loop.pairs c.args.count c.loop.counter c.loop.rest.now (so_many_at pair_at c.args.count c.args.bytes.now) c.loop-test.false c.loop.invariant
