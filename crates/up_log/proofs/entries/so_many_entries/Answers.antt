use Rattle.std.proofs.Common.{◌≡◌, ◌++◌, ◌∷◌, []}
use Rattle.std.proofs.lemmas.Result.{err_from_is_err_and}
use Rattle.up_log.specs.Reading.{so_many_at, entry_at}
use Rattle.up_log.proofs.Loop.{goes_on, ends, is_done}
use Rattle.up_log.proofs.entries.so_many_entries.Goals as goal

pub returns-in_err-entry : goal.returns-in_err-entry
returns-in_err-entry g c =
    let field = entry_at (g.C.Contents.content c.args.files.now) in
    let p = err_from_is_err_and c.from_residual.result c.from_residual.ensures.1 in
    rw (p.1, p.2) (ends field c.in_err-entry.field-0.0 c.loop.entries c.args.count c.loop.counter c.loop.rest.now (so_many_at field c.args.count c.args.bytes.now) c.loop-test.true c.in_err-entry.ensures c.loop.invariant)

pub loop-preserved : goal.loop-preserved
loop-preserved g c =
    let field = entry_at (g.C.Contents.content c.args.files.now) in
    let n = c.in_ok-entry.entry in
    let e : c.push.new.self ≡ c.loop.entries ++ n ∷ [] = c.in_ok-push.ensures.ok in
    rw e (goes_on field c.loop.entries c.args.count c.loop.counter c.loop.rest.now n c.in_ok-entry.after.now (so_many_at field c.args.count c.args.bytes.now) c.loop-test.true c.in_ok-entry.ensures c.loop.invariant)

pub returns : goal.returns
returns g c =
    let field = entry_at (g.C.Contents.content c.args.files.now) in
    is_done field c.loop.entries c.args.count c.loop.counter c.loop.rest.now (so_many_at field c.args.count c.args.bytes.now) c.loop-test.false c.loop.invariant
