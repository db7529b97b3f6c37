use Rattle.std.proofs.Common.{◌≡◌, ◌+◌, length, inl, refl, arith}
use Rattle.std.proofs.lemmas.Grind.{common_steps}
use Rattle.up_log.specs.Staging.{closed_body}
use Rattle.up_log.proofs.Crash.{either_settled, next_place, on_err, opened, when_ok}
use Rattle.up_log.proofs.Pieces.{body_leaves, body_rests, body_stands, opening_leaves}
use Rattle.up_log.proofs.appending.Log.append.Goals as goal

pub returns-in_err-staged-clause-crash : goal.returns-in_err-staged-clause-crash
returns-in_err-staged-clause-crash g c = λ setup batches s left now.
    inl (body_leaves g.D.Disk setup batches c.args.entries.now c.args.self.now.gate c.args.self.now.device c.stage-staged.new.disk s.file s.place c.stage-staged.ensures.whole.0 s.durable left now)

pub returns-in_err-staged-clause-kept : goal.returns-in_err-staged-clause-kept
returns-in_err-staged-clause-kept g c = λ setup batches s.
    on_err _ (either_settled _ (λ is.
    let settled = c.stage-staged.ensures.settled is in
    record {
      file = body_rests g.D.Disk setup batches c.args.entries.now c.args.self.now.gate c.args.self.now.device c.stage-staged.new.disk s.file s.place c.stage-staged.ensures.whole.0;
      place = s.place;
      durable = settled.0;
      usable = settled.1;
    }))

pub returns-in_err-write_synced-clause-crash : goal.returns-in_err-write_synced-clause-crash
returns-in_err-write_synced-clause-crash g c = λ setup batches s left now.
    let staged = c.stage-staged.ensures in
    let synced = staged.settled (when_ok _ _ c.in_ok-staged.was staged.synced) in
    opening_leaves g.D.Disk setup batches c.args.entries.now c.args.self.now.gate c.args.self.now.device c.stage-staged.new.disk s.file s.place staged.whole.0
    (when_ok _ _ c.in_ok-staged.was staged.whole.1) c.write_synced.new.disk synced.0 c.write_synced.ensures.crash left now

pub returns-clause-crash : goal.returns-clause-crash
returns-clause-crash g c = λ setup batches s left now.
    let staged = c.stage-staged.ensures in
    let synced = staged.settled (when_ok _ _ c.in_ok-staged.was staged.synced) in
    opening_leaves g.D.Disk setup batches c.args.entries.now c.args.self.now.gate c.args.self.now.device c.stage-staged.new.disk s.file s.place staged.whole.0
    (when_ok _ _ c.in_ok-staged.was staged.whole.1) c.write_synced.new.disk synced.0 c.write_synced.ensures.crash left now

pub returns-clause-durable : goal.returns-clause-durable
returns-clause-durable g c = λ setup batches s.
    let gate = c.args.self.now.gate in
    let more = c.args.entries.now in
    let staged = c.stage-staged.ensures in
    let stands = body_stands g.D.Disk setup batches more gate c.args.self.now.device c.stage-staged.new.disk s.file s.place staged.whole.0 (when_ok _ _ c.in_ok-staged.was staged.whole.1) in
    let end_is : c.in-Some.end ≡ gate + length (closed_body more) = omega (arith, c.in-Some.ensures, c.in_ok-size.ensures.size) in
    record {
      file = opened setup batches more gate (g.D.Disk.seen c.stage-staged.new.disk) (g.D.Disk.seen c.write_synced.new.disk) stands s.place c.write_synced.ensures.others c.in_ok-write_synced.ensures.written;
      place = next_place setup batches more gate c.in-Some.end (closed_body more) s.place refl end_is;
      durable = c.in_ok-write_synced.ensures.synced;
      usable = c.in_ok-write_synced.ensures.usable;
    }

pub returns-in_err-size-clause-crash : goal.returns-in_err-size-clause-crash
returns-in_err-size-clause-crash g c = grind (arith, common_steps)

pub returns-in_err-size-clause-kept : goal.returns-in_err-size-clause-kept
returns-in_err-size-clause-kept g c = grind (arith, common_steps)

pub returns-in_err-size-clause-memory : goal.returns-in_err-size-clause-memory
returns-in_err-size-clause-memory g c = grind (arith, common_steps)

pub returns-in_default-clause-crash : goal.returns-in_default-clause-crash
returns-in_default-clause-crash g c = grind (arith, common_steps)

pub returns-in_default-clause-kept : goal.returns-in_default-clause-kept
returns-in_default-clause-kept g c = grind (arith, common_steps)

pub returns-in_err-staged-clause-memory : goal.returns-in_err-staged-clause-memory
returns-in_err-staged-clause-memory g c = grind (arith, common_steps)

pub returns-in_err-write_synced-clause-kept : goal.returns-in_err-write_synced-clause-kept
returns-in_err-write_synced-clause-kept g c = grind (arith, common_steps)

pub returns-in_err-write_synced-clause-memory : goal.returns-in_err-write_synced-clause-memory
returns-in_err-write_synced-clause-memory g c = grind (arith, common_steps)

pub returns-then-self-clause-crash : goal.returns-then-self-clause-crash
returns-then-self-clause-crash g c = grind (arith, common_steps)

pub returns-then-self-clause-kept : goal.returns-then-self-clause-kept
returns-then-self-clause-kept g c = grind (arith, common_steps)
