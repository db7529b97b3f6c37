use Rattle.std.proofs.Common.{drop, inl, inr, sym, ◌∙◌, arith}
use Rattle.std.proofs.lemmas.List.{length-drop}
use Rattle.up_log.proofs.Batches.{nothing, nothing_open, something, first_byte}
use Rattle.up_log.proofs.block.begins_at.Goals as goal

pub returns-then-saturating_sub-lt2-clause-next : goal.returns-then-saturating_sub-lt2-clause-next
returns-then-saturating_sub-lt2-clause-next g c = λ left back is closed len clean.
    nothing left back (drop c.args.gate (g.D.Disk.seen c.args.disk.now)) is (inl (omega (arith, length-drop c.args.gate (g.D.Disk.seen c.args.disk.now), len, c.saturating_sub.ensures, c.if-saturating_sub-lt2.true)))

pub returns-then-byte-ne1-clause-next : goal.returns-then-byte-ne1-clause-next
returns-then-byte-ne1-clause-next g c = λ left back is closed len clean.
    let tail = drop c.args.gate (g.D.Disk.seen c.args.disk.now) in
    nothing left back tail is (inr (λ same. c.if-byte-ne1.true (first_byte tail c.read_from.new.buf (c.in_ok-read_from.ensures.bytes clean) ∙ same)))

pub returns-clause-next : goal.returns-clause-next
returns-clause-next g c = λ left back is closed len clean.
    let tail = drop c.args.gate (g.D.Disk.seen c.args.disk.now) in
    something left back tail is closed (omega (arith, length-drop c.args.gate (g.D.Disk.seen c.args.disk.now), len, c.saturating_sub.ensures, c.if-saturating_sub-lt2.false)) (sym (first_byte tail c.read_from.new.buf (c.in_ok-read_from.ensures.bytes clean)) ∙ c.if-byte-ne1.false)

pub returns-then-saturating_sub-lt2-clause-closed : goal.returns-then-saturating_sub-lt2-clause-closed
returns-then-saturating_sub-lt2-clause-closed g c = λ same len clean.
    nothing_open (drop c.args.gate (g.D.Disk.seen c.args.disk.now)) (inl (omega (arith, length-drop c.args.gate (g.D.Disk.seen c.args.disk.now), len, c.saturating_sub.ensures, c.if-saturating_sub-lt2.true)))

pub returns-then-byte-ne1-clause-closed : goal.returns-then-byte-ne1-clause-closed
returns-then-byte-ne1-clause-closed g c = λ same len clean.
    let tail = drop c.args.gate (g.D.Disk.seen c.args.disk.now) in
    nothing_open tail (inr (λ one. c.if-byte-ne1.true (first_byte tail c.read_from.new.buf (c.in_ok-read_from.ensures.bytes clean) ∙ one)))
