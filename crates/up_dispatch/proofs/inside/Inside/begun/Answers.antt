use Rattle.std.proofs.Common.{◌≡◌, ◌<◌, ◌≤◌, ◌-◌, ℕ, length, ap, sym, ◌∙◌, arith}
use Rattle.up_events.specs.Records.{Records}
use Rattle.up_dispatch.specs.BoardView.{BoardView}
use Rattle.up_dispatch.proofs.inside.Inside.begun.Goals as goal

some_missing : (changes made all missing : ℕ) → all ≡ changes → missing ≡ all - made → 0 < missing → made < changes
some_missing changes made all missing same is some = omega arith

none_missing : (changes made all missing : ℕ) → all ≡ changes → missing ≡ all - made → missing ≤ 0 → changes ≤ made
none_missing changes made all missing same is none = omega arith

pub returns-then-missing-gt0-clause-refused : goal.returns-then-missing-gt0-clause-refused
returns-then-missing-gt0-clause-refused g c =
    let all = c.accepted_count.ensures.value ∙ ap (λ (j : Records). length j.accepted) c.journal.ensures.journal ∙ ap (λ (s : BoardView). length s.book.journal.accepted) c.self.view_is in
    some_missing _ _ c.accepted_count.result c.missing.result all c.missing.ensures c.if-missing-gt0.true

pub returns-in-Ok-clause-all_seats : goal.returns-in-Ok-clause-all_seats
returns-in-Ok-clause-all_seats g c =
    let all = c.accepted_count.ensures.value ∙ ap (λ (j : Records). length j.accepted) c.journal.ensures.journal ∙ ap (λ (s : BoardView). length s.book.journal.accepted) c.self.view_is in
    none_missing _ _ c.accepted_count.result c.missing.result all c.missing.ensures c.if-missing-gt0.false

pub returns-then-not-in_order-clause-refused : goal.returns-then-not-in_order-clause-refused
returns-then-not-in_order-clause-refused g c =
    let all = c.accepted_count.ensures.value ∙ ap (λ (j : Records). length j.accepted) c.journal.ensures.journal ∙ ap (λ (s : BoardView). length s.book.journal.accepted) c.self.view_is in
    let count : c.len.result ≡ g.B.Naming.lanes = omega (arith, c.len.ensures, c.self.inside.cursors.ok.0, c.self.invariant.lanes, c.self.invariant.named) in (
      none_missing _ _ c.accepted_count.result c.missing.result all c.missing.ensures c.if-missing-gt0.false,
      λ lanes. let yes = c.in_order.ensures.1 (lanes.0 ∙ sym count, lanes.1) in absurd (cc (yes, c.if-not-in_order.true)),
    )

pub returns-in-Ok-clause-all_lanes : goal.returns-in-Ok-clause-all_lanes
returns-in-Ok-clause-all_lanes g c =
    let count : c.len.result ≡ g.B.Naming.lanes = omega (arith, c.len.ensures, c.self.inside.cursors.ok.0, c.self.invariant.lanes, c.self.invariant.named) in
    let lanes = c.in_order.ensures.0 c.if-not-in_order.false in
    (lanes.0 ∙ count, lanes.1)

pub returns-in-Err-clause-refused : goal.returns-in-Err-clause-refused
returns-in-Err-clause-refused g c =
    let all = c.accepted_count.ensures.value ∙ ap (λ (j : Records). length j.accepted) c.journal.ensures.journal ∙ ap (λ (s : BoardView). length s.book.journal.accepted) c.self.view_is in
    let count : c.len.result ≡ g.B.Naming.lanes = omega (arith, c.len.ensures, c.self.inside.cursors.ok.0, c.self.invariant.lanes, c.self.invariant.named) in
    let lanes = c.in_order.ensures.0 c.if-not-in_order.false in
    (none_missing _ _ c.accepted_count.result c.missing.result all c.missing.ensures c.if-missing-gt0.false, (lanes.0 ∙ count, lanes.1))
