use Rattle.std.proofs.Common.{◌≡◌, ◌-◌, ℕ, ap, sym, ◌∙◌, arith}
use Rattle.up_tie.specs.Ties.{Span}
use Rattle.up_store.specs.Lines.{Progress, has_had_turn}
use Rattle.up_store.proofs.Turns.{passes}
use Rattle.up_store.proofs.line.Line.end_turn.Goals as goal

pub returns-then-self-gt0 : goal.returns-then-self-gt0
returns-then-self-gt0 g c =
    let inside = c.self.inside in
    let line : Span → ℕ → Progress = λ span lost. record {
      drawn = inside.drawn;
      waiting = inside.waiting.items;
      done = span.number;
      count = span.count;
      lost = lost;
      is_writing = inside.is_writing;
      is_held = inside.is_held;
      is_over = inside.is_over;
      is_for_removals = inside.is_for_removals;
      place = inside.place;
      decided = span.place;
    } in
    let none : inside.on_disk.count ≡ 0 = omega (arith, c.count.ensures, c.if-count-gt0.false) in
    ap (λ (span : Span). line span (inside.lost - 1)) (c.skip.ensures.none none)
    ∙ (sym (passes (line inside.on_disk inside.lost) none c.if-self-gt0.true) ∙ ap has_had_turn c.self.view_is)
