use Rattle.std.proofs.Common.{◌≡◌, ◌≢◌, ◌<◌, ◌++◌, length, true, false, ap, ◌∙◌, subst, arith, append_assoc, refl}
use Rattle.std.proofs.lemmas.Grind.{common_steps}
use Rattle.std.proofs.lemmas.List.{length-append}
use Rattle.std.proofs.lemmas.List.Elements.{All-append}
use Rattle.up_wire.specs.Message.{open_yet}
use Rattle.up_wire.specs.Steps.{EndsInFeed}
use Rattle.up_wire.proofs.Counting.{took_more}
use Rattle.up_wire.proofs.Lines.{ended_run, open_run, ended_behind}
use Rattle.up_wire.proofs.line.take_line.Goals as goal

pub returns-then-ends_in_feed-clause-answer : goal.returns-then-ends_in_feed-clause-answer
returns-then-ends_in_feed-clause-answer g c =
    let old = c.runs.invariant.line in
    let run = c.in-Moved.ensures.bytes in
    let before = c.make_room.new.buffer.items in
    let same : c.deref.result.now ≡ before ++ run.0 = c.deref.ensures.value ∙ run.2 in
    let ends : EndsInFeed (before ++ run.0) true = subst (λ t. EndsInFeed t true) same c.if-ends_in_feed.ensures in
    let some : 0 < length run.0 = omega (arith, run.3) in
    record {
      input = old.0 ++ run.0;
      ending = open_yet;
      took = took_more run.0 old.1 run.1 c.in-Moved.ensures.interrupted;
      is = (
        run.2 ∙ ap (λ l. l ++ run.0) (c.make_room.ensures.items ∙ old.2) ∙ append_assoc c.args.text.now.items old.0 run.0,
        (ended_behind old.0 run.0 old.3 (ended_run before run.0 run.4 some ends), refl),
      );
    }

pub runs-preserved-else-ends_in_feed : goal.runs-preserved-else-ends_in_feed
runs-preserved-else-ends_in_feed g c =
    let old = c.runs.invariant.line in
    let run = c.in-Moved.ensures.bytes in
    let before = c.make_room.new.buffer.items in
    let same : c.deref.result.now ≡ before ++ run.0 = c.deref.ensures.value ∙ run.2 in
    let ends : EndsInFeed (before ++ run.0) false = subst (λ t. EndsInFeed t false) same c.if-ends_in_feed.ensures in
    record {
      line = (
        old.0 ++ run.0,
        took_more run.0 old.1 run.1 c.in-Moved.ensures.interrupted,
        run.2 ∙ ap (λ l. l ++ run.0) (c.make_room.ensures.items ∙ old.2) ∙ append_assoc c.args.text.now.items old.0 run.0,
        All-append (λ b. b ≢ 10) old.0 run.0 old.3 (open_run before run.0 run.4 ends),
      );
      within = omega (arith, ap length run.2, length-append before run.0, run.3, ap length c.make_room.ensures.items, c.min-room.ensures);
    }

pub returns-then-ends_in_feed-clause-within : goal.returns-then-ends_in_feed-clause-within
returns-then-ends_in_feed-clause-within g c = grind (arith, common_steps)

pub runs-smaller-else-ends_in_feed : goal.runs-smaller-else-ends_in_feed
runs-smaller-else-ends_in_feed g c = grind (arith, common_steps)
