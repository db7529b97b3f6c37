use Rattle.std.proofs.Common.{◌≡◌, ◌++◌, ◌∷◌, [], List, Option, Ok, sym, ◌∙◌, ap, subst}
use Rattle.up_log.specs.Held.{AreHeld}
use Rattle.up_log.specs.Logs.{ReadsNext}
use Rattle.up_log.specs.declared.entry.Entry.{Entry}
use Rattle.up_log.proofs.Batches.{held_left, held_next}
use Rattle.up_tie.proofs.Batches.{entries_of-push}
use Rattle.up_tie.proofs.reading.Reading.next_batch.Goals as goal
use Rattle.up_tie.proofs.reading.Reading.next_batch.Goals.{in-Some+else-not-add_all, in_default}

pub invariant_of-result : goal.invariant_of-result
invariant_of-result g c = λ premise clean.
    let content = g.C.Contents.content c.self.inside.files in
    let read = c.self.invariant premise (c.next_batch.ensures.clean clean) in
    let next = c.in_ok-found.ensures.reads g.J.Site.setup read.0 read.1 read.2 clean in
    elim c.match-found.branch [
      | in-Some+else-not-add_all w ↦
          let entries = w.in-Some.entries in
          let one = subst (λ (f : Option (List Entry)). ReadsNext g.D.Disk content c.next_batch.new.self g.J.Site.setup read.0 read.1 (Ok f)) w.in-Some.is next in
          let here = subst (AreHeld content) one.2 read.3 in
          let first = one.0 in
          let are = one.3 ∙ held_next content first one.1 here in
          let front : c.match-found.front ≡ c.self.inside.front ++ entries = w.front-is ∙ w.if-not-add_all.ensures ∙ ap (λ (l : List Entry). c.self.inside.front ++ l) w.as_slice.ensures in
          let whole = entries_of-push read.0 first ∙ ap (λ (l : List Entry). l ++ first) read.4 ∙ ap (λ (l : List Entry). c.self.inside.front ++ l) (sym are) ∙ sym front in
          (read.0 ++ first ∷ [], one.1, one.4, held_left content first one.1 here, whole)
      | in_default w ↦
          let none = subst (λ (f : Option (List Entry)). ReadsNext g.D.Disk content c.next_batch.new.self g.J.Site.setup read.0 read.1 (Ok f)) w.in_default.is next in
          (read.0, read.1, none.1, read.3, read.4 ∙ sym w.front-is)
    ]
