use Rattle.std.proofs.Common.{◌≡◌, true, Some, ◌++◌, ◌∷◌, [], sym, ap, ◌∙◌, subst}
use Rattle.std.specs.FinMap as map
use Rattle.up_events.specs.History.{is_alive}
use Rattle.up_events.specs.declared.event.Accepted.TheVariants.{Terminated}
use Rattle.up_machine.specs.State.{Contents, State}
use Rattle.up_machine.specs.Fits.{Fits}
use Rattle.up_machine.proofs.FitsLemmas.{alive_at, fits_terminated, sound_after}
use Rattle.up_machine.proofs.FreshLemmas.{fresh_after, stays_removed}
use Rattle.up_machine.proofs.book.Book.delete.Goals as goal

pub invariant_of-self-2 : goal.invariant_of-self-2
invariant_of-self-2 c =
    let a = c.self.inside in
    let s : State = record { content = a.uploads; journal = a.journal; closed = a.closed; max_size = a.max_size } in
    let x = c.in_ok-check_delete.field-0.now in
    let found : map.get a.uploads c.args.id ≡ Some x = ap (λ (t : State). map.get t.content c.args.id) c.self.view_is ∙ c.in_ok-check_delete.ensures.ok.1 in
    let can : is_alive a.journal.accepted c.args.id ≡ true = alive_at a.uploads a.journal.accepted c.args.id x c.self.invariant.sound.fits found in
    record {
      sound = sound_after s (Terminated c.args.id) c.remove.new.self c.note.new.self c.self.invariant.sound can c.in_ok-note.ensures.ok
          (subst (λ (m : Contents). Fits m (a.journal.accepted ++ Terminated c.args.id ∷ [])) (sym c.remove.ensures) (fits_terminated a.uploads a.journal.accepted c.args.id c.self.invariant.sound.fits));
      fresh = fresh_after a.uploads (map.remove a.uploads c.args.id) c.remove.new.self a.journal c.note.new.self (Terminated c.args.id) a.fresh
          (stays_removed a.uploads a.journal.accepted (Terminated c.args.id) c.args.id) c.remove.ensures c.in_ok-note.ensures.ok c.self.invariant.fresh;
    }
