use Rattle.std.proofs.Common.{◌≡◌, [], sym, ap, subst}
use Rattle.std.specs.FinMap as map
use Rattle.up_events.specs.History.{IsLegal}
use Rattle.up_events.specs.Records.{Records}
use Rattle.up_machine.specs.State.{Contents}
use Rattle.up_machine.specs.Fits.{Fits}
use Rattle.up_machine.proofs.FitsLemmas.{fits_empty, legal_empty}
use Rattle.up_machine.proofs.book.Book.forgetting.Goals as goal

pub invariant_of-result : goal.invariant_of-result
invariant_of-result c =
    let none : c.in_ok-forgetting.field-0.accepted ≡ [] = ap (λ (r : Records). r.accepted) c.in_ok-forgetting.ensures in
    record {
      sound = record {
        legal = subst IsLegal (sym none) legal_empty;
        fits = subst (λ (m : Contents). Fits m c.in_ok-forgetting.field-0.accepted) (sym c.new.ensures) (subst (λ l. Fits map.empty l) (sym none) fits_empty);
        small = c.requires.small;
      };
      fresh = tt;
    }
