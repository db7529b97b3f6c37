-- What callers see of a lawful board.
use Rattle.std.proofs.Common.{◌≡◌, ℕ, zero, suc, ◌<◌, ◌≤◌, List, [], ◌∷◌, length, get_or, map, refl, sym, ◌∙◌, subst, arith}
use Rattle.std.proofs.lemmas.List.{length-map}
use Rattle.up_events.specs.Records.{lane_log}
use Rattle.up_machine.specs.Fits.{IsSoundBook}
use Rattle.up_machine.specs.State.{State, recalled}
use Rattle.up_queue.specs.EndViews.{QueueId, PutEndView}
use Rattle.up_dispatch.specs.declared.queue_cursor.QueueCursor.{QueueCursor}
use Rattle.up_dispatch.specs.Lists.{EachAt}
use Rattle.up_dispatch.specs.QueuedUpTo.{IsQueuedUpTo}
use Rattle.up_dispatch.specs.BoardView.{board_view, IsPrefixOfLog, IsLawfulBoard, IsLawfulBoardView}

at_map : {X Y : Type 0} (f : X → Y) (xs : List X) (k : ℕ) (e : Y) → k < length xs → (x : X) × (get_or (map f xs) k e ≡ f x) × ((d : X) → get_or xs k d ≡ x)
at_map f [] k e within = absurd (omega arith)
at_map f (x ∷ xs) zero e within = (x, refl, λ d. refl)
at_map f (x ∷ xs) (suc k) e within = at_map f xs k e (omega arith)

module _ {X Y : Type 0} (f : X → Y) (P : ℕ → X → Type 0) (Q : ℕ → Y → Type 0) where
  pub EachAt-map : (xs : List X) → EachAt P xs → ((k : ℕ) (x : X) → P k x → Q k (f x)) → EachAt Q (map f xs)
  EachAt-map xs all step k e within =
      let within' : k < length xs = subst (λ (n : ℕ). k < n) (length-map xs f) within in
      let at = at_map f xs k e within' in
      subst (Q k) (sym at.1) (step k at.0 (subst (P k) (at.2 at.0) (all k at.0 within')))

-- a book is sound whatever its journal has forgotten
pub recalled_sound : (book : State) → IsSoundBook book → IsSoundBook (recalled book)
recalled_sound book sound = record { legal = sound.legal; fits = sound.fits; small = sound.small }

pub board_view_lawful : (queue : ℕ → QueueId) (count limit : ℕ) (book : State) (cursors : List QueueCursor) (given total parts amount : ℕ) → IsLawfulBoard queue count limit book cursors given total parts amount → IsLawfulBoardView queue count limit (board_view book cursors given total)
board_view_lawful queue count limit book cursors given total parts amount lawful = record {
  sound = recalled_sound book lawful.sound;
  named = lawful.named;
  sized = lawful.sized;
  lanes = length-map cursors (λ (f : QueueCursor). f.put_end) ∙ lawful.lanes;
  queues = EachAt-map (λ (f : QueueCursor). f.put_end) (λ k (f : QueueCursor). IsQueuedUpTo (queue k) (lane_log book.journal k) book.closed f) (λ k (e : PutEndView). e.queue ≡ queue k) cursors lawful.queued (λ k f queued. queued.queue_is);
  puts = EachAt-map (λ (f : QueueCursor). f.put_end) (λ k (f : QueueCursor). IsQueuedUpTo (queue k) (lane_log book.journal k) book.closed f) (λ k (e : PutEndView). IsPrefixOfLog book k e) cursors lawful.queued (λ k f queued. (f.position, f.ended, queued.put_is, queued.within, queued.whole));
  counted = lawful.counted;
}
