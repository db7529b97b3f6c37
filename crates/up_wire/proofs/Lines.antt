-- Bytes up to a line feed.
use Rattle.std.proofs.Common.{◌≡◌, ◌≢◌, ℕ, zero, suc, ◌-◌, ◌<◌, ◌≤◌, Bool, true, false, eqb, List, [], ◌∷◌, ◌++◌, length, get_or, take, drop, refl, sym, ap, ◌∙◌, subst, arith, append_assoc, inl, inr, true≢false}
use Rattle.std.proofs.lemmas.List.{length-append}
use Rattle.std.proofs.Math.Seq.{drop-append_seam, take-append_seam, take-length}
use Rattle.std.proofs.lemmas.List.Elements.{All-nil, All-cons, All-append}
use Rattle.std.proofs.lemmas.Bool.{eqb-true, eq-eqb}
use Rattle.up_wire.specs.Device.{HasNoFeed, IsEndedLine, IsInLine}
use Rattle.up_wire.specs.Steps.{EndsInFeed}
use Rattle.up_wire.proofs.Heads.{snoc_parts, last_of}

-- ---- a run of one byte

one_by : (b : ℕ) (t : Bool) → eqb b 10 ≡ t → IsInLine (b ∷ [])
one_by b true e = inr ([], ap (λ x. x ∷ []) (eqb-true b 10 e), All-nil (λ c. c ≢ 10))
one_by b false e =
    inl (All-cons (λ c. c ≢ 10) b [] (λ same. true≢false (sym (eq-eqb b 10 same) ∙ e)) (All-nil (λ c. c ≢ 10)))

-- a byte at most is in a line
pub short_in_line : (run : List ℕ) → length run ≤ 1 → IsInLine run
short_in_line [] short = inl (All-nil (λ c. c ≢ 10))
short_in_line (b ∷ []) short = one_by b (eqb b 10) refl
short_in_line (b ∷ c ∷ rest) short = absurd (omega arith)

-- ---- the first line feed of some bytes

-- up to it
pub ended_at : (xs : List ℕ) (i : ℕ) → i < length xs → eqb (get_or xs i 0) 10 ≡ true → ((k : ℕ) → k < i → ¬ (eqb (get_or xs k 0) 10 ≡ true)) → IsEndedLine (take (suc i) xs)
ended_at [] i inside feed before = absurd (omega arith)
ended_at (b ∷ bs) zero inside feed before = ([], ap (λ x. x ∷ []) (eqb-true b 10 feed), All-nil (λ c. c ≢ 10))
ended_at (b ∷ bs) (suc i) inside feed before =
    let more = ended_at bs i (omega arith) feed (λ k below. before (suc k) (omega arith)) in (
      b ∷ more.0,
      ap (λ l. b ∷ l) more.1,
      All-cons (λ c. c ≢ 10) b more.0 (λ same. before 0 (omega arith) (eq-eqb b 10 same)) more.2,
    )

-- where there is none
pub has_none : (xs : List ℕ) → ((k : ℕ) → k < length xs → ¬ (eqb (get_or xs k 0) 10 ≡ true)) → HasNoFeed xs
has_none [] none = All-nil (λ c. c ≢ 10)
has_none (b ∷ bs) none =
    All-cons (λ c. c ≢ 10) b bs (λ same. none 0 (omega arith) (eq-eqb b 10 same)) (has_none bs (λ k below. none (suc k) (omega arith)))

-- ---- what is before the end

-- a byte that isn't a line feed stands last, where there is one
pub last_byte : (text : List ℕ) → HasNoFeed text → (text ≡ [] → ⊥) → (front : List ℕ) × (b : ℕ) × (text ≡ front ++ b ∷ []) × (b ≢ 10)
last_byte [] none some = absurd (some refl)
last_byte (x ∷ xs) none some =
    let end = last_of x xs in
    (end.0, end.1, end.2, all_last end.0 end.1 (subst HasNoFeed end.2 none))
  where
    all_last : (front : List ℕ) (b : ℕ) → HasNoFeed (front ++ b ∷ []) → b ≢ 10
    all_last [] b all = all 0 b (omega arith)
    all_last (y ∷ front) b all = all_last front b (λ k d inside. all (suc k) d (omega arith))

-- bytes that end in a line feed have an end behind them that does
pub no_feed_at_end : (before run front : List ℕ) → HasNoFeed run → (run ≡ [] → ⊥) → before ++ run ≡ front ++ 10 ∷ [] → ⊥
no_feed_at_end before run front none some e =
    let last = last_byte run none some in
    last.3 (snoc_parts (before ++ last.0) front last.1 10 (append_assoc before last.0 (last.1 ∷ []) ∙ ap (λ l. before ++ l) (sym last.2) ∙ e)).1

-- ---- a line that comes in runs

-- the run that makes the text end in a line feed ends the line
pub ended_run : (before run : List ℕ) → IsInLine run → 0 < length run → EndsInFeed (before ++ run) true → IsEndedLine run
ended_run before run (inl none) some ends =
    absurd (no_feed_at_end before run ends.0 none (λ empty. omega (arith, ap length empty, some)) ends.1)
ended_run before run (inr is) some ends = is

-- and another has no line feed
pub open_run : (before run : List ℕ) → IsInLine run → EndsInFeed (before ++ run) false → HasNoFeed run
open_run before run (inl none) not = none
open_run before run (inr (front, e, none)) not = absurd (not (before ++ front) (ap (λ l. before ++ l) e ∙ sym (append_assoc before front (10 ∷ []))))

-- behind the runs before it
pub ended_behind : (line run : List ℕ) → HasNoFeed line → IsEndedLine run → IsEndedLine (line ++ run)
ended_behind line run none (front, e, also) =
    (line ++ front, ap (λ l. line ++ l) e ∙ sym (append_assoc line front (10 ∷ [])), All-append (λ b. b ≢ 10) line front none also)

-- what stands behind the first bytes of a text
pub rest_of : (text line whole : List ℕ) (start : ℕ) → whole ≡ text ++ line → start ≡ length text → take (length whole - start) (drop start whole) ≡ line
rest_of text line whole start is at =
    let behind : drop start whole ≡ line = (λ i. drop (at i) (is i)) ∙ drop-append_seam text line in
    let long : length whole - start ≡ length line = omega (arith, ap length is, length-append text line, at) in
    (λ i. take (long i) (behind i)) ∙ take-length line

-- and those bytes
pub front_of : (text line whole : List ℕ) (start : ℕ) → whole ≡ text ++ line → start ≡ length text → take start whole ≡ text
front_of text line whole start is at = (λ i. take (at i) (is i)) ∙ take-append_seam text line
