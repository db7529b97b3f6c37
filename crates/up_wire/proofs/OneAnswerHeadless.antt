-- Where no whole head stands in a stream, one answer is given, but for what is left open.
use Rattle.std.proofs.Common.{◌≡◌, ℕ, ◌<◌, ◌≤◌, ◌⊎◌, false, List, [], ◌++◌, length, take, drop, refl, sym, ap, ◌∙◌, subst, arith, append-nil, append_assoc, inl, inr}
use Rattle.std.proofs.lemmas.List.{take-append-drop}
use Rattle.httparse.specs.Grammar.{RequestHead, print_request, ReadsRequest, HasNoRequest, NeverHasRequest, MayBecomeRequest, EndsInTarget}
use Rattle.httparse.specs.Spans.{RequestExceeds}
use Rattle.up_wire.specs.declared.wire_fault.WireFault.TheVariants as Fault
use Rattle.up_wire.specs.declared.taken.Taken.{Taken}
use Rattle.up_wire.specs.OneAnswer.{StopsInTarget, refusal, MayStandFor, many_fields, many_fields_at_failure, in_target, in_target_at_failure}
use Rattle.up_wire.specs.Message.{Ending, ended, failed, IsHead, IsBlank}
use Rattle.up_wire.specs.Limits.{max_head, max_fields}
use Rattle.up_wire.proofs.OneAnswerTexts.{front_in_taken}
use Rattle.up_wire.proofs.OneAnswerHeads.{blank_not_exceeds, blank_not_never, few_not_exceeds}

-- ---- why there is no head

-- a front of the stream that no continuation makes one
pub record HasBadFront (all : List ℕ) : Type 0 where
  pub front : List ℕ
  pub rest : List ℕ
  pub split : all ≡ front ++ rest
  pub short : length front ≤ max_head
  pub never : NeverHasRequest front

-- the stream stops short of a head, which may be as long as this
pub record StopsShort (all : List ℕ) : Type 0 where
  pub none : HasNoRequest all
  pub short : length all < max_head

-- the most bytes of a head are none, and may become one
pub record IsLong (all : List ℕ) : Type 0 where
  pub long : max_head ≤ length all
  pub none : HasNoRequest (take max_head all)
  pub may : MayBecomeRequest (take max_head all)

-- no head can come, or the stream ends in one
abbrev pub IsBad : List ℕ → Ending → Type 0
IsBad all end = HasBadFront all ⊎ (StopsShort all × (end ≡ ended) × ¬ (IsBlank all))

-- too many fields, or no head yet
abbrev pub IsLarge : List ℕ → Type 0
IsLarge all = RequestExceeds max_fields (take max_head all) ⊎ IsLong all

-- the answers without a head, by what they say of the stream and its end
pub data IsHeadless (all : List ℕ) (end : Ending) : Taken → Type 0 where
  bad : IsBad all end → IsHeadless all end (Taken.Fault Fault.BadHead false)
  large : IsLarge all → IsHeadless all end (Taken.Fault Fault.HeadTooLarge false)
  failing : StopsShort all → end ≡ failed → MayBecomeRequest all → IsHeadless all end (Taken.Fault Fault.ReadFailed false)
  blank : StopsShort all → end ≡ ended → IsBlank all → IsHeadless all end Taken.End

-- too many fields in a front of it
exceeds_more : (all : List ℕ) → RequestExceeds max_fields (take max_head all) → RequestExceeds max_fields all
exceeds_more all (front, rest, e, head, reads, many) =
    (front, rest ++ drop max_head all, sym (take-append-drop max_head all) ∙ ap (λ t. t ++ drop max_head all) e ∙ append_assoc front rest (drop max_head all), head, reads, many)

-- ---- none of them is given where a whole head stands

-- whichever it is
pub head_excludes : (all : List ℕ) (end : Ending) (answer : Taken) (head : RequestHead) (behind : List ℕ)
    → IsHead all head behind → IsHeadless all end answer → ⊥
head_excludes all end answer head behind is (bad (inl b)) =
    b.never b.rest head behind (subst (λ t. ReadsRequest t head behind) b.split is.reads)
head_excludes all end answer head behind is (bad (inr (stops, ends, not))) = stops.none head behind is.reads
head_excludes all end answer head behind is (large (inl exceeds)) = few_not_exceeds max_fields all head behind is.reads is.few (exceeds_more all exceeds)
head_excludes all end answer head behind is (large (inr l)) =
    let split = front_in_taken max_head all (print_request head) behind is.reads.1 is.short in
    l.none head split.0 (is.reads.0, split.1)
head_excludes all end answer head behind is (failing stops fails may) = stops.none head behind is.reads
head_excludes all end answer head behind is (blank stops ends empty) = stops.none head behind is.reads

-- ---- each pair of them

-- what is impossible stays so behind more bytes
never_longer : (all front rest : List ℕ) → all ≡ front ++ rest → NeverHasRequest front → NeverHasRequest all
never_longer all front rest e never more head behind reads =
    never (rest ++ more) head behind
    (subst (λ t. ReadsRequest t head behind) (ap (λ t. t ++ more) e ∙ append_assoc front rest more) reads)

-- and is not there yet
never_none : (text : List ℕ) → NeverHasRequest text → HasNoRequest text
never_none text never head behind reads = never [] head behind (subst (λ t. ReadsRequest t head behind) (sym (append-nil text)) reads)

-- a stream that nothing makes a head, and that may become one, stops in its target
stops_in_target : (text : List ℕ) → NeverHasRequest text → MayBecomeRequest text → EndsInTarget text
stops_in_target text never (inl (more, head, reads)) = absurd (never more head [] reads)
stops_in_target text never (inr target) = target

-- with no head yet: a front of it is bad
bad_long : (all : List ℕ) → HasBadFront all → IsLong all → StopsInTarget (take max_head all)
bad_long all b l =
    let split = front_in_taken max_head all b.front b.rest b.split b.short in
    let never = never_longer (take max_head all) b.front split.0 split.1 b.never in
    (never, stops_in_target (take max_head all) never l.may)

-- a front of it is bad, and a read fails
bad_failing : (all : List ℕ) → HasBadFront all → MayBecomeRequest all → StopsInTarget all
bad_failing all b may =
    let never = never_longer all b.front b.rest b.split b.never in
    (never, stops_in_target all never may)

-- it does not stop both before and behind the most bytes of a head
short_not_long : (all : List ℕ) → StopsShort all → IsLong all → ⊥
short_not_long all stops l =
    let short = stops.short in
    let long = l.long in
    absurd (omega arith)

-- ---- any two of them

-- they are the same, or the one may stand for the other
abbrev pub AreAlike : ℕ → List ℕ → Ending → Taken → Taken → Type 0
AreAlike limit all end a b = (a ≡ b) ⊎ (MayStandFor limit all end a b ⊎ MayStandFor limit all end b a)

-- a bad head, and one that is too large
bad_large : (limit : ℕ) (all : List ℕ) (end : Ending) → IsBad all end → IsLarge all → MayStandFor limit all end (refusal Fault.HeadTooLarge) (refusal Fault.BadHead)
bad_large limit all end (inl b) (inl exceeds) = many_fields (never_none all (never_longer all b.front b.rest b.split b.never), exceeds)
bad_large limit all end (inl b) (inr l) = in_target (bad_long all b l) l.long
bad_large limit all end (inr (stops, ends, not)) (inl exceeds) = many_fields (stops.none, exceeds)
bad_large limit all end (inr (stops, ends, not)) (inr l) = absurd (short_not_long all stops l)

-- a bad head, and a read that fails
bad_or_failing : (limit : ℕ) (all : List ℕ) (end : Ending) → IsBad all end → StopsShort all → end ≡ failed → MayBecomeRequest all
    → MayStandFor limit all end (refusal Fault.ReadFailed) (refusal Fault.BadHead)
bad_or_failing limit all end (inl b) stops fails may = in_target_at_failure (bad_failing all b may) stops.short fails
bad_or_failing limit all end (inr (short, ends, not)) stops fails may = absurd (cc)

-- a head that is too large, and a read that fails
large_failing : (limit : ℕ) (all : List ℕ) (end : Ending) → IsLarge all → StopsShort all → end ≡ failed
    → MayStandFor limit all end (refusal Fault.HeadTooLarge) (refusal Fault.ReadFailed)
large_failing limit all end (inl exceeds) stops fails = many_fields_at_failure (stops.none, exceeds) fails
large_failing limit all end (inr l) stops fails = absurd (short_not_long all stops l)

-- empty lines are no bad head
bad_not_blank : (all : List ℕ) (end : Ending) → IsBad all end → IsBlank all → ⊥
bad_not_blank all end (inl b) empty = blank_not_never b.front b.rest (subst IsBlank b.split empty) b.never
bad_not_blank all end (inr (stops, ends, not)) empty = not empty

-- nor one that is too large
large_not_blank : (all : List ℕ) → IsLarge all → StopsShort all → IsBlank all → ⊥
large_not_blank all (inl exceeds) stops empty = blank_not_exceeds all empty (exceeds_more all exceeds)
large_not_blank all (inr l) stops empty = short_not_long all stops l

-- each kind against each
pub one_headless : (limit : ℕ) (all : List ℕ) (end : Ending) (a b : Taken) → IsHeadless all end a → IsHeadless all end b → AreAlike limit all end a b
one_headless limit all end a b (bad x) (bad y) = inl refl
one_headless limit all end a b (bad x) (large y) = inr (inr (bad_large limit all end x y))
one_headless limit all end a b (bad x) (failing s f m) = inr (inr (bad_or_failing limit all end x s f m))
one_headless limit all end a b (bad x) (blank s e m) = absurd (bad_not_blank all end x m)
one_headless limit all end a b (large x) (bad y) = inr (inl (bad_large limit all end y x))
one_headless limit all end a b (large x) (large y) = inl refl
one_headless limit all end a b (large x) (failing s f m) = inr (inl (large_failing limit all end x s f))
one_headless limit all end a b (large x) (blank s e m) = absurd (large_not_blank all x s m)
one_headless limit all end a b (failing s f m) (bad y) = inr (inl (bad_or_failing limit all end y s f m))
one_headless limit all end a b (failing s f m) (large y) = inr (inr (large_failing limit all end y s f))
one_headless limit all end a b (failing s f m) (failing t g n) = inl refl
one_headless limit all end a b (failing s f m) (blank t e n) = absurd (cc (f, e))
one_headless limit all end a b (blank s e m) (bad y) = absurd (bad_not_blank all end y m)
one_headless limit all end a b (blank s e m) (large y) = absurd (large_not_blank all y s m)
one_headless limit all end a b (blank s e m) (failing t f n) = absurd (cc (f, e))
one_headless limit all end a b (blank s e m) (blank t f n) = inl refl
