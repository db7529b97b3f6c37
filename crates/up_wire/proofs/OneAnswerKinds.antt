-- Each answer of the input is given where no whole head stands, or behind one.
use Rattle.std.proofs.Common.{◌≡◌, ℕ, ◌⊎◌, Bool, false, List, [], ◌++◌, ◌+◌, length, take, Ok, Err, refl, sym, ap, ◌∙◌, subst, arith, append-nil, append_assoc, inl, inr}
use Rattle.std.proofs.lemmas.List.{length-append}
use Rattle.httparse.specs.Grammar.{RequestHead, ReadsRequest, HasNoRequest, MayBecomeRequest}
use Rattle.httparse.proofs.GrammarLemmas.{ReadsRequest-append}
use Rattle.up_message.specs.declared.message.Message.{Message}
use Rattle.up_wire.specs.declared.wire_fault.WireFault.{WireFault}
use Rattle.up_wire.specs.declared.wire_fault.WireFault.TheVariants as Fault
use Rattle.up_wire.specs.declared.framing.Framing.{Framing}
use Rattle.up_wire.specs.declared.taken.Taken.{Taken}
use Rattle.up_wire.specs.Limits.{max_head}
use Rattle.up_wire.specs.Message.{Ending, open_yet, ended, failed, IsHead, IsBlank, IsBadHead, IsTooLarge, IsReadFailure, IsFramingFault, IsCutBody, HasParts, framing_of, is_bare}
use Rattle.up_wire.specs.OneAnswer.{MayAnswer, IsOfInput}
use Rattle.up_wire.proofs.OneAnswerTexts.{front_taken, front_in_taken}
use Rattle.up_wire.proofs.BlankLines.{blank_has_none}
use Rattle.up_wire.proofs.OneAnswerHeadless.{StopsShort, IsHeadless, bad, large, failing, blank}
use Rattle.up_wire.proofs.OneAnswerBodies.{Outcome, complete, cut, refused, IsOutcome, is_complete, is_cut, is_refused}

-- ---- an answer behind a whole head

-- the answer tells the outcome of the body
abbrev pub IsTold : RequestHead → List ℕ → Taken → Outcome → Type 0
IsTold head rest answer (complete bytes more) = (m : Message) × HasParts m head × (m.body ≡ bytes) × (answer ≡ Taken.Message m) × (rest ≡ more)
IsTold head rest answer (cut bytes) = (m : Message) × HasParts m head × (m.body ≡ bytes) × (answer ≡ Taken.Cut m)
IsTold head rest answer (refused fault) = answer ≡ Taken.Fault fault (is_bare head)

-- the answer to what stands behind the head
pub data IsBehindHead (limit : ℕ) (head : RequestHead) (behind rest : List ℕ) (answer : Taken) : Type 0 where
  at_fault : (fault : WireFault) → framing_of limit head ≡ Err fault → answer ≡ Taken.Fault fault (is_bare head) → IsBehindHead limit head behind rest answer
  framed_so : (framing : Framing) (outcome : Outcome) → framing_of limit head ≡ Ok framing → IsOutcome limit framing behind outcome
      → IsTold head rest answer outcome → IsBehindHead limit head behind rest answer

-- a whole head, and the answer to what stands behind it
pub record IsHeaded (limit : ℕ) (all rest : List ℕ) (answer : Taken) : Type 0 where
  pub head : RequestHead
  pub behind : List ℕ
  pub is_head : IsHead all head behind
  pub is : IsBehindHead limit head behind rest answer

-- ---- each answer is of one of both kinds

-- a head of the bytes taken is one of the stream
head_of_all : (all input rest : List ℕ) (head : RequestHead) (behind : List ℕ) → all ≡ input ++ rest → IsHead input head behind → IsHead all head (behind ++ rest)
head_of_all all input rest head behind e is = record {
  reads = subst (λ t. ReadsRequest t head (behind ++ rest)) (sym e) (ReadsRequest-append input head behind rest is.reads);
  short = is.short;
  few = is.few;
}

-- the call that saw the end took all
took_all : (all input rest : List ℕ) (ending end : Ending) → all ≡ input ++ rest → (ending ≡ open_yet) ⊎ ((rest ≡ []) × (ending ≡ end))
    → (ending ≡ open_yet → ⊥) → (input ≡ all) × (rest ≡ []) × (end ≡ ending)
took_all all input rest ending end e (inl yet) not = absurd (not yet)
took_all all input rest ending end e (inr (none, is)) not = (sym (e ∙ ap (λ r. input ++ r) none ∙ append-nil input), none, sym is)

-- where the end was seen
not_open_yet : (ending : Ending) → (ending ≡ ended) ⊎ (ending ≡ failed) → ending ≡ open_yet → ⊥
not_open_yet ending (inl is) yet = absurd (cc (is, yet))
not_open_yet ending (inr is) yet = absurd (cc (is, yet))

-- no head can come, or the input ends in one
bad_head : (limit : ℕ) (all : List ℕ) (end : Ending) (answer : Taken) (rest : List ℕ) (m : MayAnswer limit all end answer rest) → IsBadHead m.input m.ending
    → IsHeadless all end (Taken.Fault Fault.BadHead false)
bad_head limit all end answer rest m (inl (short, never)) = bad (inl (record { front = m.input; rest = rest; split = m.front; short = short; never = never }))
bad_head limit all end answer rest m (inr (ends, none, short, some)) =
    let took = took_all all m.input rest m.ending end m.front m.stands (not_open_yet m.ending (inl ends)) in
    bad (inr (subst StopsShort took.0 (record { none = none; short = short }), took.2 ∙ ends, λ empty. some (subst IsBlank (sym took.0) empty)))

-- too many fields or bytes
too_large : (limit : ℕ) (all : List ℕ) (end : Ending) (answer : Taken) (rest : List ℕ) (m : MayAnswer limit all end answer rest) → IsTooLarge m.input
    → IsHeadless all end (Taken.Fault Fault.HeadTooLarge false)
too_large limit all end answer rest m (inl (short, (front, more, e, head, reads, many))) =
    let split = front_in_taken max_head all m.input rest m.front short in
    large (inl (front, more ++ split.0, split.1 ∙ ap (λ t. t ++ split.0) e ∙ append_assoc front more split.0, head, reads, many))
too_large limit all end answer rest m (inr (long, none, may)) =
    let taken : m.input ≡ take max_head all = sym (front_taken max_head all m.input rest m.front long) in
    let whole : length all ≡ length m.input + length rest = ap length m.front ∙ length-append m.input rest in
    large (inr (record { long = omega (arith, long, whole); none = subst HasNoRequest taken none; may = subst MayBecomeRequest taken may }))

-- a read that failed
read_failure : (limit : ℕ) (all : List ℕ) (end : Ending) (answer : Taken) (rest : List ℕ) (m : MayAnswer limit all end answer rest) → IsReadFailure m.input m.ending
    → IsHeadless all end (Taken.Fault Fault.ReadFailed false)
read_failure limit all end answer rest m (fails, none, short, may) =
    let took = took_all all m.input rest m.ending end m.front m.stands (not_open_yet m.ending (inr fails)) in
    failing (subst StopsShort took.0 (record { none = none; short = short })) (took.2 ∙ fails) (subst MayBecomeRequest took.0 may)

-- a fault behind a head
framing_fault : (limit : ℕ) (all : List ℕ) (end : Ending) (fault : WireFault) (bare : Bool) (rest : List ℕ) (m : MayAnswer limit all end (Taken.Fault fault bare) rest)
    → IsFramingFault limit m.input fault bare → IsHeaded limit all rest (Taken.Fault fault bare)
framing_fault limit all end fault bare rest m is =
    let told : Taken.Fault fault bare ≡ Taken.Fault fault (is_bare is.head) = ap (Taken.Fault fault) is.bare_is in
    record {
      head = is.head;
      behind = is.behind ++ rest;
      is_head = head_of_all all m.input rest is.head is.behind m.front is.is_head;
      is = elim is.is_fault [
        | inl e ↦ at_fault fault e.0 told
        | inr (framing, e, wrong) ↦ framed_so framing (refused fault) e (is_refused fault is.behind rest refl wrong) told
      ];
    }

-- each answer
pub kind_of : (limit : ℕ) (all : List ℕ) (end : Ending) (answer : Taken) (rest : List ℕ) → IsOfInput answer → MayAnswer limit all end answer rest
    → IsHeadless all end answer ⊎ IsHeaded limit all rest answer
kind_of limit all end (Taken.Message m) rest of may =
    let is = may.is_answer in
    let e = is.behind_is in
    inr (record {
      head = is.head;
      behind = is.behind ++ rest;
      is_head = head_of_all all may.input rest is.head is.behind may.front is.is_head;
      is = framed_so is.framing (complete m.body rest) is.is_framed
          (is_complete m.body is.text rest (ap (λ t. t ++ rest) (e ∙ append-nil is.text)) is.is_body) (m, is.parts, refl, refl, refl);
    })
kind_of limit all end (Taken.Cut m) rest of may =
    let is = may.is_answer.0 in
    let took = took_all all may.input rest may.ending end may.front may.stands (not_open_yet may.ending may.is_answer.1) in
    let none : is.behind ++ rest ≡ is.behind = ap (λ r. is.behind ++ r) took.1 ∙ append-nil is.behind in
    inr (record {
      head = is.head;
      behind = is.behind ++ rest;
      is_head = head_of_all all may.input rest is.head is.behind may.front is.is_head;
      is = framed_so is.framing (cut m.body) is.is_framed (is_cut m.body (subst (IsCutBody limit is.framing m.body) (sym none) is.is_cut)) (m, is.parts, refl, refl);
    })
kind_of limit all end (Taken.Fault Fault.BadHead bare) rest of may =
    inl (subst (λ b. IsHeadless all end (Taken.Fault Fault.BadHead b)) (sym may.is_answer.1) (bad_head limit all end _ rest may may.is_answer.0))
kind_of limit all end (Taken.Fault Fault.HeadTooLarge bare) rest of may =
    inl (subst (λ b. IsHeadless all end (Taken.Fault Fault.HeadTooLarge b)) (sym may.is_answer.1) (too_large limit all end _ rest may may.is_answer.0))
kind_of limit all end (Taken.Fault Fault.BadFraming bare) rest of may = inr (framing_fault limit all end Fault.BadFraming bare rest may may.is_answer)
kind_of limit all end (Taken.Fault Fault.UnknownCoding bare) rest of may = inr (framing_fault limit all end Fault.UnknownCoding bare rest may may.is_answer)
kind_of limit all end (Taken.Fault Fault.BodyTooLarge bare) rest of may = inr (framing_fault limit all end Fault.BodyTooLarge bare rest may may.is_answer)
kind_of limit all end (Taken.Fault Fault.ReadFailed bare) rest of may =
    inl (subst (λ b. IsHeadless all end (Taken.Fault Fault.ReadFailed b)) (sym may.is_answer.1) (read_failure limit all end _ rest may may.is_answer.0))
kind_of limit all end (Taken.Fault Fault.NoMemory bare) rest of may = absurd ((of bare).0 refl)
kind_of limit all end (Taken.Fault Fault.WriteFailed bare) rest of may = absurd ((of bare).1 refl)
kind_of limit all end Taken.End rest of may =
    let empty = may.is_answer.0 in
    let took = took_all all may.input rest may.ending end may.front may.stands (not_open_yet may.ending (inl may.is_answer.1)) in
    inl (blank (subst StopsShort took.0 (record { none = blank_has_none may.input empty.1; short = empty.0 })) (took.2 ∙ may.is_answer.1) (subst IsBlank took.0 empty.1))
