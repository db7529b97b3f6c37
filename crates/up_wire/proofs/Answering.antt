-- What the steps of reading a message make of it as a whole.
use Rattle.std.proofs.Common.{◌≡◌, ℕ, ◌<◌, ◌≤◌, ◌⊎◌, Bool, true, false, cond, eqb, leb, List, [], ◌∷◌, ◌++◌, Result, Ok, Err, refl, sym, ap, ◌∙◌, subst, arith, inl, inr}
use Rattle.std.specs.Prelude.{codes, bytes_eq}
use Rattle.std.proofs.Math.Nat.{eq-or-lt_of_le}
use Rattle.std.specs.Str.Parse.{digits_value}
use Rattle.httparse.specs.Grammar.{RequestHead}
use Rattle.httparse.proofs.GrammarLemmas.{ReadsRequest-append}
use Rattle.up_message.specs.declared.message.Message.{Message}
use Rattle.up_wire.specs.declared.wire_fault.WireFault.{WireFault}
use Rattle.up_wire.specs.declared.wire_fault.WireFault.TheVariants.{BadHead, HeadTooLarge, BadFraming, UnknownCoding, BodyTooLarge, ReadFailed, NoMemory, WriteFailed}
use Rattle.up_wire.specs.declared.framing.Framing.{Framing}
use Rattle.up_wire.specs.declared.framing.Framing.TheVariants.{NoBody, Sized, Chunked}
use Rattle.up_wire.specs.declared.head.Head.{Head}
use Rattle.up_message.specs.Fields.{Field, same_name, values}
use Rattle.up_message.specs.Digits.{is_digits}
use Rattle.up_wire.specs.Framing.{framed, framing, interim, closes}
use Rattle.up_wire.specs.Message.{Ending, open_yet, ended, failed, IsHead, is_bare, framing_of, IsFault, IsFramingFault, IsBodyFault, HasParts}
use Rattle.up_wire.specs.declared.taken.Taken.{Taken}
use Rattle.up_wire.specs.Limits.{max_interruptions}
use Rattle.up_wire.specs.Device.{Device, GaveUp, Broke}
use Rattle.up_wire.specs.Reading.{IsInterimAtFault, IsDue, Shows, IsPatient, IsWriteFailure, interim_after}
use Rattle.up_wire.specs.Steps.{EndsSo, IsHeadFault, HasHead}

-- what the source shows outside of a call, where it was interrupted in it if the call was too often
pub shows_of : (ending : Ending) (source after : Device) (a b : ℕ) → EndsSo ending after a → a ≡ b
    → (max_interruptions ≤ a → source.interruptions < after.interruptions) → Shows ending source after b
shows_of open_yet source after a b ends same rose = tt
shows_of ended source after a b ends same rose = ends.0
shows_of failed source after a b (inl so, most) same rose = inl so
shows_of failed source after a b (inr often, most) same rose = inr (omega (arith, often, most), rose often)

-- a call that ends so is patient
pub patient_of : (ending : Ending) (after : Device) (a b : ℕ) (answer : Taken) → EndsSo ending after a → a ≡ b → IsPatient ending answer b
patient_of open_yet after a b answer ends same = inl (omega arith)
patient_of ended after a b answer ends same = inl (omega (arith, ends.1))
patient_of failed after a b answer ends same = elim (eq-or-lt_of_le ends.1) [ inl all ↦ inr (omega (arith, all), inl refl) | inr less ↦ inl (omega (arith, less)) ]

-- a call that writes no more is patient
pub patient_write : (ending : Ending) (bare : Bool) (a b : ℕ) → a ≤ max_interruptions → a ≡ b → IsPatient ending (Taken.Fault WriteFailed bare) b
patient_write ending bare a b most same =
    elim (eq-or-lt_of_le most) [ inl all ↦ inr (omega (arith, all), inr (bare, refl)) | inr less ↦ inl (omega (arith, less)) ]

-- a call that goes on was interrupted less
pub still_open : (ending : Ending) (after : Device) (a : ℕ) → ending ≡ open_yet → EndsSo ending after a → a < max_interruptions
still_open ending after a is ends = subst (λ e. EndsSo e after a) is ends

-- a sink that was given up in a call
pub broke : (before after : Device) (a b : ℕ) → GaveUp after a → a ≤ max_interruptions → a ≡ b
    → (max_interruptions ≤ a → before.interruptions < after.interruptions) → Broke before after b
broke before after a b (inl so) most same rose = inl so
broke before after a b (inr often) most same rose = inr (omega (arith, often, most), rose often)

-- another fault isn't that of a write
pub no_write : (fault : WireFault) (bare : Bool) → (fault ≡ WriteFailed → ⊥) → IsWriteFailure (Taken.Fault fault bare) → ⊥
no_write fault bare other (b, is) = other (cc is)

-- a fault before the whole head
pub head_fault : (limit : ℕ) (input : List ℕ) (ending : Ending) (fault : WireFault) (bare : Bool) → IsHeadFault input ending fault bare
    → IsFault limit input ending fault bare × IsInterimAtFault limit input fault []
head_fault limit input ending BadHead bare h = (h, refl)
head_fault limit input ending HeadTooLarge bare h = (h, refl)
head_fault limit input ending BadFraming bare h = absurd h
head_fault limit input ending UnknownCoding bare h = absurd h
head_fault limit input ending BodyTooLarge bare h = absurd h
head_fault limit input ending ReadFailed bare h = (h, refl)
head_fault limit input ending NoMemory bare h = (h, inl refl)
head_fault limit input ending WriteFailed bare h = absurd h

-- the faults of framing
abbrev pub IsFramingError : WireFault → Type 0
IsFramingError BadHead = ⊥
IsFramingError HeadTooLarge = ⊥
IsFramingError BadFraming = Unit {0}
IsFramingError UnknownCoding = Unit {0}
IsFramingError BodyTooLarge = Unit {0}
IsFramingError ReadFailed = ⊥
IsFramingError NoMemory = ⊥
IsFramingError WriteFailed = ⊥

abbrev IsFramed : Result Framing WireFault → Type 0
IsFramed (Ok framing) = Unit {0}
IsFramed (Err fault) = IsFramingError fault

by_tests : (a b : Bool) (x y : Result Framing WireFault) (z : Result Framing WireFault) → IsFramed x → IsFramed y → IsFramed z → IsFramed (cond a (cond b x y) z)
by_tests true true x y z p q r = p
by_tests true false x y z p q r = q
by_tests false b x y z p q r = r

by_test : (a : Bool) (x y : Result Framing WireFault) → IsFramed x → IsFramed y → IsFramed (cond a x y)
by_test true x y p q = p
by_test false x y p q = q

framed_so : (limit minor : ℕ) (sizes codings : List (List ℕ)) → IsFramed (framed limit minor sizes codings)
framed_so limit minor [] [] = tt
framed_so limit minor [] (coding ∷ []) =
    let inner = by_test (same_name coding (codes "chunked")) (Ok Chunked) (Err UnknownCoding) (tt {0}) (tt {0}) in
    by_test (eqb minor 0) (Err BadFraming) (cond (same_name coding (codes "chunked")) (Ok Chunked) (Err UnknownCoding)) (tt {0}) inner
framed_so limit minor [] (a ∷ b ∷ codings) = tt
framed_so limit minor (size ∷ []) [] =
    by_tests (is_digits size) (leb (digits_value 10 size) limit) (Ok (Sized (digits_value 10 size))) (Err BodyTooLarge) (Err BadFraming) (tt {0}) (tt {0}) (tt {0})
framed_so limit minor (size ∷ []) (a ∷ codings) = tt
framed_so limit minor (a ∷ b ∷ sizes) codings = tt

pub framing_error : (limit minor : ℕ) (fields : List Field) (fault : WireFault) → framing limit minor fields ≡ Err fault → IsFramingError fault
framing_error limit minor fields fault e =
    subst IsFramed e (framed_so limit minor (values (codes "content-length") fields) (values (codes "transfer-encoding") fields))

pub body_error : (limit : ℕ) (framing : Framing) (text : List ℕ) (fault : WireFault) → IsBodyFault limit framing text fault → IsFramingError fault
body_error limit NoBody text fault h = absurd h
body_error limit (Sized size) text fault h = absurd h
body_error limit Chunked text BadHead h = absurd h
body_error limit Chunked text HeadTooLarge h = absurd h
body_error limit Chunked text BadFraming h = tt
body_error limit Chunked text UnknownCoding h = absurd h
body_error limit Chunked text BodyTooLarge h = tt
body_error limit Chunked text ReadFailed h = absurd h
body_error limit Chunked text NoMemory h = absurd h
body_error limit Chunked text WriteFailed h = absurd h

-- a fault behind the head
pub framing_fault : (limit : ℕ) (input : List ℕ) (ending : Ending) (fault : WireFault) (bare : Bool) (line : List ℕ)
    → IsFramingError fault → IsFramingFault limit input fault bare → IsDue limit input line
    → IsFault limit input ending fault bare × IsInterimAtFault limit input fault line
framing_fault limit input ending BadHead bare line error is due = absurd error
framing_fault limit input ending HeadTooLarge bare line error is due = absurd error
framing_fault limit input ending BadFraming bare line error is due = (is, due)
framing_fault limit input ending UnknownCoding bare line error is due = (is, due)
framing_fault limit input ending BodyTooLarge bare line error is due = (is, due)
framing_fault limit input ending ReadFailed bare line error is due = absurd error
framing_fault limit input ending NoMemory bare line error is due = absurd error
framing_fault limit input ending WriteFailed bare line error is due = absurd error

-- a head with something behind it
pub head_more : (text : List ℕ) (head : RequestHead) (more : List ℕ) → IsHead text head [] → IsHead (text ++ more) head more
head_more text head more is = record { reads = ReadsRequest-append text head [] more is.reads; short = is.short; few = is.few }

-- the framing, by what is kept of the head
pub framing_is : (limit : ℕ) (h : Head) (head : RequestHead) (fields : List Field) (r : Result Framing WireFault) → HasHead h head
    → fields ≡ h.fields → r ≡ framing limit h.minor fields → framing_of limit head ≡ r
framing_is limit h head fields r has same e =
    sym (e ∙ (λ i. framing limit (has.minor i) (same i)) ∙ ap (framing limit head.minor) has.fields)

pub bare_is : (h : Head) (head : RequestHead) (bare : Bool) → HasHead h head → bare ≡ bytes_eq h.method (codes "HEAD") → bare ≡ is_bare head
bare_is h head bare has e = e ∙ ap (λ m. bytes_eq m (codes "HEAD")) has.method

-- what is due behind a head with this framing
pub due_is : (limit : ℕ) (h : Head) (head : RequestHead) (f : Framing) (line : List ℕ) → HasHead h head → framing_of limit head ≡ Ok f
    → line ≡ interim f h.minor h.fields → line ≡ interim_after (framing_of limit head) head
due_is limit h head f line has framed e =
    e ∙ (λ i. interim f (has.minor i) (has.fields i)) ∙ sym (ap (λ r. interim_after r head) framed)

-- the parts of a message that was made of the head
pub parts_are : (h : Head) (head : RequestHead) (m : Message) → HasHead h head → m.method ≡ h.method → m.target ≡ h.target → m.fields ≡ h.fields
    → m.bare ≡ bytes_eq h.method (codes "HEAD") → m.close ≡ closes h.minor h.fields → HasParts m head
parts_are h head m has method target fields bare close = record {
  method = method ∙ has.method;
  target = target ∙ has.target;
  fields = fields ∙ has.fields;
  bare = bare ∙ ap (λ name. bytes_eq name (codes "HEAD")) has.method;
  close = close ∙ (λ i. closes (has.minor i) (has.fields i));
}

-- a fault behind a head whose fields are in order
pub fault_behind : (limit : ℕ) (input : List ℕ) (ending : Ending) (fault : WireFault) (bare : Bool) (line : List ℕ) (head : RequestHead) (behind : List ℕ) (f : Framing)
    → IsHead input head behind → framing_of limit head ≡ Ok f → bare ≡ is_bare head → line ≡ interim_after (framing_of limit head) head
    → (fault ≡ NoMemory) ⊎ IsBodyFault limit f behind fault
    → IsFault limit input ending fault bare × IsInterimAtFault limit input fault line
fault_behind limit input ending fault bare line head behind f is framed same due (inl none) =
    subst (λ e. IsFault limit input ending e bare × IsInterimAtFault limit input e line) (sym none)
    (inr (head, behind, is, same), inr (head, behind, is, due))
fault_behind limit input ending fault bare line head behind f is framed same due (inr wrong) =
    framing_fault limit input ending fault bare line (body_error limit f behind fault wrong)
    (record { head = head; behind = behind; is_head = is; is_fault = inr (f, framed, wrong); bare_is = same })
    (head, behind, is, due)

-- ---- no write failed

pub head_written : (input : List ℕ) (ending : Ending) (fault : WireFault) (bare : Bool) → IsHeadFault input ending fault bare → fault ≡ WriteFailed → ⊥
head_written input ending fault bare is e = subst (λ f. IsHeadFault input ending f bare) e is

pub error_written : (fault : WireFault) → IsFramingError fault → fault ≡ WriteFailed → ⊥
error_written fault error e = subst IsFramingError e error

pub body_written : (limit : ℕ) (framing : Framing) (text : List ℕ) (fault : WireFault) → (fault ≡ NoMemory) ⊎ IsBodyFault limit framing text fault → fault ≡ WriteFailed → ⊥
body_written limit framing text fault (inl none) e = absurd (cc (none, e))
body_written limit framing text fault (inr wrong) e = error_written fault (body_error limit framing text fault wrong) e
