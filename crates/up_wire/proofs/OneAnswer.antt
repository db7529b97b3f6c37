-- Of one stream of bytes there is one answer, but for the cases that are left open.
use Rattle.std.proofs.Common.{◌≡◌, ℕ, ◌<◌, ◌⊎◌, Some, false, List, [], ◌++◌, Ok, refl, sym, ap, ◌∙◌, subst, arith, append_assoc, inl, inr}
use Rattle.httparse.specs.Grammar.{RequestHead, print_chunk_line}
use Rattle.httparse.proofs.GrammarLemmas.{request_unique}
use Rattle.up_message.specs.declared.message.Message.{Message}
use Rattle.up_wire.specs.declared.wire_fault.WireFault.{WireFault}
use Rattle.up_wire.specs.declared.wire_fault.WireFault.TheVariants as Fault
use Rattle.up_wire.specs.declared.framing.Framing.{Framing}
use Rattle.up_wire.specs.declared.framing.Framing.TheVariants.{Chunked}
use Rattle.up_wire.specs.declared.taken.Taken.{Taken}
use Rattle.up_wire.specs.Message.{Ending, open_yet, ended, failed, IsHead, HasParts, framing_of, is_bare}
use Rattle.up_wire.specs.Device.{Device, device_of}
use Rattle.up_wire.specs.Limits.{max_interruptions}
use Rattle.up_wire.specs.Reading.{Shows}
use Rattle.up_wire.specs.OneAnswer.{MayAnswer, IsSameAnswer, BreaksOff, MayStandFor, in_body, AreOne, HasOneAnswer, Reads, ReadingsAgree}
use Rattle.up_wire.proofs.OneAnswerHeadless.{IsHeadless, bad, large, failing, blank, head_excludes, AreAlike, one_headless}
use Rattle.up_wire.proofs.OneAnswerStops.{IsOpenStop}
use Rattle.up_wire.proofs.OneAnswerChunks.{IsOpenChunking}
use Rattle.up_wire.proofs.OneAnswerBodies.{Outcome, complete, cut, refused, IsOutcome, IsCutBesideRefused, AreAlikeBodies, one_body}
use Rattle.up_wire.proofs.OneAnswerKinds.{IsTold, IsBehindHead, at_fault, framed_so, IsHeaded, kind_of}

-- ---- two answers behind one head

-- a message has what its head and its body say
message_same : (m n : Message) (head : RequestHead) → HasParts m head → HasParts n head → m.body ≡ n.body → m ≡ n
message_same m n head x y body = λ i. record {
  method = (x.method ∙ sym y.method) i;
  target = (x.target ∙ sym y.target) i;
  fields = (x.fields ∙ sym y.fields) i;
  body = body i;
  bare = (x.bare ∙ sym y.bare) i;
  close = (x.close ∙ sym y.close) i;
}

-- one outcome is told in one way
told_same : (head : RequestHead) (rest other : List ℕ) (a b : Taken) (o : Outcome) → IsTold head rest a o → IsTold head other b o → IsSameAnswer a rest b other
told_same head rest other a b (complete bytes more) (m, x, body, is, ends) (n, y, so, says, stops) = record {
  same = is ∙ ap Taken.Message (message_same m n head x y (body ∙ sym so)) ∙ sym says;
  ends = λ which e. ends ∙ sym stops;
}
told_same head rest other a b (cut bytes) (m, x, body, is) (n, y, so, says) = record {
  same = is ∙ ap Taken.Cut (message_same m n head x y (body ∙ sym so)) ∙ sym says;
  ends = λ which e. absurd (cc (is, e));
}
told_same head rest other a b (refused fault) is says = record { same = is ∙ sym says; ends = λ which e. absurd (cc (is, e)) }

-- and so is one fault
fault_same : (head : RequestHead) (rest other : List ℕ) (a b : Taken) (f g : WireFault) → a ≡ Taken.Fault f (is_bare head) → b ≡ Taken.Fault g (is_bare head) → f ≡ g
    → IsSameAnswer a rest b other
fault_same head rest other a b f g x y e = record {
  same = x ∙ ap (λ h. Taken.Fault h (is_bare head)) e ∙ sym y;
  ends = λ which m. absurd (cc (x, m));
}

-- a cut message and a wrong body
cut_for_bad : (limit : ℕ) (all : List ℕ) (end : Ending) (head : RequestHead) (rest other : List ℕ) (a b : Taken) (o p : Outcome) → BreaksOff limit all
    → IsTold head rest a o → IsTold head other b p → IsCutBesideRefused o p → MayStandFor limit all end a b
cut_for_bad limit all end head rest other a b o p breaks x y (bytes, is, says) =
    let told = subst (IsTold head rest a) is x in
    let refusing : b ≡ Taken.Fault Fault.BadFraming (is_bare head) = subst (IsTold head other b) says y in
    subst (λ t. MayStandFor limit all end t b) (sym told.3)
    (subst (MayStandFor limit all end (Taken.Cut told.0)) (sym refusing) (in_body told.0 (is_bare head) breaks))

-- where chunks are left open, the stream breaks off
breaks_off : (limit : ℕ) (all : List ℕ) (head : RequestHead) (behind : List ℕ) → IsHead all head behind → framing_of limit head ≡ Ok Chunked
    → (o : IsOpenChunking limit behind) → IsOpenStop o.here → BreaksOff limit all
breaks_off limit all head behind is framed o (inl (opens, never)) = record {
  head = head;
  behind = behind;
  is_head = is;
  is_framed = framed;
  done = o.done;
  chunks = o.chunks;
  part = o.here;
  has_chunks = o.has_chunks;
  stops = inl (o.text_is, opens, never);
}
breaks_off limit all head behind is framed o (inr (line, rest, e, so, (zero, (opens, why)))) = record {
  head = head;
  behind = behind;
  is_head = is;
  is_framed = framed;
  done = o.done;
  chunks = o.chunks;
  part = rest;
  has_chunks = o.has_chunks;
  stops = inr (
    o.chunks ++ print_chunk_line line,
    record { line = line; is_line = so; is_last = zero; text_is = refl },
    o.text_is ∙ ap (λ t. o.chunks ++ t) e ∙ sym (append_assoc o.chunks (print_chunk_line line) rest),
    opens,
    why,
  );
}

-- two answers to one framing
one_told : (limit : ℕ) (all : List ℕ) (end : Ending) (a b : Taken) (rest other : List ℕ) (head : RequestHead) (behind : List ℕ) (framing : Framing) (o p : Outcome)
    → IsHead all head behind → framing_of limit head ≡ Ok framing → IsTold head rest a o → IsTold head other b p → AreAlikeBodies limit framing behind o p
    → AreOne limit all end a rest b other
one_told limit all end a b rest other head behind framing o p is framed x y (inl same) =
    inl (told_same head rest other a b o x (subst (IsTold head other b) (sym same) y))
one_told limit all end a b rest other head behind framing o p is framed x y (inr (chunked, opens, inl beside)) =
    inr (inl (cut_for_bad limit all end head rest other a b o p (breaks_off limit all head behind is (framed ∙ ap Ok chunked) opens opens.opens) x y beside))
one_told limit all end a b rest other head behind framing o p is framed x y (inr (chunked, opens, inr beside)) =
    inr (inr (cut_for_bad limit all end head other rest b a p o (breaks_off limit all head behind is (framed ∙ ap Ok chunked) opens opens.opens) y x beside))

-- to one head
one_behind : (limit : ℕ) (all : List ℕ) (end : Ending) (a b : Taken) (rest other : List ℕ) (head : RequestHead) (behind : List ℕ) → IsHead all head behind
    → IsBehindHead limit head behind rest a → IsBehindHead limit head behind other b → AreOne limit all end a rest b other
one_behind limit all end a b rest other head behind is (at_fault f e x) (at_fault g d y) =
    let same : f ≡ g = cc (sym e ∙ d) in
    inl (fault_same head rest other a b f g x y same)
one_behind limit all end a b rest other head behind is (at_fault f e x) (framed_so framing o d z y) = absurd (cc (sym e ∙ d))
one_behind limit all end a b rest other head behind is (framed_so framing o e z x) (at_fault g d y) = absurd (cc (sym e ∙ d))
one_behind limit all end a b rest other head behind is (framed_so framing o e z x) (framed_so again p d w y) =
    let same : framing ≡ again = cc (sym e ∙ d) in
    one_told limit all end a b rest other head behind framing o p is e x y
    (one_body limit framing behind o p z (subst (λ f. IsOutcome limit f behind p) (sym same) w))

-- to one stream that has a whole head
one_headed : (limit : ℕ) (all : List ℕ) (end : Ending) (a b : Taken) (rest other : List ℕ) → IsHeaded limit all rest a → IsHeaded limit all other b
    → AreOne limit all end a rest b other
one_headed limit all end a b rest other x y =
    let same = request_unique all x.head y.head x.behind y.behind x.is_head.reads y.is_head.reads in
    one_behind limit all end a b rest other x.head x.behind x.is_head x.is
    (subst (λ t. IsBehindHead limit x.head t other b) (sym same.1) (subst (λ h. IsBehindHead limit h y.behind other b) (sym same.0) y.is))

-- ---- the law

-- an answer without a head is no message
no_message : (all : List ℕ) (end : Ending) (a : Taken) (m : Message) → IsHeadless all end a → a ≡ Taken.Message m → ⊥
no_message all end a m (bad x) e = absurd (cc)
no_message all end a m (large x) e = absurd (cc)
no_message all end a m (failing s f x) e = absurd (cc)
no_message all end a m (blank s f x) e = absurd (cc)

-- two answers without a head
headless_so : (limit : ℕ) (all : List ℕ) (end : Ending) (a b : Taken) (rest other : List ℕ) → IsHeadless all end a → AreAlike limit all end a b → AreOne limit all end a rest b other
headless_so limit all end a b rest other x (inl same) = inl (record { same = same; ends = λ m e. absurd (no_message all end a m x e) })
headless_so limit all end a b rest other x (inr stands) = inr stands

-- two answers of any kind
by_kind : (limit : ℕ) (all : List ℕ) (end : Ending) (a b : Taken) (rest other : List ℕ) → IsHeadless all end a ⊎ IsHeaded limit all rest a
    → IsHeadless all end b ⊎ IsHeaded limit all other b → AreOne limit all end a rest b other
by_kind limit all end a b rest other (inl x) (inl y) = headless_so limit all end a b rest other x (one_headless limit all end a b x y)
by_kind limit all end a b rest other (inl x) (inr y) = absurd (head_excludes all end a y.head y.behind y.is_head x)
by_kind limit all end a b rest other (inr x) (inl y) = absurd (head_excludes all end b x.head x.behind x.is_head y)
by_kind limit all end a b rest other (inr x) (inr y) = one_headed limit all end a b rest other x y

-- two answers to one stream
pub one_answer : (limit : ℕ) → HasOneAnswer limit
one_answer limit all end a b rest other of so x y =
    by_kind limit all end a b rest other (kind_of limit all end a rest of x) (kind_of limit all end b other so y)

-- ---- two calls

-- what no read failed for is open or ended
stands_so : (before : Device) (rest : List ℕ) (ending : Ending) (after count : ℕ) → count < max_interruptions → Shows ending before (device_of (Some rest) false after) count
    → (ending ≡ open_yet) ⊎ ((rest ≡ []) × (ending ≡ ended))
stands_so before rest open_yet after count patient shows = inl refl
stands_so before rest ended after count patient shows = inr (shows, refl)
stands_so before rest failed after count patient (inl fails) = absurd (cc)
stands_so before rest failed after count patient (inr often) = absurd (omega (arith, often.0))

-- a call may give its answer
may_answer : (limit : ℕ) (all rest : List ℕ) (answer : Taken) → Reads limit all rest answer → MayAnswer limit all ended answer rest
may_answer limit all rest answer r =
    let reading = r.is_reading in record {
      input = reading.input;
      ending = reading.ending;
      front = reading.took;
      stands = stands_so _ rest reading.ending r.after _ r.patient reading.shows;
      is_answer = reading.is_answer;
    }

-- two calls on the same bytes
pub readings_agree : (limit : ℕ) → ReadingsAgree limit
readings_agree limit all rest other a b of so x y =
    one_answer limit all ended a b rest other of so (may_answer limit all rest a x) (may_answer limit all other b y)
