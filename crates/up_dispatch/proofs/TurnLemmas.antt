-- Turns in a row, and that the last one ends a conversation.
use Rattle.std.proofs.Common.{◌≡◌, ℕ, zero, suc, eqb, true, add-one, ◌+◌, ◌≤◌, ◌||◌, Bool, Option, Some, None, Result, Ok, Err, List, refl, sym, ap, subst, ⊎_elim, ◌<◌, arith}
use Rattle.std.proofs.lemmas.Bool.{cases_lt, eq-eqb}
use Rattle.up_dispatch.specs.Answering.{Drawing, Serves, answers_with, keeper_state}
use Rattle.up_dispatch.specs.Keeps.{Keeping}
use Rattle.up_dispatch.specs.Turn.{Answering, DiskFacts, IsCutCarriedOut, IsCutTurn, IsFaultSent, IsServed, Sends, SendsShown, ConversationState, TakesTurn, TurnsLeadTo, unanswered}
use Rattle.up_headers.specs.declared.header_fault.HeaderFault.{HeaderFault}
use Rattle.up_headers.specs.declared.request.Request.{Request}
use Rattle.up_headers.specs.declared.request.Request.TheVariants as request
use Rattle.up_message.specs.declared.message.Message.{Message}
use Rattle.up_dispatch.specs.declared.ended.Ended.{Ended}
use Rattle.up_wire.specs.Device.{Device}
use Rattle.up_message.specs.declared.response.Response.{Response}
use Rattle.up_wire.specs.Shown.{IsShownFor}
use Rattle.up_wire.specs.declared.taken.Taken.{Taken}
use Rattle.up_wire.specs.declared.wire_fault.WireFault.{WireFault}

pub no_passes : {C : Type 0} (disk : DiskFacts) (answers : Answering C) (max_size : ℕ) (conversation_state : ConversationState C) → TurnsLeadTo disk answers max_size 0 conversation_state conversation_state
unfolding TurnsLeadTo
no_passes disk answers max_size conversation_state = refl

pub passes_more :
    {C : Type 0} (disk : DiskFacts) (answers : Answering C) (max_size turns : ℕ) (old mid new : ConversationState C) → TurnsLeadTo disk answers max_size turns old mid
    → TakesTurn disk answers max_size (eqb (turns + 1) 10000) mid new None → TurnsLeadTo disk answers max_size (turns + 1) old new
unfolding TurnsLeadTo
passes_more disk answers max_size turns old mid new before turn =
    subst (λ n. TurnsLeadTo disk answers max_size n old new) (sym (add-one turns)) (mid, before, turn)

-- an answer that closes the conversation ends it
closing_sent : (disk : DiskFacts) (before after : Device) (r : Response) (bare : Bool) → SendsShown disk before after r bare true None → ⊥
closing_sent disk before after r bare sent = let closes = sent.sends.0 in absurd (cc)

fault_sent :
    (disk : DiskFacts) (how : Option Ended) (fault : WireFault) (bare : Bool) (before after : Device) → IsFaultSent disk how fault bare before after None → ⊥
fault_sent disk None fault bare before after sent = closing_sent disk before after sent.0 bare sent.2
fault_sent disk (Some how) fault bare before after sent = let ended = sent.1 in absurd (cc)

-- the last turn ends the conversation
last_served :
    {C : Type 0} (disk : DiskFacts) (answers : Answering C) (taken : Taken) (max_size : ℕ) (old new : C) (before after : Device)
    → IsServed disk answers taken max_size true old new before after None → ⊥
last_served disk answers (Taken.Message m) max_size old new before after served =
    closing_sent disk before after served.0 m.bare served.2
last_served disk answers (Taken.Cut m) max_size old new before after served = let ended = served.2 in absurd (cc)
last_served disk answers (Taken.Fault fault bare) max_size old new before after served =
    fault_sent disk (unanswered fault) fault bare before after served.1
last_served disk answers Taken.End max_size old new before after served = let ended = served.2 in absurd (cc)

-- so no more turns than there may be go before the last one
pub passes_few :
    {C : Type 0} (disk : DiskFacts) (answers : Answering C) (max_size turns : ℕ) (old new : ConversationState C) → 10000 ≤ turns → TurnsLeadTo disk answers max_size turns old new
    → ⊥
unfolding TurnsLeadTo
passes_few disk answers max_size zero old new least passes = absurd (omega arith)
passes_few disk answers max_size (suc turns) old new least passes =
    ⊎_elim
    (λ (more : 10000 < turns + 1). passes_few disk answers max_size turns old passes.0 (omega arith) passes.1)
    (λ (most : turns + 1 ≤ 10000).
    let all : turns + 1 ≡ 10000 = omega arith in
    let turn = subst (λ b. TakesTurn disk answers max_size b passes.0 new None) (eq-eqb (turns + 1) 10000 all) passes.2 in
    last_served disk answers turn.taken max_size passes.0.keeper_state new.keeper_state turn.sink new.sink turn.is_served)
    (cases_lt 10000 (turns + 1))

-- only an append was carried out, and it takes no id, so the source of ids is as it was
cut_serves :
    {S D : Type 0} (k : Keeping S) (draws : Drawing D) (ids : D) (s t : S) (read : Result Request HeaderFault)
    → IsCutCarriedOut (answers_with k 0) s t read
    → IsCutCarriedOut (Serves k draws) (keeper_state s ids) (keeper_state t ids) read
cut_serves k draws ids s t (Err fault) same = ap (λ x. keeper_state x ids) same
cut_serves k draws ids s t (Ok request.Options) same = ap (λ x. keeper_state x ids) same
cut_serves k draws ids s t (Ok (request.Create made)) same = ap (λ x. keeper_state x ids) same
cut_serves k draws ids s t (Ok (request.Head u)) same = ap (λ x. keeper_state x ids) same
cut_serves k draws ids s t (Ok (request.Patch p)) done = (done.0, record { id = 0; takes = (refl, refl); answered = done.1 })
cut_serves k draws ids s t (Ok (request.Delete u)) same = ap (λ x. keeper_state x ids) same
cut_serves k draws ids s t (Ok (request.Get u)) same = ap (λ x. keeper_state x ids) same

pub cut_turn :
    {S D : Type 0} (k : Keeping S) (draws : Drawing D) (ids : D) (s t : S) (m : Message) (max_size : ℕ)
    → IsCutTurn (answers_with k 0) m max_size s t
    → IsCutTurn (Serves k draws) m max_size (keeper_state s ids) (keeper_state t ids)
cut_turn k draws ids s t m max_size done = (done.0, done.1, cut_serves k draws ids s t done.0 done.2)

-- what is known of the disk later: each read that was true before is so if all are
shown_later : (d e : DiskFacts) (before after : Device) (r : Response) (bare close : Bool) → (e.is_true → d.is_true) → SendsShown d before after r bare close None → SendsShown e before after r bare close None
shown_later d e before after r bare close stays sent = record {
  body = sent.body;
  is_shown = record { as_many = sent.is_shown.as_many; same = λ all. sent.is_shown.same (stays all) };
  sends = sent.sends;
}

fault_later : (d e : DiskFacts) (how : Option Ended) (fault : WireFault) (bare : Bool) (before after : Device) → (e.is_true → d.is_true) → IsFaultSent d how fault bare before after None → IsFaultSent e how fault bare before after None
fault_later d e None fault bare before after stays sent = (sent.0, sent.1, shown_later d e before after sent.0 bare true stays sent.2)
fault_later d e (Some how) fault bare before after stays sent = sent

served_later :
    {C : Type 0} (d e : DiskFacts) (answers : Answering C) (taken : Taken) (max_size : ℕ) (is_last : Bool) (old new : C) (before after : Device)
    → (e.is_true → d.is_true) → IsServed d answers taken max_size is_last old new before after None → IsServed e answers taken max_size is_last old new before after None
served_later d e answers (Taken.Message m) max_size is_last old new before after stays served =
    (served.0, served.1, shown_later d e before after served.0 m.bare (is_last || m.close) stays served.2)
served_later d e answers (Taken.Cut m) max_size is_last old new before after stays served = served
served_later d e answers (Taken.Fault fault bare) max_size is_last old new before after stays served =
    (served.0, fault_later d e (unanswered fault) fault bare before after stays served.1)
served_later d e answers Taken.End max_size is_last old new before after stays served = served

turn_later :
    {C : Type 0} (d e : DiskFacts) (answers : Answering C) (max_size : ℕ) (is_last : Bool) (old new : ConversationState C)
    → (e.is_true → d.is_true) → TakesTurn d answers max_size is_last old new None → TakesTurn e answers max_size is_last old new None
turn_later d e answers max_size is_last old new stays turn = record {
  taken = turn.taken;
  sink = turn.sink;
  is_reading = turn.is_reading;
  is_served = served_later d e answers turn.taken max_size is_last old.keeper_state new.keeper_state turn.sink new.sink stays turn.is_served;
}

pub passes_later :
    {C : Type 0} (d e : DiskFacts) (answers : Answering C) (max_size turns : ℕ) (old new : ConversationState C)
    → (e.is_true → d.is_true) → TurnsLeadTo d answers max_size turns old new → TurnsLeadTo e answers max_size turns old new
unfolding TurnsLeadTo
passes_later d e answers max_size zero old new stays passes = passes
passes_later d e answers max_size (suc turns) old new stays passes =
    (passes.0, passes_later d e answers max_size turns old passes.0 stays passes.1, turn_later d e answers max_size _ passes.0 new stays passes.2)
