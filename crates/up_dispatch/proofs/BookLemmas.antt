-- A keeper that lends a book, and counted ids, are exact.
use Rattle.std.proofs.Common.{◌≡◌, inl, inr, ℕ, true, false, cond, Option, Some, None, Result, Ok, Err, refl, sym, ap, ◌∙◌, subst}
use Rattle.std.specs.FinMap as map
use Rattle.up_headers.specs.Rows.{first_that_holds}
use Rattle.up_headers.specs.declared.request.Patch.{Patch}
use Rattle.up_headers.specs.declared.request.Request.{Request}
use Rattle.up_headers.specs.declared.request.Request.TheVariants as request
use Rattle.up_machine.proofs.PlanLemmas.{refusals_kept}
use Rattle.up_machine.specs.Asks.{ask_of}
use Rattle.up_machine.specs.Content.{Content, is_complete, patched}
use Rattle.up_machine.specs.Decision.{IsExpectedOrNoMemory, decide, decide_plan, new_content, patch_completes, planned_rows, plan_to_create, plan_to_remove, plan_to_take, response_to, unless}
use Rattle.up_machine.specs.State.{State}
use Rattle.up_machine.specs.declared.ask.Ask.{Ask}
use Rattle.up_machine.specs.declared.ask.Point.TheVariants as point
use Rattle.up_machine.specs.declared.plan.Asked.{Asked}
use Rattle.up_machine.specs.declared.plan.Asked.TheVariants.{Skipped}
use Rattle.up_machine.specs.declared.plan.Done.{Done}
use Rattle.up_machine.specs.declared.plan.Plan.{Plan}
use Rattle.up_machine.specs.declared.plan.Plan.TheVariants as plan
use Rattle.up_machine.specs.declared.refusal.Refusal.{Refusal}
use Rattle.up_machine.specs.declared.refusal.Refusal.TheVariants as refusal
use Rattle.up_message.specs.Refused.{out_of_memory}
use Rattle.up_message.specs.declared.response.Response.{Response}
use Rattle.up_dispatch.specs.Answering.{Answered, KeeperState, Serves, IsResponseTo}
use Rattle.up_dispatch.specs.ByBook.{IsAnsweredTo, IsCommitted, IsOutcome}
use Rattle.up_dispatch.specs.Counts.{CountsIds}
use Rattle.up_dispatch.specs.Keepers.{BookIsMadeOrUnchanged, by_book}
use Rattle.up_dispatch.specs.Keeps.{CommitsAsAsked, Follows, ClosureAnswers, IsAsked}
use Rattle.up_dispatch.specs.Replies.{IsReply}

-- ---- a plan with a response is the decision

abbrev unchanged : Response → Done
unchanged response = record { response = response; change = None }

told_at :
    (o : Option Refusal) (x r : Response) → Ok (plan.Answer r) ≡ unless o (plan.Answer x)
    → Ok (unchanged r) ≡ unless o (unchanged x)
told_at None x r e = let h : r ≡ x = cc in ap (λ y. Ok (unchanged y)) h
told_at (Some f) x r e = absurd (cc)

-- a plan that has no response
abbrev IsNoAnswer : Plan → Type 0
IsNoAnswer p = (o : Option Refusal) (r : Response) → Ok (plan.Answer r) ≡ unless o p → ⊥

asks_instead : (a : Ask) → IsNoAnswer (plan.Ask a)
asks_instead a None r e = absurd (cc)
asks_instead a (Some f) r e = absurd (cc)

asks_both_instead : (a b : Ask) → IsNoAnswer (plan.AskBoth a b)
asks_both_instead a b None r e = absurd (cc)
asks_both_instead a b (Some f) r e = absurd (cc)

ready_instead : IsNoAnswer plan.Ready
ready_instead None r e = absurd (cc)
ready_instead (Some f) r e = absurd (cc)

creates_instead : (x : Content) → IsNoAnswer (plan_to_create x)
creates_instead x =
    let first = ask_of point.Create None x in
    let second = ask_of point.Finish None x in
    elim (is_complete x) as (λ b. IsNoAnswer (cond b (plan.AskBoth first second) (plan.Ask first))) [
      | true ↦ asks_both_instead first second
      | false ↦ asks_instead first
    ]

takes_instead : (p : Patch) (found : Option Content) → IsNoAnswer (plan_to_take p found)
takes_instead p None = ready_instead
takes_instead p (Some x) =
    let ask = ask_of point.Finish (Some p.id) (patched p x) in
    elim (patch_completes p (Some x)) as (λ b. IsNoAnswer (cond b (plan.Ask ask) plan.Ready)) [
      | true ↦ asks_instead ask
      | false ↦ ready_instead
    ]

removes_instead : (u : ℕ) (found : Option Content) → IsNoAnswer (plan_to_remove u found)
removes_instead u None = ready_instead
removes_instead u (Some x) = asks_instead (ask_of point.Terminate (Some u) x)

-- the first row of the plan that refuses
abbrev refused_by : State → Request → Option Refusal
refused_by s asks = first_that_holds (planned_rows s asks)

plan_is_decision :
    (s : State) (asks : Request) (id : ℕ) (r : Response) → Ok (plan.Answer r) ≡ decide_plan s asks
    → Ok (unchanged r) ≡ decide s asks id Skipped
plan_is_decision s request.Options id r e = told_at (refused_by s request.Options) (response_to s request.Options 0) r e
plan_is_decision s (request.Create new) id r e = absurd (creates_instead (new_content s new) (refused_by s (request.Create new)) r e)
plan_is_decision s (request.Head u) id r e = told_at (refused_by s (request.Head u)) (response_to s (request.Head u) 0) r e
plan_is_decision s (request.Patch p) id r e = absurd (takes_instead p (map.get s.content p.id) (refused_by s (request.Patch p)) r e)
plan_is_decision s (request.Delete u) id r e = absurd (removes_instead u (map.get s.content u) (refused_by s (request.Delete u)) r e)
plan_is_decision s (request.Get u) id r e = told_at (refused_by s (request.Get u)) (response_to s (request.Get u) 0) r e

-- ---- an answer by a lent book

wanting : (response : Response) → IsReply out_of_memory response → response ≡ out_of_memory
wanting response (inl e) = e
wanting response (inr e) = e

module _ (gives : ClosureAnswers) (s t : State) (asks : Request) (id : ℕ) (response : Response) where
  by_decision :
      (result : Result Done Refusal) → IsCommitted gives s asks id result → BookIsMadeOrUnchanged s asks id t result → IsResponseTo result response
      → IsOutcome gives s asks id response t
  by_decision (Ok done) committed leaves tells = inl (Ok done, committed, (tells, leaves))
  by_decision (Err r) committed leaves (inl tells) = inl (Err r, committed, (tells, leaves))
  by_decision (Err r) committed leaves (inr wants) = inr (wants, leaves)

  by_want :
      (result : Result Done Refusal) → result ≡ Err refusal.NoMemory → BookIsMadeOrUnchanged s asks id t result → IsResponseTo result response
      → IsOutcome gives s asks id response t
  by_want result is leaves tells =
      inr (wanting response (subst (λ r. IsResponseTo r response) is tells), subst (BookIsMadeOrUnchanged s asks id t) is leaves)

  by_commit :
      (asked : Asked) (result : Result Done Refusal) → IsAsked gives (decide_plan s asks) asked → IsExpectedOrNoMemory result (decide s asks id asked)
      → BookIsMadeOrUnchanged s asks id t result → IsResponseTo result response → IsOutcome gives s asks id response t
  by_commit asked result is (inl e) leaves tells = by_decision result (asked, is, e) leaves tells
  by_commit asked result is (inr wants) leaves tells = by_want result wants.0 leaves tells

  -- the plan is that of the decision, and the closures were asked what it says
  by_asking :
      (p : Plan) (result : Result Done Refusal) → Ok p ≡ decide_plan s asks → CommitsAsAsked (by_book gives) s asks id p result t
      → IsResponseTo result response → IsOutcome gives s asks id response t
  by_asking p result e commits tells =
      by_commit commits.0 result (subst (λ (r : Result Plan Refusal). IsAsked gives r commits.0) e commits.1) commits.2.0 commits.2.1 tells

  by_plan :
      (planned : Result Plan Refusal) (result : Result Done Refusal) → IsExpectedOrNoMemory planned (decide_plan s asks)
      → Follows (by_book gives) s asks id planned result t → IsResponseTo result response → IsOutcome gives s asks id response t
  by_plan (Err r) result (inl e) follows tells =
      by_decision (Err r)
      (Skipped, subst (λ (p : Result Plan Refusal). IsAsked gives p Skipped) e refl, sym (refusals_kept s asks id Skipped r (sym e)))
      follows.1 (subst (λ x. IsResponseTo x response) follows.0 tells)
  by_plan (Err r) result (inr wants) follows tells =
      let h : r ≡ refusal.NoMemory = let e = wants.0 in cc in
      by_want result (follows.0 ∙ ap Err h) (subst (BookIsMadeOrUnchanged s asks id t) (sym follows.0) follows.1) tells
  by_plan (Ok (plan.Answer r)) result (inl e) follows tells =
      by_decision (Ok (unchanged r))
      (Skipped, subst (λ (p : Result Plan Refusal). IsAsked gives p Skipped) e refl, plan_is_decision s asks id r e)
      follows.1 (subst (λ x. IsResponseTo x response) follows.0 tells)
  by_plan (Ok (plan.Ask ask)) result (inl e) follows tells = by_asking (plan.Ask ask) result e follows tells
  by_plan (Ok (plan.AskBoth first second)) result (inl e) follows tells = by_asking (plan.AskBoth first second) result e follows tells
  by_plan (Ok plan.Ready) result (inl e) follows tells = by_asking plan.Ready result e follows tells
  by_plan (Ok planned) result (inr wants) follows tells = let e = wants.0 in absurd (cc)

  pub by_lent : Answered (by_book gives) s asks id response t → IsOutcome gives s asks id response t
  by_lent answered = by_plan answered.1.0 answered.0 answered.1.1 answered.1.2 answered.2

-- ---- with counted ids

module _ (gives : ClosureAnswers) (old new : KeeperState State ℕ) where
  answered :
      (asks : Request) (response : Response) (is : Serves (by_book gives) CountsIds old new asks response)
      → IsOutcome gives old.state asks is.id response new.state
  answered asks response is = by_lent gives old.state new.state asks is.id response is.answered

  pub exact :
      (asks : Request) (response : Response) → Serves (by_book gives) CountsIds old new asks response
      → IsAnsweredTo gives old new asks response
  exact request.Options response is = record { answer = answered request.Options response is; ids = is.takes.1 }
  exact (request.Create made) response is = record {
    answer = subst (λ n. IsOutcome gives old.state (request.Create made) n response new.state) is.takes.0 (answered (request.Create made) response is);
    ids = is.takes.1 ∙ is.takes.0;
  }
  exact (request.Head u) response is = record { answer = answered (request.Head u) response is; ids = is.takes.1 }
  exact (request.Patch p) response is = record { answer = answered (request.Patch p) response is; ids = is.takes.1 }
  exact (request.Delete u) response is = record { answer = answered (request.Delete u) response is; ids = is.takes.1 }
  exact (request.Get u) response is = record { answer = answered (request.Get u) response is; ids = is.takes.1 }
