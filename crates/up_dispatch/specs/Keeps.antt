-- How a keeper and the closures decide on a request.
use Rattle.std.specs.Prelude.{◌≡◌, ◌⊎◌, ℕ, true, false, None, Result, Ok, Err}
use Rattle.up_headers.specs.declared.request.Request.{Request}
use Rattle.up_machine.specs.Decision.{is_refusal}
use Rattle.up_machine.specs.declared.ask.Ask.{Ask}
use Rattle.up_machine.specs.declared.plan.Asked.{Asked}
use Rattle.up_machine.specs.declared.plan.Asked.TheVariants.{Skipped}
use Rattle.up_machine.specs.declared.plan.Done.{Done}
use Rattle.up_machine.specs.declared.plan.Plan.{Plan}
use Rattle.up_machine.specs.declared.plan.Plan.TheVariants as plan
use Rattle.up_machine.specs.declared.refusal.Refusal.{Refusal}

-- which plans a request may get
abbrev pub Planning : Type 0 → Type 1
Planning S = S → Request → Result Plan Refusal → Type 0

-- what a commit of a request, with an id and with what the closures answered, may leave and answer
abbrev pub Committing : Type 0 → Type 1
Committing S = S → Request → ℕ → Asked → S → Result Done Refusal → Type 0

-- what the closures together may answer to a question
abbrev pub ClosureAnswers : Type 1
ClosureAnswers = Ask → Asked → Type 0

-- the plans and the commits of a keeper, and the answers of the closures
pub record Keeping (S : Type 0) : Type 1 where
  pub plans : Planning S
  pub commits : Committing S
  pub gives : ClosureAnswers

abbrev pub keeping : {S : Type 0} → Planning S → Committing S → ClosureAnswers → Keeping S
keeping plans commits gives = record { plans = plans; commits = commits; gives = gives }

-- the answer to the first question if it is a refusal, else the answer to the second
abbrev pub AreAskedInTurn : ClosureAnswers → Ask → Ask → Asked → Type 0
AreAskedInTurn gives first second asked =
    (gives first asked × (is_refusal asked ≡ true))
    ⊎ ((passed : Asked) × gives first passed × (is_refusal passed ≡ false) × gives second asked)

-- the answer of the closures to the questions of a plan; `Skipped` if there is none
abbrev pub IsAsked : ClosureAnswers → Result Plan Refusal → Asked → Type 0
IsAsked gives (Ok (plan.Answer response)) asked = asked ≡ Skipped
IsAsked gives (Ok (plan.Ask ask)) asked = gives ask asked
IsAsked gives (Ok (plan.AskBoth first second)) asked = AreAskedInTurn gives first second asked
IsAsked gives (Ok plan.Ready) asked = asked ≡ Skipped
IsAsked gives (Err refused) asked = asked ≡ Skipped

-- the request is committed, with what the closures answered to this plan
abbrev pub CommitsAsAsked : {S : Type 0} → Keeping S → S → Request → ℕ → Plan → Result Done Refusal → S → Type 0
CommitsAsAsked k s request id planned result t =
    (asked : Asked) × IsAsked k.gives (Ok planned) asked × k.commits s request id asked t result

-- the result after this plan: its refusal, its response, or the result of a commit
abbrev pub Follows : {S : Type 0} → Keeping S → S → Request → ℕ → Result Plan Refusal → Result Done Refusal → S → Type 0
Follows k s request id (Err refusal) result t = (result ≡ Err refusal) × (t ≡ s)
Follows k s request id (Ok (plan.Answer response)) result t = (result ≡ Ok (record { response = response; change = None })) × (t ≡ s)
Follows k s request id (Ok (plan.Ask ask)) result t = CommitsAsAsked k s request id (plan.Ask ask) result t
Follows k s request id (Ok (plan.AskBoth first second)) result t = CommitsAsAsked k s request id (plan.AskBoth first second) result t
Follows k s request id (Ok plan.Ready) result t = CommitsAsAsked k s request id plan.Ready result t

-- one plan, and at most one commit
abbrev pub Keeps : {S : Type 0} → Keeping S → S → Request → ℕ → Result Done Refusal → S → Type 0
Keeps k s request id result t = (planned : Result Plan Refusal) × k.plans s request planned × Follows k s request id planned result t
