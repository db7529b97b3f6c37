-- What a closure may return.
use Rattle.std.specs.Prelude.{ℕ, Bool, true, ◌==◌, ◌||◌}
use Rattle.up_machine.specs.declared.ask.Verdict.{Verdict}
use Rattle.up_machine.specs.declared.ask.Verdict.TheVariants.{Allow, Refuse}
use Rattle.up_machine.specs.declared.plan.Asked.{Asked}
use Rattle.up_machine.specs.declared.plan.Asked.TheVariants.{Skipped, Allowed, AllowedFinish, Refused}

-- a status with which a closure may refuse
abbrev pub is_refusal_status : ℕ → Bool
is_refusal_status status =
    status == 400 || status == 403 || status == 409 || status == 413 || status == 422 || status == 429

-- it allows, or refuses with one of these statuses
abbrev pub is_allowed_verdict : Verdict → Bool
is_allowed_verdict Allow = true
is_allowed_verdict (Refuse status reason) = is_refusal_status status

-- no closure refuses with another status
abbrev pub has_lawful_status : Asked → Bool
has_lawful_status Skipped = true
has_lawful_status Allowed = true
has_lawful_status AllowedFinish = true
has_lawful_status (Refused status reason) = is_refusal_status status
