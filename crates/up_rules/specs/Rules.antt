-- The verdicts of the rules of the command line, and which rules its words ask for.
use Rattle.std.specs.Prelude.{ℕ, ◌||◌, ◌++◌, Bool, true, false, List, [], ◌∷◌, Option, Some, None, is_some, map, codes, string_bytes, if◌then◌else◌}
use Rattle.up_headers.specs.Creations.{is_above}
use Rattle.up_machine.specs.Asks.{value_of}
use Rattle.up_machine.specs.Decision.{is_partial}
use Rattle.up_machine.specs.declared.ask.Ask.{Ask}
use Rattle.up_machine.specs.declared.ask.Point.{Point}
use Rattle.up_machine.specs.declared.ask.Point.TheVariants.{Create, Finish, Terminate}
use Rattle.up_machine.specs.declared.ask.Verdict.{Verdict}
use Rattle.up_machine.specs.declared.ask.Verdict.TheVariants.{Allow, Refuse}
use Rattle.up_rules.specs.declared.rule.Rule.{Rule}
use Rattle.up_rules.specs.declared.rule.Rule.TheVariants.{NeedsKey, AtMost, Keeps, FinishesAtMost}
use Rattle.up_words.specs.declared.settings.Words.{Words}

-- a plain or final upload is refused if its metadata has no such key
abbrev pub needs_key : Ask → List ℕ → Verdict
needs_key ask key =
    if is_partial ask.kind || is_some (value_of key ask.pairs) then Allow else Refuse 422 (codes "metadata key missing")

-- an upload with a known length above the limit is refused
abbrev pub at_most : Ask → ℕ → Verdict
at_most ask limit = if is_above limit ask.length then Refuse 413 (codes "too long for this server") else Allow

-- an upload that would be longer than the limit once it is complete is refused
abbrev pub finishes_at_most : Ask → ℕ → Verdict
finishes_at_most ask limit = if is_above limit ask.length then Refuse 422 (codes "too long to finish") else Allow

-- every request is refused
abbrev pub keeps : Ask → Verdict
keeps ask = Refuse 403 (codes "uploads are kept")

-- the point at which a rule is asked
abbrev pub point_of : Rule → Point
point_of (NeedsKey key) = Create
point_of (AtMost limit) = Create
point_of Keeps = Terminate
point_of (FinishesAtMost limit) = Finish

-- the verdict of a rule
abbrev pub judged : Rule → Ask → Verdict
judged (NeedsKey key) ask = needs_key ask (string_bytes key)
judged (AtMost limit) ask = at_most ask limit
judged Keeps ask = keeps ask
judged (FinishesAtMost limit) ask = finishes_at_most ask limit

-- the point at which each of these rules is asked, and its verdict
abbrev pub meant_by : List Rule → List (Point × (Ask → Verdict))
meant_by rules = map (λ rule. (point_of rule, judged rule)) rules

-- a list with one value if there is something, and otherwise empty
abbrev pub one_for : {X Y : Type 0} → (X → Y) → Option X → List Y
one_for f None = []
one_for f (Some x) = f x ∷ []

abbrev pub one_if : {Y : Type 0} → Y → Bool → List Y
one_if y true = y ∷ []
one_if y false = []

-- the rules that the words ask for, in the order of the help
abbrev pub asked_by : Words → List (Point × (Ask → Verdict))
asked_by words =
    one_for (λ key. (Create, λ ask. needs_key ask (string_bytes key))) words.require_key
    ++ one_for (λ limit. (Create, λ ask. at_most ask limit)) words.max_length
    ++ one_if (Terminate, keeps) words.keep
    ++ one_for (λ limit. (Finish, λ ask. finishes_at_most ask limit)) words.max_finish
