-- For the prover: any two proofs that a list of events is lawful are equal, so that a type can keep this fact.
use Rattle.std.specs.Prelude.{◌≡◌, ℕ, zero, suc, ◌+◌, List, [], ◌∷◌, Option, filter, refl}
use Rattle.std.specs.Coded.{Coded, Coded-set, coded_ℕ, coded_list, coded_option, coded×, code_by, Π_prop, ×_prop, Unit-prop, le_prop}
use Rattle.up_events.specs.declared.event.Event.{Event}
use Rattle.up_events.specs.declared.event.Hook.{Hook}
use Rattle.up_events.specs.declared.event.Hook.TheVariants.{Create, Receive, Finish, Terminate}
use Rattle.up_events.specs.Log.{is_of, CountsFrom, IsLawfulRun, IsLawful}

-- the number of a hook, and the hook of a number
abbrev number_of_hook : Hook → ℕ
number_of_hook Create = 0
number_of_hook Receive = 1
number_of_hook Finish = 2
number_of_hook Terminate = 3

abbrev hook_with_number : ℕ → Hook
hook_with_number zero = Create
hook_with_number (suc zero) = Receive
hook_with_number (suc (suc zero)) = Finish
hook_with_number (suc (suc (suc n))) = Terminate

hook_of-number_of : (hook : Hook) → hook_with_number (number_of_hook hook) ≡ hook
hook_of-number_of Create = refl
hook_of-number_of Receive = refl
hook_of-number_of Finish = refl
hook_of-number_of Terminate = refl

abbrev hook_code : Coded Hook
hook_code = code_by ℕ coded_ℕ number_of_hook hook_with_number hook_of-number_of

-- an event is stored as the pairs of its fields
abbrev event_code : Coded Event
event_code =
    code_by (ℕ × (ℕ × (Hook × (ℕ × Option ℕ)))) (coded× coded_ℕ (coded× coded_ℕ (coded× hook_code (coded× coded_ℕ (coded_option coded_ℕ)))))
    (λ e. (e.id, (e.number, (e.hook, (e.offset, e.length))))) (λ p. record { id = p.0; number = p.1.0; hook = p.1.1.0; offset = p.1.1.1.0; length = p.1.1.1.1 }) (λ _. refl)

counts_once : (n : ℕ) (events : List Event) → IsProp (CountsFrom n events)
counts_once n [] = Unit-prop
counts_once n (e ∷ events) = ×_prop (Coded-set coded_ℕ e.number (n + 1)) (counts_once (n + 1) events)

run_once : (events : List Event) → IsProp (IsLawfulRun events)
run_once events x y = λ i. record {
  numbers = counts_once 0 events x.numbers y.numbers i;
  first = Π_prop (λ e. Π_prop (λ rest. Π_prop (λ is. Coded-set hook_code e.hook Create))) x.first y.first i;
  one_finish = le_prop x.one_finish y.one_finish i;
  last = Π_prop (λ front. Π_prop (λ back. Π_prop (λ e. Π_prop (λ is. Π_prop (λ end. Coded-set (coded_list event_code) back []))))) x.last y.last i;
}

pub lawful_once : (events : List Event) → IsProp (IsLawful events)
lawful_once events = Π_prop (λ u. run_once (filter (is_of u) events))
