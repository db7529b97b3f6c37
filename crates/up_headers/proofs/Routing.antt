-- What is known of an answer, carried from one check to the table.
use Rattle.std.proofs.Common.{◌≡◌, ◌≢◌, ℕ, refl, subst, Option, Some, None, Result}
use Rattle.up_message.specs.declared.message.Message.{Message}
use Rattle.up_headers.specs.declared.request.Request.{Request}
use Rattle.up_headers.specs.declared.header_fault.HeaderFault.{HeaderFault}
use Rattle.up_headers.specs.declared.verb.Verb.{Verb}
use Rattle.up_headers.specs.declared.verb.Verb.TheVariants as method
use Rattle.up_headers.specs.Rows.{first_that_holds, Then}
use Rattle.up_headers.specs.Verbs.{chosen_verb}
use Rattle.up_headers.specs.Table.{IsRouted, Routes, IsRequestOf, early_rows}

-- behind checks of which none fails
pub passed : {X : Type 0} (first : Option HeaderFault) (result : Result X HeaderFault) (more : Type 0) → first ≡ None → more → Then first result more
passed None result more none holds = holds
passed (Some found) result more none holds = absurd (cc)

-- a message whose target is looked at
pub routed : (verb : Verb) (m : Message) (max_size : ℕ) (result : Result Request HeaderFault) → verb ≢ method.Options → IsRouted verb m max_size result → Routes verb m max_size result
routed method.Options m max_size result other is = absurd (other refl)
routed method.Post m max_size result other is = is
routed method.Head m max_size result other is = is
routed method.Patch m max_size result other is = is
routed method.Delete m max_size result other is = is
routed method.Get m max_size result other is = is
routed method.Other m max_size result other is = is

-- and no check of which has failed before that
pub chosen : (m : Message) (max_size : ℕ) (verb : Verb) (result : Result Request HeaderFault)
    → first_that_holds (early_rows m.method m.fields) ≡ None → verb ≡ chosen_verb m.method m.fields → verb ≢ method.Options
    → IsRouted verb m max_size result → IsRequestOf m max_size result
chosen m max_size verb result none is other holds =
    passed _ result _ none (subst (λ v. Routes v m max_size result) is (routed verb m max_size result other holds))
