use Rattle.std.proofs.Common.{◌≡◌, ◌<◌, ◌≤◌, Some, length, slice_get, refl, sym, subst, arith}
use Rattle.std.proofs.lemmas.Option.{slice_get_read}
use Rattle.up_events.specs.Records.{Records, first_of, lane_log}
use Rattle.up_events.specs.contracts.journal.Journal.{the_view}
use Rattle.up_events.proofs.JournalLemmas.{first_at, kept_later, records_later, tail_length}
use Rattle.up_events.proofs.journal.Journal.forget.Goals as goal

pub forget-requires-clause-within : goal.forget-requires-clause-within
forget-requires-clause-within c =
    let a = c.self.inside in
    let within : c.args.k < length a.logs.items = let v = c.in-Some.ensures.variant.0 refl in omega (arith, a.logs.ok) in
    let was : slice_get a.logs.items c.args.k ≡ Some c.in-Some.log.now = slice_get_read a.logs.items _ c.args.k _ refl within c.in-Some.ensures.value in
    let t = c.self.invariant.logs c.args.k c.in-Some.log.now was in
    let there : c.in-Some.log.now.first ≤ c.args.place =
    subst (λ i. i ≤ c.args.place) (first_at a.logs.items c.args.k c.in-Some.log.now was) (subst (λ (r : Records). first_of r c.args.k ≤ c.args.place) (sym c.self.view_is) c.requires.there) in
    let inside : c.args.place ≤ length (lane_log (the_view a) c.args.k) = subst (λ (r : Records). c.args.place ≤ length (lane_log r c.args.k)) (sym c.self.view_is) c.requires.within in
    omega (arith, tail_length (lane_log (the_view a) c.args.k) c.in-Some.log.now t)

pub invariant_of-self-2 : goal.invariant_of-self-2
invariant_of-self-2 c =
    let a = c.self.inside in
    let within : c.args.k < length a.logs.items = let v = c.in-Some.ensures.variant.0 refl in omega (arith, a.logs.ok) in
    let was : slice_get a.logs.items c.args.k ≡ Some c.in-Some.log.now = slice_get_read a.logs.items _ c.args.k _ refl within c.in-Some.ensures.value in
    let t = c.self.invariant.logs c.args.k c.in-Some.log.now was in
    let there : c.in-Some.log.now.first ≤ c.args.place =
    subst (λ i. i ≤ c.args.place) (first_at a.logs.items c.args.k c.in-Some.log.now was) (subst (λ (r : Records). first_of r c.args.k ≤ c.args.place) (sym c.self.view_is) c.requires.there) in
    let inside : c.args.place ≤ length (lane_log (the_view a) c.args.k) = subst (λ (r : Records). c.args.place ≤ length (lane_log r c.args.k)) (sym c.self.view_is) c.requires.within in
    kept_later a c.args.k c.in-Some.log.now c.forget.new.self c.args.place c.self.invariant was there inside c.forget.ensures.first c.forget.ensures.events

pub returns : goal.returns
returns c = records_later c.self.inside c.args.self.now c.args.k c.forget.new.self c.args.place c.self.view_is c.forget.ensures.first
