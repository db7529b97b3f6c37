-- What a survey tells of the entries that were seen.
use Rattle.std.proofs.Common.{◌≡◌, ℕ, Bool, true, false, cond, ◌&&◌, not, List, [], ◌∷◌, ◌++◌, refl, sym, ap, ◌∙◌, subst}
use Rattle.std.specs.List.{All, list_any}
use Rattle.std.proofs.lemmas.Bool.{false≢true}
use Rattle.std.proofs.lemmas.List.Elements.{All-nil, All-cons, All-head, All-tail}
use Rattle.up_events.specs.History.{is_final_kind}
use Rattle.up_headers.specs.declared.request.Request.{Request}
use Rattle.up_headers.specs.declared.request.Request.TheVariants as request
use Rattle.up_log.specs.declared.entry.Entry.{Entry}
use Rattle.up_compact.specs.Shorter.{JoinsKept, is_about, joined_uploads}
use Rattle.up_compact.specs.Surveys.{JoinsOnly, Seen, joinings_of, saw, saw_all}
use Rattle.up_compact.specs.declared.joining.Joining.{Joining}

all_left : (P : Joining → Type 0) (xs ys : List Joining) → All P (xs ++ ys) → All P xs
all_left P [] ys all = All-nil P
all_left P (x ∷ xs) ys all = All-cons P x xs (All-head P x (xs ++ ys) all) (all_left P xs ys (All-tail P x (xs ++ ys) all))

all_right : (P : Joining → Type 0) (xs ys : List Joining) → All P (xs ++ ys) → All P ys
all_right P [] ys all = all
all_right P (x ∷ xs) ys all = all_right P xs ys (All-tail P x (xs ++ ys) all)

-- a final upload that joins only what stays is made by an entry that does
joins_kept : (among : ℕ → Bool) (r : Request) (id : ℕ) → All (JoinsOnly among) (joinings_of r id) → is_about among r id ≡ false → list_any among (joined_uploads r) ≡ false
joins_kept among request.Options id all other = refl
joins_kept among (request.Create new) id all other =
    let joining : Joining = record { id = id; parts = new.parts } in
    elim (is_final_kind new.kind) as (λ b. All (JoinsOnly among) (cond b (joining ∷ []) []) → list_any among (cond b new.parts []) ≡ false) [
      | true ↦ λ all. All-head (JoinsOnly among) joining [] all other
      | false ↦ λ all. refl
    ] all
joins_kept among (request.Head u) id all other = refl
joins_kept among (request.Patch p) id all other = refl
joins_kept among (request.Delete u) id all other = refl
joins_kept among (request.Get u) id all other = refl

kept_by : (among : ℕ → Bool) (seen : Seen) (entries : List Entry) → All (JoinsOnly among) (saw_all seen entries).joinings → All (JoinsOnly among) seen.joinings × All (JoinsKept among) entries
kept_by among seen [] all = (all, All-nil (JoinsKept among))
kept_by among seen (entry ∷ entries) all =
    let rest = kept_by among (saw seen entry) entries all in
    let own = joinings_of entry.request entry.id in (
      all_left (JoinsOnly among) seen.joinings own rest.0,
      All-cons (JoinsKept among) entry entries
          (λ other. joins_kept among entry.request entry.id (all_right (JoinsOnly among) seen.joinings own rest.0) other)
          rest.1,
    )

pub entries_kept : (among : ℕ → Bool) (seen start : Seen) (entries : List Entry) → seen ≡ saw_all start entries → All (JoinsOnly among) seen.joinings → All (JoinsKept among) entries
entries_kept among seen start entries is all = (kept_by among start entries (subst (λ (s : Seen). All (JoinsOnly among) s.joinings) is all)).1

-- what the test says of a final upload
pub only_from_test : (among : ℕ → Bool) (joining : Joining) → (not (among joining.id) && list_any among joining.parts) ≡ false → JoinsOnly among joining
only_from_test among joining test = λ other. sym (ap (λ b. not b && list_any among joining.parts) other) ∙ test

-- of no uploads none is a part
none_among : (among : ℕ → Bool) → ((u : ℕ) → among u ≡ false) → (parts : List ℕ) → list_any among parts ≡ false
none_among among none [] = refl
none_among among none (part ∷ parts) = cc (none part, none_among among none parts)

pub nothing_left_out : (among : ℕ → Bool) → ((u : ℕ) → among u ≡ false) → (joinings : List Joining) → All (JoinsOnly among) joinings
nothing_left_out among none [] = All-nil (JoinsOnly among)
nothing_left_out among none (joining ∷ joinings) =
    All-cons (JoinsOnly among) joining joinings (λ other. none_among among none joining.parts) (nothing_left_out among none joinings)

pub cond_true : (b x : Bool) → cond b false x ≡ true → x ≡ true
cond_true true x e = absurd (false≢true e)
cond_true false x e = e
