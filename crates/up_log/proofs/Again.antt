-- What was spelled is read again, whatever follows it.
use Rattle.std.proofs.Common.{◌≡◌, ℕ, suc, ◌+◌, ◌*◌, ◌%◌, ◌/◌, ◌^◌, true, false, ltb, List, [], ◌∷◌, ◌++◌, length, map, Bool, Option, Some, None, Ok, Err, refl, ap, ◌∙◌, append_assoc, arith}
use Rattle.std.specs.List.{flat_map}
use Rattle.std.proofs.lemmas.Bool.{le-ltb}
use Rattle.std.proofs.lemmas.List.{take_at, drop_at, length-append}
use Rattle.std.proofs.lemmas.List.Concat.{flat_map-cons}
use Rattle.up_events.specs.declared.event.Kind.TheVariants.{Plain, Partial, Final}
use Rattle.up_headers.specs.declared.request.Patch.{Patch}
use Rattle.up_headers.specs.declared.request.Request.{Request}
use Rattle.up_headers.specs.declared.request.Request.TheVariants as request
use Rattle.up_log.specs.declared.entry.Consent.TheVariants.{Skipped, Allowed, AllowedFinish}
use Rattle.up_log.specs.Held.{batch_back, bytes_back, entry_back, place_back, request_back}
use Rattle.up_log.specs.Spelling as spell
use Rattle.up_log.specs.Spelling.{word}
use Rattle.up_log.specs.Reading.{Read, word_at, id_at, text_at, maybe_at, many_at, so_many_at, flag_at, kind_at, consent_at, declared_at, pair_at, new_upload_at, position_at, placed_at, patch_at, asked_for_at, entry_at, batch_at}
use Rattle.up_places.specs.Places.{Content}
use Rattle.up_places.specs.declared.position.Position.{Position}

-- what was spelled is read again
abbrev pub IsReadAgain : {X : Type 0} → (X → List ℕ) → (List ℕ → Read X) → Type 0
IsReadAgain {X} put read = (x : X) (rest : List ℕ) → read (put x ++ rest) ≡ Some (x, rest)

-- what was spelled is read as this
abbrev pub IsReadAs : {X Y : Type 0} → (X → Y) → (X → List ℕ) → (List ℕ → Read Y) → Type 0
IsReadAs {X} {Y} view put read = (x : X) (rest : List ℕ) → read (put x ++ rest) ≡ Some (view x, rest)

regroup2 : (a b r : List ℕ) → (a ++ b) ++ r ≡ a ++ (b ++ r)
regroup2 a b r = append_assoc a b r

regroup3 : (a b c r : List ℕ) → (a ++ b ++ c) ++ r ≡ a ++ (b ++ (c ++ r))
regroup3 a b c r = simp append_assoc

regroup5 : (a b c d e r : List ℕ) → (a ++ b ++ c ++ d ++ e) ++ r ≡ a ++ (b ++ (c ++ (d ++ (e ++ r))))
regroup5 a b c d e r = simp append_assoc

regroup6 : (a b c d e f r : List ℕ) → (a ++ b ++ c ++ d ++ e ++ f) ++ r ≡ a ++ (b ++ (c ++ (d ++ (e ++ (f ++ r)))))
regroup6 a b c d e f r = simp append_assoc

joined : (n a b c d e f g : ℕ) → a ≡ n / 256 → b ≡ a / 256 → c ≡ b / 256 → d ≡ c / 256 → e ≡ d / 256 → f ≡ e / 256 → g ≡ f / 256
    → n % 256 + 256 * (a % 256 + 256 * (b % 256 + 256 * (c % 256 + 256 * (d % 256 + 256 * (e % 256 + 256 * (f % 256 + 256 * g)))))) ≡ n
joined n a b c d e f g ea eb ec ed ee ef eg = omega arith

pub word_again : IsReadAgain word word_at
unfolding word word_at
word_again n rest = ap (λ (k : ℕ). Some (k, rest)) (joined n _ _ _ _ _ _ _ refl refl refl refl refl refl refl)

pub id_again : IsReadAgain spell.id id_at
unfolding id_at
id_again n rest =
    let low = n % 2 ^ 64 in
    let high = n / 2 ^ 64 in
    let both : low + 2 ^ 64 * high ≡ n = omega arith in
    ap id_at (regroup2 (word low) (word high) rest) ∙ rw (word_again low (word high ++ rest), word_again high rest) (ap (λ (k : ℕ). Some (k, rest)) both)

pub text_again : IsReadAgain spell.text text_at
unfolding text_at
text_again bytes rest =
    let long : ltb (length (bytes ++ rest)) (length bytes) ≡ false = le-ltb _ _ (omega (arith, length-append bytes rest)) in
    ap text_at (regroup2 (word (length bytes)) bytes rest) ∙ rw (word_again (length bytes) (bytes ++ rest), long, take_at bytes rest (length bytes) refl, drop_at bytes rest (length bytes) refl) refl

pub maybe_again : {X : Type 0} (put : X → List ℕ) (read : List ℕ → Read X) → IsReadAgain put read → IsReadAgain (spell.maybe put) (maybe_at read)
unfolding maybe_at
maybe_again put read again None rest = refl
maybe_again put read again (Some x) rest = rw (again x rest) refl

so_many_again : {X : Type 0} (put : X → List ℕ) (read : List ℕ → Read X) → IsReadAgain put read → (xs : List X) (rest : List ℕ) → so_many_at read (length xs) (flat_map put xs ++ rest) ≡ Some (xs, rest)
unfolding so_many_at
so_many_again put read again [] rest = refl
so_many_again put read again (x ∷ xs) rest =
    let regrouped : flat_map put (x ∷ xs) ++ rest ≡ put x ++ (flat_map put xs ++ rest) = ap (λ (l : List ℕ). l ++ rest) (flat_map-cons put x xs) ∙ append_assoc (put x) (flat_map put xs) rest in
    ap (so_many_at read (suc (length xs))) regrouped ∙ rw (again x (flat_map put xs ++ rest), so_many_again put read again xs rest) refl

pub many_again : {X : Type 0} (put : X → List ℕ) (read : List ℕ → Read X) → IsReadAgain put read → IsReadAgain (spell.many put) (many_at read)
unfolding many_at
many_again put read again xs rest =
    ap (many_at read) (regroup2 (word (length xs)) (flat_map put xs) rest) ∙ rw (word_again (length xs) (flat_map put xs ++ rest)) (so_many_again put read again xs rest)

so_many_as : {X Y : Type 0} (view : X → Y) (put : X → List ℕ) (read : List ℕ → Read Y) → IsReadAs view put read → (xs : List X) (rest : List ℕ)
    → so_many_at read (length xs) (flat_map put xs ++ rest) ≡ Some (map view xs, rest)
unfolding so_many_at
so_many_as view put read is [] rest = refl
so_many_as view put read is (x ∷ xs) rest =
    let regrouped : flat_map put (x ∷ xs) ++ rest ≡ put x ++ (flat_map put xs ++ rest) = ap (λ (l : List ℕ). l ++ rest) (flat_map-cons put x xs) ∙ append_assoc (put x) (flat_map put xs) rest in
    ap (so_many_at read (suc (length xs))) regrouped ∙ rw (is x (flat_map put xs ++ rest), so_many_as view put read is xs rest) refl

many_as : {X Y : Type 0} (view : X → Y) (put : X → List ℕ) (read : List ℕ → Read Y) → IsReadAs view put read → IsReadAs (map view) (spell.many put) (many_at read)
unfolding many_at
many_as view put read is xs rest =
    ap (many_at read) (regroup2 (word (length xs)) (flat_map put xs) rest) ∙ rw (word_again (length xs) (flat_map put xs ++ rest)) (so_many_as view put read is xs rest)

flag_again : IsReadAgain spell.flag flag_at
unfolding flag_at
flag_again false rest = refl
flag_again true rest = refl

kind_again : IsReadAgain spell.kind kind_at
unfolding kind_at
kind_again Plain rest = refl
kind_again Partial rest = refl
kind_again Final rest = refl

consent_again : IsReadAgain spell.consent consent_at
unfolding consent_at
consent_again Skipped rest = refl
consent_again Allowed rest = refl
consent_again AllowedFinish rest = refl

declared_again : IsReadAgain spell.declared_length declared_at
unfolding declared_at
declared_again None rest = refl
declared_again (Some (Ok n)) rest = rw (word_again n rest) refl
declared_again (Some (Err fault)) rest = refl

pair_again : IsReadAgain spell.pair pair_at
unfolding pair_at
pair_again p rest =
    ap pair_at (regroup2 (spell.text p.0) (spell.text p.1) rest) ∙ rw (text_again p.0 (spell.text p.1 ++ rest), text_again p.1 rest) refl

new_upload_again : IsReadAgain spell.new_upload new_upload_at
unfolding new_upload_at
new_upload_again new rest =
    let f = spell.maybe spell.text new.concat ++ rest in
    let e = spell.maybe spell.text new.metadata ++ f in
    let d = spell.many spell.pair new.pairs ++ e in
    let c = spell.many spell.id new.parts ++ d in
    let b = spell.maybe word new.length ++ c in
    ap new_upload_at (regroup6 (spell.kind new.kind) (spell.maybe word new.length) (spell.many spell.id new.parts) (spell.many spell.pair new.pairs) (spell.maybe spell.text new.metadata) (spell.maybe spell.text new.concat) rest)
    ∙ rw (kind_again new.kind b, maybe_again word word_at word_again new.length c, many_again spell.id id_at id_again new.parts d, many_again spell.pair pair_at pair_again new.pairs e, maybe_again spell.text text_at text_again new.metadata f, maybe_again spell.text text_at text_again new.concat rest) refl

position_again : IsReadAgain spell.position position_at
unfolding position_at
position_again p rest =
    ap position_at (regroup2 (word p.file) (word p.at) rest) ∙ rw (word_again p.file (word p.at ++ rest), word_again p.at rest) refl

abbrev has_place : Option Position → Bool
has_place None = false
has_place (Some start) = true

module _ (content : Content) where
  placed_again : (place : Option Position) (bytes rest : List ℕ) → placed_at content (has_place place) (spell.placed place bytes ++ rest) ≡ Some ((place, bytes_back content place bytes), rest)
  unfolding placed_at
  placed_again None bytes rest = rw (text_again bytes rest) refl
  placed_again (Some start) bytes rest =
      ap (placed_at content true) (regroup2 (spell.position start) (word (length bytes)) rest)
      ∙ rw (position_again start (word (length bytes) ++ rest), word_again (length bytes) rest) refl

  patch_again : (place : Option Position) (p : Patch) (rest : List ℕ)
      → patch_at content (has_place place) (spell.patch place p ++ rest) ≡ Some ((place, record p { bytes = bytes_back content place p.bytes }), rest)
  unfolding patch_at
  patch_again place p rest =
      let e = spell.placed place p.bytes ++ rest in
      let d = spell.declared_length p.length ++ e in
      let c = spell.maybe word p.offset ++ d in
      let b = spell.flag p.media ++ c in
      ap (patch_at content (has_place place)) (regroup5 (spell.id p.id) (spell.flag p.media) (spell.maybe word p.offset) (spell.declared_length p.length) (spell.placed place p.bytes) rest)
      ∙ rw (id_again p.id b, flag_again p.media c, maybe_again word word_at word_again p.offset d, declared_again p.length e, placed_again place p.bytes rest) refl

  asked_for_again : (place : Option Position) (r : Request) (rest : List ℕ)
      → asked_for_at content (spell.asked_for place r ++ rest) ≡ Some ((place_back place r, request_back content place r), rest)
  unfolding asked_for_at
  asked_for_again place request.Options rest = refl
  asked_for_again place (request.Create new) rest = rw (new_upload_again new rest) refl
  asked_for_again place (request.Head u) rest = rw (id_again u rest) refl
  asked_for_again None (request.Patch p) rest = rw (patch_again None p rest) refl
  asked_for_again (Some start) (request.Patch p) rest = rw (patch_again (Some start) p rest) refl
  asked_for_again place (request.Delete u) rest = rw (id_again u rest) refl
  asked_for_again place (request.Get u) rest = rw (id_again u rest) refl

  pub entry_spelled_back : IsReadAs (entry_back content) spell.entry (entry_at content)
  unfolding entry_at
  entry_spelled_back e rest =
      let c = spell.asked_for e.place e.request ++ rest in
      let b = spell.consent e.consent ++ c in
      ap (entry_at content) (regroup3 (spell.id e.id) (spell.consent e.consent) (spell.asked_for e.place e.request) rest)
      ∙ rw (id_again e.id b, consent_again e.consent c, asked_for_again e.place e.request rest) refl

  pub batch_spelled_back : IsReadAs (batch_back content) spell.batch (batch_at content)
  unfolding batch_at
  batch_spelled_back entries rest = many_as (entry_back content) spell.entry (entry_at content) entry_spelled_back entries rest
