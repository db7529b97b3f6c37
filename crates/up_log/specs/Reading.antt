-- Reading from left to right.
use Rattle.std.specs.Prelude.{◌≡◌, ℕ, zero, suc, ◌+◌, ◌*◌, ◌^◌, Bool, true, false, List, [], ◌∷◌, length, take, drop, Option, Some, None, Result, Ok, Err, nat_lt, ◌==◌, if◌then◌else◌}
use Rattle.up_events.specs.declared.event.Kind.{Kind}
use Rattle.up_events.specs.declared.event.Kind.TheVariants.{Plain, Partial, Final}
use Rattle.up_headers.specs.declared.request.NewUpload.{NewUpload}
use Rattle.up_headers.specs.declared.request.NotDigits.{NotDigits}
use Rattle.up_headers.specs.declared.request.Patch.{Patch}
use Rattle.up_headers.specs.declared.request.Request.{Request}
use Rattle.up_headers.specs.declared.request.Request.TheVariants as request
use Rattle.up_log.specs.declared.entry.Consent.{Consent}
use Rattle.up_log.specs.declared.entry.Consent.TheVariants.{Skipped, Allowed, AllowedFinish}
use Rattle.up_log.specs.declared.entry.Entry.{Entry}
use Rattle.up_log.specs.declared.fault.Unread.{Unread}
use Rattle.up_log.specs.declared.fault.Unread.TheVariants as unread
use Rattle.up_places.specs.Places.{Content}
use Rattle.up_places.specs.declared.position.Position.{Position}

-- a value and the bytes after it, or none if the bytes do not begin with such a value
abbrev pub Read : Type 0 → Type 0
Read X = Option (X × List ℕ)

infixl 10 ◌>>=◌
abbrev pub ◌>>=◌ : {A B : Type 0} → Option A → (A → Option B) → Option B
(Some x) >>= f = f x
None >>= f = None

-- the result of a function, seen through `view`, is what reading yields, unless memory ran out or bytes of data files
-- are not there
abbrev pub Fails : {Y : Type 0} → Unread → Option Y → Type 0
Fails unread.Memory read = Unit {0}
Fails unread.Damaged read = read ≡ None
Fails (unread.NotThere start) read = Unit {0}

abbrev pub ReadsAs : {X Y : Type 0} → (X → Y) → Result X Unread → Option Y → Type 0
ReadsAs view (Ok x) read = read ≡ Some (view x)
ReadsAs view (Err e) read = Fails e read

unfoldable pub word_at : List ℕ → Read ℕ
word_at (a ∷ b ∷ c ∷ d ∷ e ∷ f ∷ g ∷ h ∷ rest) =
    Some (a + 256 * (b + 256 * (c + 256 * (d + 256 * (e + 256 * (f + 256 * (g + 256 * h)))))), rest)
word_at rest = None

unfoldable pub id_at : List ℕ → Read ℕ
id_at bytes = do
  low ← word_at bytes
  high ← word_at low.1
  Some (low.0 + 2 ^ 64 * high.0, high.1)

unfoldable pub text_at : List ℕ → Read (List ℕ)
text_at bytes = do
  n ← word_at bytes
  if nat_lt (length n.1) n.0 then None else Some (take n.0 n.1, drop n.0 n.1)

unfoldable pub maybe_at : {X : Type 0} → (List ℕ → Read X) → List ℕ → Read (Option X)
maybe_at field [] = None
maybe_at field (zero ∷ rest) = Some (None, rest)
maybe_at field (suc zero ∷ rest) = do
  x ← field rest
  Some (Some x.0, x.1)
maybe_at field (suc (suc b) ∷ rest) = None

unfoldable pub so_many_at : {X : Type 0} → (List ℕ → Read X) → ℕ → List ℕ → Read (List X)
so_many_at field zero bytes = Some ([], bytes)
so_many_at field (suc n) bytes = do
  first ← field bytes
  others ← so_many_at field n first.1
  Some (first.0 ∷ others.0, others.1)

unfoldable pub many_at : {X : Type 0} → (List ℕ → Read X) → List ℕ → Read (List X)
many_at field bytes = do
  n ← word_at bytes
  so_many_at field n.0 n.1

unfoldable pub flag_at : List ℕ → Read Bool
flag_at [] = None
flag_at (zero ∷ rest) = Some (false, rest)
flag_at (suc zero ∷ rest) = Some (true, rest)
flag_at (suc (suc b) ∷ rest) = None

unfoldable pub kind_at : List ℕ → Read Kind
kind_at [] = None
kind_at (zero ∷ rest) = Some (Plain, rest)
kind_at (suc zero ∷ rest) = Some (Partial, rest)
kind_at (suc (suc zero) ∷ rest) = Some (Final, rest)
kind_at (suc (suc (suc b)) ∷ rest) = None

unfoldable pub consent_at : List ℕ → Read Consent
consent_at [] = None
consent_at (zero ∷ rest) = Some (Skipped, rest)
consent_at (suc zero ∷ rest) = Some (Allowed, rest)
consent_at (suc (suc zero) ∷ rest) = Some (AllowedFinish, rest)
consent_at (suc (suc (suc b)) ∷ rest) = None

unfoldable pub declared_at : List ℕ → Read (Option (Result ℕ NotDigits))
declared_at [] = None
declared_at (zero ∷ rest) = Some (None, rest)
declared_at (suc zero ∷ rest) = do
  n ← word_at rest
  Some (Some (Ok n.0), n.1)
declared_at (suc (suc zero) ∷ rest) = Some (Some (Err (record {})), rest)
declared_at (suc (suc (suc b)) ∷ rest) = None

unfoldable pub pair_at : List ℕ → Read (List ℕ × List ℕ)
pair_at bytes = do
  key ← text_at bytes
  value ← text_at key.1
  Some ((key.0, value.0), value.1)

unfoldable pub new_upload_at : List ℕ → Read NewUpload
new_upload_at bytes = do
  kind ← kind_at bytes
  length ← maybe_at word_at kind.1
  parts ← many_at id_at length.1
  pairs ← many_at pair_at parts.1
  metadata ← maybe_at text_at pairs.1
  concat ← maybe_at text_at metadata.1
  Some (record { kind = kind.0; length = length.0; parts = parts.0; pairs = pairs.0; metadata = metadata.0; concat = concat.0 }, concat.1)

unfoldable pub position_at : List ℕ → Read Position
position_at bytes = do
  file ← word_at bytes
  at ← word_at file.1
  Some (record { file = file.0; at = at.0 }, at.1)

-- bytes, or where they begin in data files that have this content, and what these have there
unfoldable pub placed_at : Content → Bool → List ℕ → Read (Option Position × List ℕ)
placed_at content false bytes = do
  body ← text_at bytes
  Some ((None, body.0), body.1)
placed_at content true bytes = do
  start ← position_at bytes
  count ← word_at start.1
  Some ((Some start.0, content start.0.file start.0.at count.0), count.1)

unfoldable pub patch_at : Content → Bool → List ℕ → Read (Option Position × Patch)
patch_at content is_placed bytes = do
  id ← id_at bytes
  media ← flag_at id.1
  offset ← maybe_at word_at media.1
  length ← declared_at offset.1
  body ← placed_at content is_placed length.1
  Some ((body.0.0, record { id = id.0; media = media.0; offset = offset.0; length = length.0; bytes = body.0.1 }), body.1)

unfoldable pub asked_for_at : Content → List ℕ → Read (Option Position × Request)
asked_for_at content [] = None
asked_for_at content (zero ∷ rest) = Some ((None, request.Options), rest)
asked_for_at content (suc zero ∷ rest) = do
  new ← new_upload_at rest
  Some ((None, request.Create new.0), new.1)
asked_for_at content (suc (suc zero) ∷ rest) = do
  u ← id_at rest
  Some ((None, request.Head u.0), u.1)
asked_for_at content (suc (suc (suc zero)) ∷ rest) = do
  p ← patch_at content false rest
  Some ((p.0.0, request.Patch p.0.1), p.1)
asked_for_at content (suc (suc (suc (suc zero))) ∷ rest) = do
  u ← id_at rest
  Some ((None, request.Delete u.0), u.1)
asked_for_at content (suc (suc (suc (suc (suc zero)))) ∷ rest) = do
  u ← id_at rest
  Some ((None, request.Get u.0), u.1)
asked_for_at content (suc (suc (suc (suc (suc (suc zero))))) ∷ rest) = do
  p ← patch_at content true rest
  Some ((p.0.0, request.Patch p.0.1), p.1)
asked_for_at content (suc (suc (suc (suc (suc (suc (suc b)))))) ∷ rest) = None

unfoldable pub entry_at : Content → List ℕ → Read Entry
entry_at content bytes = do
  id ← id_at bytes
  consent ← consent_at id.1
  asked ← asked_for_at content consent.1
  Some (record { id = id.0; consent = consent.0; place = asked.0.0; request = asked.0.1 }, asked.1)

unfoldable pub batch_at : Content → List ℕ → Read (List Entry)
batch_at content bytes = many_at (entry_at content) bytes

-- a batch with no bytes after it
unfoldable pub whole_at : Content → List ℕ → Option (List Entry)
whole_at content bytes = do
  entries ← batch_at content bytes
  if length entries.1 == 0 then Some entries.0 else None
