-- What an upload was created with, as it is told with its events.
use Rattle.std.specs.Prelude.{◌≡◌, ◌≢◌, ℕ, Bool, true, false, List, Option, Some, option_map}
use Rattle.std.specs.FinMap as map
use Rattle.up_events.specs.History.{is_known}
use Rattle.up_events.specs.declared.event.Accepted.{Accepted}
use Rattle.up_events.specs.declared.event.Kind.{Kind}
use Rattle.up_headers.specs.declared.request.Request.{Request}
use Rattle.up_headers.specs.declared.request.Request.TheVariants as request
use Rattle.up_headers.specs.declared.request.NewUpload.{NewUpload}
use Rattle.up_machine.specs.Content.{Content, made_of}
use Rattle.up_machine.specs.State.{Contents, next}

pub record Details : Type 0 where
  pub id : ℕ
  pub kind : Kind
  pub pairs : List (List ℕ × List ℕ)
  pub concat : Option (List ℕ)

-- its parts
abbrev pub details_id : Details → ℕ
details_id details = details.id

abbrev pub details_kind : Details → Kind
details_kind details = details.kind

abbrev pub details_pairs : Details → List (List ℕ × List ℕ)
details_pairs details = details.pairs

abbrev pub details_concat : Details → Option (List ℕ)
details_concat details = details.concat

-- what the upload with this id was created with
abbrev pub details_of : ℕ → Content → Details
details_of id x = record { id = id; kind = x.kind; pairs = x.pairs; concat = x.concat }

-- the same, if there is such an upload
abbrev pub details_in : Contents → ℕ → Option Details
details_in content id = option_map (details_of id) (map.get content id)

-- these are of an upload that was created, and what that was created with, if it is still there
abbrev pub IsOfUpload : Contents → List Accepted → Details → Type 0
IsOfUpload content changes details =
    (is_known changes details.id ≡ true)
    × ((x : Content) → map.get content details.id ≡ Some x → details ≡ details_of details.id x)

-- ---- laws

-- what a new upload was created with is what its creation says
abbrev pub DetailsAreOfCreation : Type 0
DetailsAreOfCreation =
    (id : ℕ) (new : NewUpload) (bytes : List ℕ)
    → details_of id (made_of new bytes) ≡ record { id = id; kind = new.kind; pairs = new.pairs; concat = new.concat }

-- whether the request creates an upload
abbrev pub is_creation : Request → Bool
is_creation request.Options = false
is_creation (request.Create new) = true
is_creation (request.Head u) = false
is_creation (request.Patch p) = false
is_creation (request.Delete u) = false
is_creation (request.Get u) = false

-- it stays whatever request is carried out, as long as the upload is there. An id that is known is not given again
abbrev pub DetailsStay : Type 0
DetailsStay =
    (content : Contents) (request : Request) (id u : ℕ) (x y : Content)
    → (is_creation request ≡ true → u ≢ id)
    → map.get content u ≡ Some x
    → map.get (next content request id) u ≡ Some y
    → details_of u y ≡ details_of u x
