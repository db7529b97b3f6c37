-- What a message asks for: the checks in their order, and the request if none of them fails.
use Rattle.std.specs.Prelude.{◌≡◌, ℕ, ◌⊎◌, Bool, true, false, not, List, [], ◌∷◌, codes, bytes_eq, Option, Some, None, Result, Ok, Err}
use Rattle.std.specs.List.{list_any}
use Rattle.up_message.specs.Fields.{Field}
use Rattle.up_message.specs.declared.message.Message.{Message}
use Rattle.up_headers.specs.declared.request.Request.{Request}
use Rattle.up_headers.specs.declared.request.Request.TheVariants as request
use Rattle.up_headers.specs.declared.header_fault.HeaderFault.{HeaderFault}
use Rattle.up_headers.specs.declared.header_fault.HeaderFault.TheVariants as fault
use Rattle.up_headers.specs.declared.verb.Verb.{Verb}
use Rattle.up_headers.specs.declared.verb.Verb.TheVariants as method
use Rattle.up_headers.specs.declared.place.Place.{Place}
use Rattle.up_headers.specs.declared.place.Place.TheVariants as place
use Rattle.up_headers.specs.Rows.{Row, first_that_holds, Then}
use Rattle.up_headers.specs.Verbs.{chosen_verb}
use Rattle.up_headers.specs.Places.{IsAt, is_creation, is_upload, is_nowhere}
use Rattle.up_headers.specs.Fields.{is_repeated, value_in}
use Rattle.up_headers.specs.Creations.{IsAtMost, Creates}
use Rattle.up_headers.specs.Patches.{patch_of}

-- whether another version was sent than 1.0.0, or none although it must be
abbrev pub is_wrong : Bool → Option (List ℕ) → Bool
is_wrong must None = must
is_wrong must (Some version) = not (bytes_eq version (codes "1.0.0"))

-- the checks of the version, which must be there, or may be
abbrev pub version_rows : Bool → List Field → List (Row HeaderFault)
version_rows must fields =
    (is_repeated (codes "tus-resumable") fields, fault.Repeated)
    ∷ (is_wrong must (value_in (codes "tus-resumable") fields), fault.Version)
    ∷ []

-- the checks of the version, by the method
abbrev pub method_rows : Verb → List Field → List (Row HeaderFault)
method_rows method.Post fields = version_rows true fields
method_rows method.Patch fields = version_rows true fields
method_rows method.Delete fields = version_rows true fields
method_rows method.Head fields = version_rows false fields
method_rows verb fields = []

-- the checks before the target
abbrev pub early_rows : List ℕ → List Field → List (Row HeaderFault)
early_rows name fields =
    (is_repeated (codes "x-http-method-override") fields, fault.Repeated)
    ∷ method_rows (chosen_verb name fields) fields

-- whether the place supports the method
abbrev pub is_served : Verb → Place → Bool
is_served method.Post at = is_creation at
is_served method.Head at = is_upload at
is_served method.Patch at = is_upload at
is_served method.Delete at = is_upload at
is_served method.Get at = is_upload at
is_served verb at = false

-- the fields that a request with this method reads, and that may be there only once
abbrev pub single_fields : Verb → List (List ℕ)
single_fields method.Post = codes "upload-length" ∷ codes "upload-defer-length" ∷ codes "upload-metadata" ∷ codes "upload-concat" ∷ []
single_fields method.Patch = codes "content-type" ∷ codes "upload-offset" ∷ codes "upload-length" ∷ []
single_fields verb = []

-- whether one of them is repeated
abbrev pub repeats : Verb → List Field → Bool
repeats verb fields = list_any (λ name. is_repeated name fields) (single_fields verb)

-- the checks at the place that the target refers to
abbrev pub place_rows : Verb → Place → List Field → List (Row HeaderFault)
place_rows verb at fields =
    (is_nowhere at, fault.NoSuchPath)
    ∷ (not (is_served verb at), fault.Method (is_upload at))
    ∷ (repeats verb fields, fault.Repeated)
    ∷ []

-- the request, if no check before has failed
abbrev pub Asks : Verb → Place → List Field → List ℕ → ℕ → Result Request HeaderFault → Type 0
Asks method.Post place.Creation fields body max_size result = Creates fields max_size result
Asks method.Head (place.Upload id) fields body max_size result = result ≡ Ok (request.Head id)
Asks method.Patch (place.Upload id) fields body max_size result = result ≡ Ok (request.Patch (patch_of id fields body))
Asks method.Delete (place.Upload id) fields body max_size result = result ≡ Ok (request.Delete id)
Asks method.Get (place.Upload id) fields body max_size result = result ≡ Ok (request.Get id)
Asks verb at fields body max_size result = ⊥

-- the result of the checks of a message whose target refers to this place
abbrev pub IsAnswerAt : Verb → Place → List Field → List ℕ → ℕ → Result Request HeaderFault → Type 0
IsAnswerAt verb at fields body max_size result =
    Then (first_that_holds (place_rows verb at fields)) result (Asks verb at fields body max_size result)

-- the result of the checks from the target on; or memory ran out
abbrev pub IsRouted : Verb → Message → ℕ → Result Request HeaderFault → Type 0
IsRouted verb m max_size result =
    (result ≡ Err fault.NoMemory)
    ⊎ ((at : Place) × IsAt m.target at × IsAnswerAt verb at m.fields m.body max_size result)

-- the result if no check before the target has failed; the target of OPTIONS is ignored
abbrev pub Routes : Verb → Message → ℕ → Result Request HeaderFault → Type 0
Routes method.Options m max_size result = result ≡ Ok request.Options
Routes verb m max_size result = IsRouted verb m max_size result

-- the result of the checks of a message
abbrev pub IsRequestOf : Message → ℕ → Result Request HeaderFault → Type 0
IsRequestOf m max_size result =
    Then (first_that_holds (early_rows m.method m.fields)) result (Routes (chosen_verb m.method m.fields) m max_size result)

-- an upload to be created is at most this long, if its length is known
abbrev pub FitsWithin : ℕ → Request → Type 0
FitsWithin max_size request.Options = Unit {0}
FitsWithin max_size (request.Create new) = IsAtMost max_size new.length
FitsWithin max_size (request.Head id) = Unit {0}
FitsWithin max_size (request.Patch patch) = Unit {0}
FitsWithin max_size (request.Delete id) = Unit {0}
FitsWithin max_size (request.Get id) = Unit {0}
