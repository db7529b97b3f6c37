-- What a target refers to.
use Rattle.std.specs.Prelude.{◌≡◌, ◌≢◌, ℕ, ◌⊎◌, Bool, true, false, List, ◌++◌, codes}
use Rattle.http_uri.specs.Uri.{Spells, SpellsNone, uri_path}
use Rattle.http_uri.specs.declared.uri.Uri.{Uri}
use Rattle.up_events.specs.IdText.{text_of}
use Rattle.up_headers.specs.declared.place.Place.{Place}
use Rattle.up_headers.specs.declared.place.Place.TheVariants.{Creation, Upload, Nowhere}

-- the place that a path refers to
abbrev pub IsPlace : List ℕ → Place → Type 0
IsPlace path Creation = (path ≡ codes "/files") ⊎ (path ≡ codes "/files/")
IsPlace path (Upload id) = path ≡ codes "/files/" ++ text_of id
IsPlace path Nowhere = (path ≢ codes "/files") × (path ≢ codes "/files/") × ((id : ℕ) → path ≢ codes "/files/" ++ text_of id)

-- the place that a target refers to: that of its path; a target that is no URI refers to nothing
abbrev pub IsAt : List ℕ → Place → Type 0
IsAt target at = ((uri : Uri) × Spells target uri × IsPlace (uri_path uri) at) ⊎ ((at ≡ Nowhere) × SpellsNone target)

-- whether the place is the creation URL
abbrev pub is_creation : Place → Bool
is_creation Creation = true
is_creation (Upload id) = false
is_creation Nowhere = false

-- whether the place is an upload
abbrev pub is_upload : Place → Bool
is_upload Creation = false
is_upload (Upload id) = true
is_upload Nowhere = false

-- whether the place is neither
abbrev pub is_nowhere : Place → Bool
is_nowhere Creation = false
is_nowhere (Upload id) = false
is_nowhere Nowhere = true
