-- What entries that name places are when they are read again.
use Rattle.std.specs.Prelude.{◌≡◌, ℕ, List, length, map, Option, Some, None}
use Rattle.up_headers.specs.declared.request.Request.{Request}
use Rattle.up_headers.specs.declared.request.Request.TheVariants as request
use Rattle.up_log.specs.declared.entry.Entry.{Entry}
use Rattle.up_places.specs.Places.{Content}
use Rattle.up_places.specs.declared.position.Position.{Position}

-- the bytes of a PATCH: if they are at a place, as many as data files of this content have there
abbrev pub bytes_back : Content → Option Position → List ℕ → List ℕ
bytes_back content None bytes = bytes
bytes_back content (Some start) bytes = content start.file start.at (length bytes)

abbrev pub request_back : Content → Option Position → Request → Request
request_back content place (request.Patch p) = request.Patch (record p { bytes = bytes_back content place p.bytes })
request_back content place other = other

-- only a PATCH has a place
abbrev pub place_back : Option Position → Request → Option Position
place_back place (request.Patch p) = place
place_back place other = None

abbrev pub entry_back : Content → Entry → Entry
entry_back content e = record e { place = place_back e.place e.request; request = request_back content e.place e.request }

abbrev pub batch_back : Content → List Entry → List Entry
batch_back content entries = map (entry_back content) entries

-- the data files hold what the entries of these batches name
abbrev pub AreHeld : Content → List (List Entry) → Type 0
AreHeld content batches = map (batch_back content) batches ≡ batches
