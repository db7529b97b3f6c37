-- What is collected from the entries of a log, before it is known which of them can be left out.
use Rattle.std.specs.Prelude.{◌≡◌, ℕ, Bool, true, false, List, [], ◌∷◌, ◌++◌, if◌then◌else◌}
use Rattle.std.specs.BTreeSet as set
use Rattle.std.specs.BTreeSet.{BTreeSet}
use Rattle.std.specs.List.{list_any}
use Rattle.std.specs.Ordering.{nat_cmp}
use Rattle.up_events.specs.History.{is_final_kind}
use Rattle.up_headers.specs.declared.request.Request.{Request}
use Rattle.up_headers.specs.declared.request.Request.TheVariants as request
use Rattle.up_log.specs.declared.entry.Entry.{Entry}
use Rattle.up_compact.specs.declared.joining.Joining.{Joining}

-- whether the set has this id
abbrev pub has_id : BTreeSet ℕ → ℕ → Bool
has_id ids u = set.contains nat_cmp ids u

-- each id of the first set is also in the second
abbrev pub IsSubset : BTreeSet ℕ → BTreeSet ℕ → Type 0
IsSubset ids others = (u : ℕ) → has_id ids u ≡ true → has_id others u ≡ true

-- the upload that a request asks to create
abbrev pub makes_of : Request → ℕ → List ℕ
makes_of request.Options id = []
makes_of (request.Create new) id = id ∷ []
makes_of (request.Head u) id = []
makes_of (request.Patch p) id = []
makes_of (request.Delete u) id = []
makes_of (request.Get u) id = []

-- the final upload that a request asks to create, with its parts
abbrev pub joinings_of : Request → ℕ → List Joining
joinings_of request.Options id = []
joinings_of (request.Create new) id = if is_final_kind new.kind then record { id = id; parts = new.parts } ∷ [] else []
joinings_of (request.Head u) id = []
joinings_of (request.Patch p) id = []
joinings_of (request.Delete u) id = []
joinings_of (request.Get u) id = []

-- the uploads that entries ask to create, and the final ones among them
pub record Seen : Type 0 where
  pub uploads : List ℕ
  pub joinings : List Joining

abbrev pub nothing_seen : Seen
nothing_seen = record { uploads = []; joinings = [] }

-- with one more entry
abbrev pub saw : Seen → Entry → Seen
saw seen entry = record {
  uploads = seen.uploads ++ makes_of entry.request entry.id;
  joinings = seen.joinings ++ joinings_of entry.request entry.id;
}

-- with more entries, in order
abbrev pub saw_all : Seen → List Entry → Seen
saw_all seen [] = seen
saw_all seen (entry ∷ entries) = saw_all (saw seen entry) entries

-- a final upload that stays has no part that is left out
abbrev pub JoinsOnly : (ℕ → Bool) → Joining → Type 0
JoinsOnly among joining = among joining.id ≡ false → list_any among joining.parts ≡ false
