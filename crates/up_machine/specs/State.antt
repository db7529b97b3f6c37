-- The model of a book, and how a request changes it.
use Rattle.std.specs.Prelude.{ℕ, Bool, false, List, [], replicate, Option, Some, None, flat_map, if◌then◌else◌}
use Rattle.std.specs.FinMap as map
use Rattle.std.specs.FinMap.{FinMap}
use Rattle.std.specs.Ordering.{nat_cmp}
use Rattle.up_events.specs.History.{is_final_kind}
use Rattle.up_events.specs.Records.{Records, empty_records, noted}
use Rattle.up_events.specs.declared.event.Accepted.{Accepted}
use Rattle.up_headers.specs.declared.request.NewUpload.{NewUpload}
use Rattle.up_headers.specs.declared.request.Patch.{Patch}
use Rattle.up_headers.specs.declared.request.Request.{Request}
use Rattle.up_headers.specs.declared.request.Request.TheVariants as request
use Rattle.up_machine.specs.Content.{Content, made_of, patched}

-- the uploads by id
abbrev pub Contents : Type 0
Contents = FinMap nat_cmp Content

-- the uploads that exist, the journal of the changes, whether the book is closed, and the maximum size of an upload
pub record State : Type 0 where
  pub content : Contents
  pub journal : Records
  pub closed : Bool
  pub max_size : ℕ

-- a book before its first change
abbrev pub empty_state : ℕ → ℕ → State
empty_state lanes max_size =
    record { content = map.empty; journal = empty_records lanes; closed = false; max_size = max_size }

-- the same, with a journal that counts the changes and does not keep them
abbrev pub counting_state : ℕ → ℕ → State
counting_state lanes max_size = record (empty_state lanes max_size) { journal = record (empty_records lanes) { keeps = false } }

-- the book as if its journal had not forgotten any event
abbrev pub recalled : State → State
recalled s = record s { journal = record s.journal { firsts = replicate s.journal.lanes 0 } }

-- the bytes of an upload; none if there is no upload
abbrev pub bytes_of : Option Content → List ℕ
bytes_of None = []
bytes_of (Some x) = x.bytes

-- the bytes of these uploads, in order
abbrev pub joined_parts : Contents → List ℕ → List ℕ
joined_parts content parts = flat_map (λ part. bytes_of (map.get content part)) parts

-- the first bytes of a new upload: those of its parts for a final one
abbrev pub first_bytes : Contents → NewUpload → List ℕ
first_bytes content new = if is_final_kind new.kind then joined_parts content new.parts else []

-- the content after a PATCH of this upload
abbrev pub extended : Contents → Patch → Option Content → Contents
extended content p None = content
extended content p (Some x) = map.insert content p.id (patched p x)

-- the content after a request was carried out
abbrev pub next : Contents → Request → ℕ → Contents
next content request.Options id = content
next content (request.Create new) id = map.insert content id (made_of new (first_bytes content new))
next content (request.Head u) id = content
next content (request.Patch p) id = extended content p (map.get content p.id)
next content (request.Delete u) id = map.remove content u
next content (request.Get u) id = content

-- the book after a request with this change, if any
abbrev pub after : State → Request → ℕ → Option Accepted → State
after s request id None = s
after s request id (Some change) = record s { content = next s.content request id; journal = noted s.journal change }
