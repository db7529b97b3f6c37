-- Which log is the current one: that of the last of the heads, which have a log of their own.
use Rattle.std.specs.Prelude.{◌≡◌, ℕ, List, [], ◌∷◌, ◌++◌, map, Option, Some, None}
use Rattle.up_compact.specs.declared.head.Head.{Head}
use Rattle.up_headers.specs.declared.request.Request.TheVariants as request
use Rattle.up_log.specs.Reading.{◌>>=◌}
use Rattle.up_log.specs.declared.entry.Consent.TheVariants.{Skipped}
use Rattle.up_log.specs.declared.entry.Entry.{Entry}

-- an entry that asks for nothing, with the number as its id
abbrev pub entry_with_number : ℕ → Entry
entry_with_number n = record { id = n; consent = Skipped; place = None; request = request.Options }

-- the numbers of a head
abbrev pub numbers_in : Head → List ℕ
numbers_in head = head.generation ∷ head.entries ∷ head.left_out

-- the batch for a head
abbrev pub batch_of : Head → List Entry
batch_of head = map entry_with_number (numbers_in head)

-- the ids of these entries
abbrev pub ids_of : List Entry → List ℕ
ids_of batch = map (λ (entry : Entry). entry.id) batch

-- the head with these numbers
abbrev pub head_of : List ℕ → Option Head
head_of [] = None
head_of (generation ∷ []) = None
head_of (generation ∷ entries ∷ left_out) =
    Some (record { generation = generation; entries = entries; left_out = left_out })

-- the head of the first log: nothing was left out of it
abbrev pub first_head : Head
first_head = record { generation = 0; entries = 0; left_out = [] }

-- the current head after these batches; none if one of them is not a head
abbrev pub head_after : Head → List (List Entry) → Option Head
head_after head [] = Some head
head_after head (batch ∷ batches) = head_of (ids_of batch) >>= (λ (next : Head). head_after next batches)

-- after one more head, that head is the current one
abbrev pub LastHeadHolds : Type 0
LastHeadHolds =
    (batches : List (List Entry)) (start was head : Head)
    → head_after start batches ≡ Some was → head_after start (batches ++ batch_of head ∷ []) ≡ Some head
