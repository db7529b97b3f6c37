-- A log with a batch more.
use Rattle.std.proofs.Common.{◌≡◌, ◌++◌, ◌∷◌, [], List, ap, ◌∙◌, append-nil}
use Rattle.std.proofs.lemmas.List.Concat.{flat_map-append, flat_map-cons}
use Rattle.up_log.specs.declared.entry.Entry.{Entry}
use Rattle.up_replay.specs.Replay.{entries_of}

pub entries_of-push : (batches : List (List Entry)) (more : List Entry) → entries_of (batches ++ more ∷ []) ≡ entries_of batches ++ more
entries_of-push batches more =
    flat_map-append (λ (b : List Entry). b) batches (more ∷ []) ∙ ap (λ l. entries_of batches ++ l) (flat_map-cons (λ (b : List Entry). b) more [] ∙ append-nil more)
