-- A shorter log to which one more batch was added.
use Rattle.std.proofs.Common.{◌≡◌, ℕ, ◌+◌, Bool, true, false, cond, not, List, [], ◌∷◌, ◌++◌, length, ap, ◌∙◌, arith, length-append}
use Rattle.std.proofs.lemmas.List.{append-nil}
use Rattle.std.proofs.lemmas.List.Concat.{flat_map-append}
use Rattle.std.proofs.lemmas.List.Elements.{All-cons, All-head, All-tail, filter-append}
use Rattle.std.specs.List.{All}
use Rattle.up_log.specs.declared.entry.Entry.{Entry}
use Rattle.up_replay.specs.Replay.{entries_of}
use Rattle.up_compact.specs.Shorter.{JoinsKept, is_left_out, kept}
use Rattle.up_compact.specs.Writing.{WrittenDefines, carried_out, staying}
use Rattle.up_compact.proofs.Shortening.{shorter_defines}

pub entries_more : (batches : List (List Entry)) (more : List Entry) → entries_of (batches ++ more ∷ []) ≡ entries_of batches ++ more
entries_more batches more =
    flat_map-append (λ (batch : List Entry). batch) batches (more ∷ []) ∙ ap (λ (l : List Entry). entries_of batches ++ l) (append-nil more)

pub carried_append : (is_void : ℕ → Bool) (place : ℕ) (xs ys : List Entry) → carried_out is_void place (xs ++ ys) ≡ carried_out is_void place xs ++ carried_out is_void (place + length xs) ys
carried_append is_void place [] ys = ap (λ n. carried_out is_void n ys) (omega arith)
carried_append is_void place (x ∷ xs) ys =
    let rest = carried_append is_void (place + 1) xs ys ∙ ap (λ n. carried_out is_void (place + 1) xs ++ carried_out is_void n ys) (omega arith) in
    elim (is_void place) as (λ b. cond b (carried_out is_void (place + 1) (xs ++ ys)) (x ∷ carried_out is_void (place + 1) (xs ++ ys)) ≡ cond b (carried_out is_void (place + 1) xs) (x ∷ carried_out is_void (place + 1) xs) ++ carried_out is_void (place + length (x ∷ xs)) ys) [
      | true ↦ rest
      | false ↦ ap (λ (l : List Entry). x ∷ l) rest
    ]

pub staying_more : (is_void among : ℕ → Bool) (batches : List (List Entry)) (more : List Entry) (count : ℕ) → count ≡ length (entries_of batches)
    → staying is_void among (batches ++ more ∷ []) ≡ staying is_void among batches ++ kept among (carried_out is_void count more)
staying_more is_void among batches more count is =
    ap (λ (l : List Entry). kept among (carried_out is_void 0 l)) (entries_more batches more)
    ∙ ap (kept among) (carried_append is_void 0 (entries_of batches) more)
    ∙ filter-append (λ (entry : Entry). not (is_left_out among entry)) (carried_out is_void 0 (entries_of batches)) (carried_out is_void (0 + length (entries_of batches)) more)
    ∙ ap (λ n. staying is_void among batches ++ kept among (carried_out is_void n more)) (omega (arith, is))

pub count_more : (batches : List (List Entry)) (more : List Entry) (count : ℕ) → count ≡ length (entries_of batches) → count + length more ≡ length (entries_of (batches ++ more ∷ []))
count_more batches more count is = omega (arith, is, ap length (entries_more batches more), length-append (entries_of batches) more)

all_carried_out : (P : Entry → Type 0) (is_void : ℕ → Bool) (place : ℕ) (entries : List Entry) → All P entries → All P (carried_out is_void place entries)
all_carried_out P is_void place [] all = all
all_carried_out P is_void place (entry ∷ entries) all =
    let rest = all_carried_out P is_void (place + 1) entries (All-tail P entry entries all) in
    elim (is_void place) as (λ b. All P (cond b (carried_out is_void (place + 1) entries) (entry ∷ carried_out is_void (place + 1) entries))) [
      | true ↦ rest
      | false ↦ All-cons P entry (carried_out is_void (place + 1) entries) (All-head P entry entries all) rest
    ]

pub written_defines : WrittenDefines
written_defines is_void among s batches new joins =
    shorter_defines among s (carried_out is_void 0 (entries_of batches)) new (all_carried_out (JoinsKept among) is_void 0 (entries_of batches) joins)
