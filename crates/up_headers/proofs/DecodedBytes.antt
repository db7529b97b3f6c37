-- What decodes as Base64 is made of bytes.
use Rattle.std.proofs.Common.{◌≡◌, ℕ, zero, suc, ◌+◌, ◌*◌, ◌/◌, ◌%◌, ◌<◌, List, [], ◌∷◌, ◌++◌, length, take, drop, slice_index, sym, refl, subst, arith, lit<, inl, inr}
use Rattle.std.proofs.lemmas.List.{take-append-drop}
use Rattle.std.specs.declared.option.Option.{Option}
use Rattle.std.specs.declared.option.Option.TheVariants.{None, Some}
use Rattle.std.specs.declared.result.Result.TheVariants.{Ok, Err}
use Rattle.base64.specs.declared.decode.DecodeError.{DecodeError}
use Rattle.base64.specs.Decode.{or_else, symbol_error, group_error, group_bytes, groups_error, groups_bytes, groups_before_last, decode_group, decode_outcome, lone_error, push_leftover, no_leftover, scan, scan_steps, scan_last, scan_bytes, IsDecodeTable}
use Rattle.base64.specs.Engines.{standard}
use Rattle.base64.specs.GeneralPurpose.{IsBytes, decode_of}
use Rattle.base64.proofs.Tables.{IsDecodeTable_from, are_tables_inverse}
use Rattle.base64.proofs.Decoding.{IsLeftover, IsLeftover_next}
use Rattle.base64.proofs.EngineFacts.{front_bytes, decode_of_bytes}

-- no bytes are bytes
none_bytes : IsBytes []
none_bytes i = lit< tt

-- one byte more
bytes_cons : (b : ℕ) (bs : List ℕ) → b < 256 → IsBytes bs → IsBytes (b ∷ bs)
bytes_cons b bs byte bytes zero = byte
bytes_cons b bs byte bytes (suc i) = bytes i

-- bytes behind bytes
bytes_append : (xs ys : List ℕ) → IsBytes xs → IsBytes ys → IsBytes (xs ++ ys)
bytes_append [] ys first second = second
bytes_append (x ∷ xs) ys first second = bytes_cons x (xs ++ ys) (first 0) (bytes_append xs ys (λ i. first (suc i)) second)

-- the back of bytes
pub back_bytes : (xs ys : List ℕ) → IsBytes (xs ++ ys) → IsBytes ys
back_bytes [] ys bytes = bytes
back_bytes (x ∷ xs) ys bytes = back_bytes xs ys (λ i. bytes (suc i))

-- the first of bytes
bytes_take : (n : ℕ) (xs : List ℕ) → IsBytes xs → IsBytes (take n xs)
bytes_take n xs bytes = front_bytes (take n xs) (drop n xs) (subst IsBytes (sym (take-append-drop n xs)) bytes)

-- bytes without the first
bytes_drop : (n : ℕ) (xs : List ℕ) → IsBytes xs → IsBytes (drop n xs)
bytes_drop zero xs bytes = bytes
bytes_drop (suc n) [] bytes = none_bytes
bytes_drop (suc n) (x ∷ xs) bytes = bytes_drop n xs (λ i. bytes (suc i))

-- four values of symbols are three bytes
group_is_bytes : (a b c d : ℕ) → a < 64 → b < 64 → c < 64 → d < 64 → IsBytes (decode_group a b c d)
group_is_bytes a b c d la lb lc ld =
    bytes_cons (a * 4 + b / 16) ((b % 16 * 16 + c / 4) ∷ (c % 4 * 64 + d) ∷ []) (omega arith)
    (bytes_cons (b % 16 * 16 + c / 4) ((c % 4 * 64 + d) ∷ []) (omega arith) (bytes_cons (c % 4 * 64 + d) [] (omega arith) none_bytes))

-- no error of two is no error of each
none_first : (x y : Option DecodeError) → or_else x y ≡ None → x ≡ None
none_first None y is = refl
none_first (Some e) y is = absurd (cc)

-- nor is one of the second
none_second : (x y : Option DecodeError) → or_else x y ≡ None → y ≡ None
none_second None y is = is
none_second (Some e) y is = absurd (cc)

-- a symbol without an error has a value
symbol_small : (dec s : List ℕ) (i : ℕ) → IsDecodeTable dec → slice_index s i < 256 → symbol_error dec s i ≡ None → slice_index dec (slice_index s i) < 64
symbol_small dec s i table byte none = elim (table (slice_index s i) byte) [
  | inl bad ↦ cc (rw bad at none)
  | inr good ↦ good
]

-- four symbols without an error are bytes
one_group : (dec s : List ℕ) (i : ℕ) → IsDecodeTable dec → IsBytes s → group_error dec s i ≡ None → IsBytes (group_bytes dec s i)
one_group dec s i table bytes none =
    let more = none_second (symbol_error dec s i) _ none in
    let most = none_second (symbol_error dec s (i + 1)) _ more in
    group_is_bytes _ _ _ _
    (symbol_small dec s i table (bytes i) (none_first (symbol_error dec s i) _ none))
    (symbol_small dec s (i + 1) table (bytes (i + 1)) (none_first (symbol_error dec s (i + 1)) _ more))
    (symbol_small dec s (i + 2) table (bytes (i + 2)) (none_first (symbol_error dec s (i + 2)) (symbol_error dec s (i + 3)) most))
    (symbol_small dec s (i + 3) table (bytes (i + 3)) (none_second (symbol_error dec s (i + 2)) (symbol_error dec s (i + 3)) most))

-- and so are all groups of four
groups_are_bytes : (dec s : List ℕ) (q : ℕ) → IsDecodeTable dec → IsBytes s → groups_error dec s q ≡ None → IsBytes (groups_bytes dec s q)
unfolding groups_error groups_bytes
groups_are_bytes dec s zero table bytes none = none_bytes
groups_are_bytes dec s (suc q) table bytes none =
    bytes_append (groups_bytes dec s q) (group_bytes dec s (4 * q))
    (groups_are_bytes dec s q table bytes (none_first (groups_error dec s q) (group_error dec s (4 * q)) none))
    (one_group dec s (4 * q) table bytes (none_second (groups_error dec s q) (group_error dec s (4 * q)) none))

-- what the scan of the last group keeps
scan_next : (dec : List ℕ) (pad at : ℕ) (st fin : _) (i b : ℕ) (bs : List ℕ) (r : _) → push_leftover dec pad at st i b ≡ r → IsDecodeTable dec → b < 256
    → IsLeftover st i → scan_steps dec pad at r (i + 1) bs ≡ Ok fin
    → ((next : _) → IsLeftover next (i + 1) → scan dec pad at next (i + 1) bs ≡ Ok fin → (j : ℕ) × IsLeftover fin j) → (j : ℕ) × IsLeftover fin j
unfolding scan_steps
scan_next dec pad at st fin i b bs (Ok next) is table byte held same more = more next (IsLeftover_next dec pad at st i b next table held byte is) same
scan_next dec pad at st fin i b bs (Err e) is table byte held same more = absurd (cc)

-- what the whole scan keeps
scan_kept : (dec : List ℕ) (pad at : ℕ) (st fin : _) (i : ℕ) (bs : List ℕ) → IsDecodeTable dec → IsBytes bs → IsLeftover st i
    → scan dec pad at st i bs ≡ Ok fin → (j : ℕ) × IsLeftover fin j
unfolding scan_steps
scan_kept dec pad at st fin i [] table bytes held same = let e : st ≡ fin = cc same in (i, subst (λ s. IsLeftover s i) e held)
scan_kept dec pad at st fin i (b ∷ bs) table bytes held same =
    scan_next dec pad at st fin i b bs (push_leftover dec pad at st i b) refl table (bytes 0) held same
    (λ next kept rest. scan_kept dec pad at next fin (i + 1) bs table (λ k. bytes (suc k)) kept rest)

-- what it keeps at its start
zeros_small : (k : ℕ) → slice_index (0 ∷ 0 ∷ 0 ∷ 0 ∷ []) k < 64
zeros_small zero = lit< tt
zeros_small (suc zero) = lit< tt
zeros_small (suc (suc zero)) = lit< tt
zeros_small (suc (suc (suc zero))) = lit< tt
zeros_small (suc (suc (suc (suc k)))) = lit< tt

-- the bytes of the last group
scan_is_bytes : (dec : List ℕ) (pad at : ℕ) (s : List ℕ) (r : _) → scan_last dec pad at s ≡ r → IsDecodeTable dec → IsBytes s → IsBytes (scan_bytes r)
scan_is_bytes dec pad at s (Ok fin) is table bytes =
    let kept = scan_kept dec pad at no_leftover fin 0 (drop at s) table (bytes_drop at s bytes) (omega arith, omega arith, omega arith, zeros_small) is in
    let small = kept.1.3 in
    bytes_take _ _ (group_is_bytes _ _ _ _ (small 0) (small 1) (small 2) (small 3))
scan_is_bytes dec pad at s (Err e) is table bytes = none_bytes

-- what decodes has no error
outcome_none : (x : Option DecodeError) (d value : List ℕ) → decode_outcome x d ≡ Ok value → x ≡ None
outcome_none None d value is = refl
outcome_none (Some e) d value is = absurd (cc)

-- a text of bytes decodes to bytes
pub decoded_is_bytes : (s value : List ℕ) → IsBytes s → decode_of standard s ≡ Ok value → IsBytes value
decoded_is_bytes s value bytes is =
    let dec = standard.decode_table in
    let table = IsDecodeTable_from standard.encode_table dec (are_tables_inverse standard.encode_table dec 61 standard.tables) in
    let q = groups_before_last (length s) in
    let more = none_second (lone_error dec 61 s) _ (outcome_none _ _ value is) in
    decode_of_bytes standard s value
    (bytes_append (groups_bytes dec s q) (scan_bytes (scan_last dec 61 (4 * q) s))
    (groups_are_bytes dec s q table bytes (none_first (groups_error dec s q) _ more))
    (scan_is_bytes dec 61 (4 * q) s (scan_last dec 61 (4 * q) s) refl table bytes))
    is
