-- What files of blocks hold, and what they go on holding.
use Rattle.std.proofs.Common.{◌≡◌, ℕ, ◌+◌, ◌-◌, ◌*◌, ◌/◌, ◌%◌, ◌^◌, ◌<◌, ◌≤◌, List, ◌++◌, length, take, drop, sym, ◌∙◌, ap, subst, arith, length-append, inl, inr}
use Rattle.std.proofs.lemmas.Bool.{cases_lt}
use Rattle.std.proofs.lemmas.List.{ext_get_or, length-take, length-drop, take-append-le, drop-append-le, take_all}
use Rattle.std.proofs.Math.Seq.{take-append_seam, drop-append_seam}
use Rattle.sqlite_disk.specs.Disk.{Follows, Holds, Torn}
use Rattle.up_places.specs.Places.{Spot, part_at}
use Rattle.up_bodies.specs.Blocks.{AreWhole, EndAfterWhole, EndBy, HoldsBlocks, HoldsSpot, IsSound, block, block_len, pad_of, padded, sum_of, sum_text, zeros}

-- a file has one list of so many bytes at a place
pub same_held : (at : ℕ) (file a b : List ℕ) → Holds file at a → Holds file at b → length a ≡ length b → a ≡ b
same_held at file a b first second same =
    ext_get_or 0 a b same (λ i lt. sym (first.each i lt) ∙ second.each i (omega (arith, same)))

-- what ends before a write stays
pub stays_held : (at place n : ℕ) (old new bytes : List ℕ) → Holds old at bytes → at + length bytes ≤ place → Torn place n old new → Holds new at bytes
stays_held at place n old new bytes holds ends torn = record {
  within = omega (arith, holds.within, ends, torn.no_shorter);
  each = λ i lt. torn.below (at + i) (omega (arith, lt, holds.within)) (omega (arith, lt, ends)) ∙ holds.each i lt;
}

length_padded : (bytes : List ℕ) → length (padded bytes) ≡ length bytes + pad_of (length bytes)
length_padded bytes =
    length-append bytes (take (pad_of (length bytes)) zeros)
    ∙ ap (λ (n : ℕ). length bytes + n) (length-take (pad_of (length bytes)) zeros ∙ omega arith)

pub length_block : (seed : ℕ × ℕ) (at : ℕ) (bytes : List ℕ) → length (block seed at bytes) ≡ block_len (length bytes)
length_block seed at bytes =
    length-append (padded bytes) (sum_text (sum_of seed at (padded bytes))) ∙ ap (λ (n : ℕ). n + 8) (length_padded bytes)

-- a block is sound
pub block_sound : (seed : ℕ × ℕ) (at : ℕ) (bytes : List ℕ) → IsSound seed at (block seed at bytes)
block_sound seed at bytes =
    let sum = sum_text (sum_of seed at (padded bytes)) in
    let size : length (padded bytes ++ sum) - 8 ≡ length (padded bytes) = omega (arith, length-append (padded bytes) sum) in
    let front : take (length (padded bytes ++ sum) - 8) (padded bytes ++ sum) ≡ padded bytes = ap (λ (n : ℕ). take n (padded bytes ++ sum)) size ∙ take-append_seam (padded bytes) sum in
    ap (λ (n : ℕ). drop n (padded bytes ++ sum)) size ∙ drop-append_seam (padded bytes) sum
    ∙ ap (λ (l : List ℕ). sum_text (sum_of seed at l)) (sym front)

module _ (bytes more : List ℕ) (count : ℕ) (whole : length bytes ≡ 65_536 * count) where
  -- the parts of the first bytes stay
  pub part_before : (i : ℕ) → i < count → part_at i (bytes ++ more) ≡ part_at i bytes
  part_before i lt =
      ap (λ (l : List ℕ). take 65_536 l) (drop-append-le (65_536 * i) bytes more (omega (arith, whole, lt)))
      ∙ take-append-le 65_536 (drop (65_536 * i) bytes) more (omega (arith, whole, lt, length-drop (65_536 * i) bytes))

  -- the last part is what is added
  pub part_last : length more ≤ 65_536 → part_at count (bytes ++ more) ≡ more
  part_last few =
      let back : drop (65_536 * count) (bytes ++ more) ≡ more = subst (λ (n : ℕ). drop n (bytes ++ more) ≡ more) whole (drop-append_seam bytes more) in
      ap (λ (l : List ℕ). take 65_536 l) back ∙ take_all 65_536 more few

-- a whole block takes 65,544 bytes
length_whole : (seed : ℕ × ℕ) (at i : ℕ) (bytes : List ℕ) → 65_536 * i + 65_536 ≤ length bytes → length (block seed at (part_at i bytes)) ≡ 65_544
length_whole seed at i bytes within =
    let size : length (part_at i bytes) ≡ 65_536 = omega (arith, length-take 65_536 (drop (65_536 * i) bytes), length-drop (65_536 * i) bytes) in
    length_block seed at (part_at i bytes) ∙ ap block_len size

module _ (seed : ℕ × ℕ) (at place n : ℕ) (old new bytes : List ℕ) (holds : HoldsBlocks old seed at bytes) (torn : Torn place n old new) where
  -- a block that is written after whole blocks continues them
  pub blocks_grow : (more : List ℕ) → AreWhole at bytes place → length more ≤ 65_536 → Holds new place (block seed place more) → HoldsBlocks new seed at (bytes ++ more)
  blocks_grow more are few added i lt = elim (cases_lt i are.count) [
    | inl before ↦
        let ends : at + 65_544 * i + length (block seed (at + 65_544 * i) (part_at i bytes)) ≤ place =
        omega (arith, are.place, before, length_whole seed (at + 65_544 * i) i bytes (omega (arith, are.whole, before))) in
        subst (λ (p : List ℕ). Holds new (at + 65_544 * i) (block seed (at + 65_544 * i) p)) (sym (part_before bytes more are.count are.whole i before))
        (stays_held (at + 65_544 * i) place n old new (block seed (at + 65_544 * i) (part_at i bytes)) (holds i (omega (arith, are.whole, before))) ends torn)
    | inr after ↦
        let is : are.count ≡ i = omega (arith, after, lt, few, are.whole, length-append bytes more) in
        let there : place ≡ at + 65_544 * i = are.place ∙ ap (λ (k : ℕ). at + 65_544 * k) is in
        let last : part_at i (bytes ++ more) ≡ more = ap (λ (k : ℕ). part_at k (bytes ++ more)) (sym is) ∙ part_last bytes more are.count are.whole few in
        subst (λ (p : List ℕ). Holds new (at + 65_544 * i) (block seed (at + 65_544 * i) p)) (sym last)
        (subst (λ (k : ℕ). Holds new k (block seed k more)) there added)
  ]

-- what every crash before a write leaves, every crash after it leaves, if it ends before the write
pub held_left : (at place n : ℕ) (old new : List ℕ → Type 0) (bytes : List ℕ) → Follows (Torn place n) old new → at + length bytes ≤ place
    → ((c : List ℕ) → old c → Holds c at bytes) → (c : List ℕ) → new c → Holds c at bytes
held_left at place n old new bytes follows ends leaves c left =
    let from = follows c left in
    stays_held at place n from.0 c bytes (leaves from.0 from.1) ends from.2

-- a buffer of the size of a block, that was read at its place, is the block
pub read_is : (seed : ℕ × ℕ) (at i : ℕ) (file bytes read : List ℕ) → HoldsBlocks file seed at bytes → 65_536 * i < length bytes
    → length read ≡ block_len (length (part_at i bytes)) → Holds file (at + 65_544 * i) read → read ≡ block seed (at + 65_544 * i) (part_at i bytes)
read_is seed at i file bytes read holds within size there =
    same_held (at + 65_544 * i) file read (block seed (at + 65_544 * i) (part_at i bytes)) there (holds i within)
    (size ∙ sym (length_block seed (at + 65_544 * i) (part_at i bytes)))

-- such a buffer is sound
pub read_sound : (seed : ℕ × ℕ) (at i : ℕ) (file bytes read : List ℕ) → HoldsBlocks file seed at bytes → 65_536 * i < length bytes
    → length read ≡ block_len (length (part_at i bytes)) → Holds file (at + 65_544 * i) read → IsSound seed (at + 65_544 * i) read
read_sound seed at i file bytes read holds within size there =
    subst (IsSound seed (at + 65_544 * i)) (sym (read_is seed at i file bytes read holds within size there))
    (block_sound seed (at + 65_544 * i) (part_at i bytes))

-- a block that ends before a change stays, and so do the blocks of a place
pub spot_stays : (seed : ℕ × ℕ) (end : ℕ) (old new : List ℕ)
    → ((place : ℕ) (before : List ℕ) → place + length before ≤ end → Holds old place before → Holds new place before)
    → (spot : Spot) → EndBy spot.at spot.bytes end → HoldsSpot old seed spot → HoldsSpot new seed spot
spot_stays seed end old new stay spot ends holds i lt =
    let at = spot.at + 65_544 * i in
    let part = part_at i spot.bytes in
    stay at (block seed at part) (omega (arith, ends i lt, length_block seed at part)) (holds i lt)

-- the same of what every crash leaves
pub spot_left : (seed : ℕ × ℕ) (end : ℕ) (old new : List ℕ → Type 0)
    → ((place : ℕ) (before : List ℕ) → place + length before ≤ end → ((c : List ℕ) → old c → Holds c place before) → (c : List ℕ) → new c → Holds c place before)
    → (spot : Spot) → EndBy spot.at spot.bytes end → ((c : List ℕ) → old c → HoldsSpot c seed spot) → (c : List ℕ) → new c → HoldsSpot c seed spot
spot_left seed end old new stay spot ends leaves c left i lt =
    let at = spot.at + 65_544 * i in
    let part = part_at i spot.bytes in
    stay at (block seed at part) (omega (arith, ends i lt, length_block seed at part)) (λ d was. leaves d was i lt) c left

module _ (at end : ℕ) (bytes : List ℕ) (after : EndAfterWhole at bytes end) (whole : length bytes % 65_536 ≡ 0) where
  pub are_whole : AreWhole at bytes end
  are_whole = record {
    count = length bytes / 65_536;
    whole = omega (arith, whole);
    place = after whole;
  }

  module _ (more : List ℕ) (some : 0 < length more) (few : length more ≤ 65_536) where
    -- the blocks end after the one that is added
    pub end_after_whole : EndAfterWhole at (bytes ++ more) (end + block_len (length more))
    end_after_whole again = omega (arith, again, after whole, whole, some, few, length-append bytes more)

    pub end_by : EndBy at (bytes ++ more) (end + block_len (length more))
    end_by i lt =
        let count = length bytes / 65_536 in
        let is : length bytes ≡ 65_536 * count = omega (arith, whole) in
        elim (cases_lt i count) [
          | inl before ↦
              let size : length (part_at i bytes) ≡ 65_536 =
              omega (arith, before, is, length-take 65_536 (drop (65_536 * i) bytes), length-drop (65_536 * i) bytes) in
              let same : length (part_at i (bytes ++ more)) ≡ 65_536 = ap length (part_before bytes more count is i before) ∙ size in
              omega (arith, same, before, after whole)
          | inr from ↦
              let there : count ≡ i = omega (arith, from, lt, few, is, length-append bytes more) in
              let last : part_at i (bytes ++ more) ≡ more = ap (λ (k : ℕ). part_at k (bytes ++ more)) (sym there) ∙ part_last bytes more count is few in
              let same : length (part_at i (bytes ++ more)) ≡ length more = ap length last in
              omega (arith, same, there, after whole)
        ]

    -- the place has fewer bytes than the file
    pub put_fits : end + block_len (length more) < 2 ^ 64 → length bytes + length more < 2 ^ 64
    put_fits small = omega (arith, small, after whole, whole)

-- the block begins with the bytes
pub taken_block : (seed : ℕ × ℕ) (at : ℕ) (bytes : List ℕ) → take (length bytes) (block seed at bytes) ≡ bytes
taken_block seed at bytes =
    take-append-le (length bytes) (padded bytes) (sum_text (sum_of seed at (padded bytes))) (omega (arith, length_padded bytes))
    ∙ take-append_seam bytes (take (pad_of (length bytes)) zeros)
