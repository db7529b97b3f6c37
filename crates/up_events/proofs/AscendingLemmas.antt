-- Ids in ascending order, in blocks, and one more.
use Rattle.std.proofs.Common.{◌≡◌, ℕ, zero, suc, ◌+◌, ◌-◌, ◌*◌, ◌/◌, ◌%◌, ◌≤◌, ◌<◌, Bool, true, false, ◌||◌, eqb, ltb, Some, List, [], ◌∷◌, ◌++◌, length, take, drop, length-append, Vec, vec_capacity, refl, sym, ap, ◌∙◌, subst, arith, get_or, slice_get, slice_set}
use Rattle.std.proofs.Math.Seq.{take-append_seam, drop-append_seam}
use Rattle.std.specs.List.{insert}
use Rattle.std.specs.List.Sorted.{IsBinarySearchResult, IsNonDecreasing}
use Rattle.std.specs.Ordering.{nat_cmp}
use Rattle.std.specs.Result.{is_ok}
use Rattle.std.specs.declared.result.Result.{Result}
use Rattle.std.specs.declared.result.Result.TheVariants.{Ok, Err}
use Rattle.std.specs.declared.alloc.Global.{Global}
use Rattle.std.proofs.lemmas.Bool.{eqb-true, eq-eqb, ltb-true, ltb-false}
use Rattle.std.proofs.lemmas.List.{drop_all, drop-drop, get_or_default, length-drop, length-take, take_all, take-append-drop}
use Rattle.std.proofs.lemmas.Option.{slice_get_read}
use Rattle.std.proofs.lemmas.List.Edits.{length-insert}
use Rattle.std.proofs.lemmas.List.Folds.{list_any-append, list_any_at, list_any_none}
use Rattle.std.proofs.lemmas.List.Sorted.{searched, IsPermutation-insert, IsNonDecreasingBy-insert, list_any-IsPermutation}
use Rattle.up_events.specs.Ascending.{has, HasAdded, AreBlocks, ids_in}
use Rattle.up_events.specs.Blocks.{IsBlock, IsNewBlock}
use Rattle.up_events.proofs.BlockLemmas.{block_length, block_read, new_block}
use Rattle.up_events.proofs.ListLemmas.{each_push, each_set, not_same}

or_swap : (a b : Bool) → (a || b) ≡ (b || a)
or_swap true true = refl
or_swap true false = refl
or_swap false true = refl
or_swap false false = refl

pub or_false : (b : Bool) → (b || false) ≡ b
or_false true = refl
or_false false = refl

-- ---- one more id

pub has-push : (ids : List ℕ) (id u : ℕ) → has (ids ++ id ∷ []) u ≡ (has ids u || eqb id u)
has-push ids id u = list_any-append (λ i. eqb i u) ids (id ∷ []) ∙ ap (λ b. has ids u || b) (or_false (eqb id u))

pub has-insert : (ids : List ℕ) (i id : ℕ) → HasAdded ids id (insert ids i id)
has-insert ids i id u = sym (list_any-IsPermutation (λ k. eqb k u) (id ∷ ids) (insert ids i id) (IsPermutation-insert ids i id)) ∙ or_swap (eqb id u) (has ids u)

-- an id that is there adds nothing
pub has_already : (ids : List ℕ) (id : ℕ) → has ids id ≡ true → HasAdded ids id ids
has_already ids id here u =
    elim (eqb id u) as (λ b. eqb id u ≡ b → has ids u ≡ (has ids u || b)) [
      | true ↦ λ e. let there : has ids u ≡ true = subst (λ v. has ids v ≡ true) (eqb-true id u e) here in rw there refl
      | false ↦ λ e. sym (or_false (has ids u))
    ] refl

-- ---- what a search says

found : (ids : List ℕ) (i id : ℕ) → i < length ids → get_or ids i 0 ≡ id → has ids id ≡ true
found ids i id within is = list_any_at (λ k. eqb k id) ids i 0 within (eq-eqb (get_or ids i 0) id is)

absent : (ids : List ℕ) (i id : ℕ) → ((k : ℕ) → k < i → get_or ids k 0 < id) → ((k : ℕ) → i ≤ k → k < length ids → id < get_or ids k 0) → has ids id ≡ false
absent ids i id below above =
    list_any_none (λ k. eqb k id) ids (λ k d within. not_same (get_or ids k d) id (λ e. apart k (e ∙ get_or_default ids k d 0 within) within))
  where
    apart : (k : ℕ) → id ≡ get_or ids k 0 → k < length ids → ⊥
    apart k e within = elim (ltb k i) as (λ b. ltb k i ≡ b → ⊥) [
      | true ↦ λ h. let b = below k (ltb-true k i h) in omega arith
      | false ↦ λ h. let a = above k (ltb-false k i h) within in omega arith
    ] refl

pub search_says : (ids : List ℕ) (id : ℕ) (r : Result ℕ ℕ) → IsBinarySearchResult (λ y. nat_cmp y id) ids r → IsNonDecreasing ids → is_ok r ≡ has ids id
search_says ids id (Ok i) at up = let f = searched ids id (Ok i) at (λ i j le lt. up i j 0 le lt) in sym (found ids i id f.0 f.1)
search_says ids id (Err i) at up = let f = searched ids id (Err i) at (λ i j le lt. up i j 0 le lt) in sym (absent ids i id f.1 f.2)

pub search_within : (ids : List ℕ) (id i : ℕ) → IsBinarySearchResult {X = ℕ} (λ y. nat_cmp y id) ids (Err i) → IsNonDecreasing ids → i ≤ length ids
search_within ids id i at up = (searched ids id (Err i) at (λ i j le lt. up i j 0 le lt)).0

pub search_keeps : (ids : List ℕ) (id i : ℕ) → IsBinarySearchResult {X = ℕ} (λ y. nat_cmp y id) ids (Err i) → IsNonDecreasing ids → IsNonDecreasing (insert ids i id)
search_keeps ids id i at up =
    let f = searched ids id (Err i) at (λ i j le lt. up i j 0 le lt) in
    IsNonDecreasingBy-insert (λ k. k) ids i id up f.0
    (λ k d lt. let b = f.1 k lt in let le = f.0 in omega (arith, get_or_default ids k d 0 (omega arith)))
    (λ k d le lt. let a = f.2 k le lt in omega (arith, get_or_default ids k d 0 lt))

-- ---- an insert, and what stands from a place on

take-insert : (n : ℕ) (ids : List ℕ) (i id : ℕ) → n ≤ i → i ≤ length ids → take n (insert ids i id) ≡ take n ids
take-insert zero ids i id le within = refl
take-insert (suc n) [] i id le within = absurd (omega arith)
take-insert (suc n) (x ∷ ids) zero id le within = absurd (omega arith)
take-insert (suc n) (x ∷ ids) (suc i) id le within = ap (λ l. x ∷ l) (take-insert n ids i id (omega arith) (omega arith))

drop-insert : (n : ℕ) (ids : List ℕ) (i id : ℕ) → n ≤ i → i ≤ length ids → drop n (insert ids i id) ≡ insert (drop n ids) (i - n) id
drop-insert zero ids i id le within = let e : i ≡ i - 0 = omega arith in ap (λ n. insert ids n id) e
drop-insert (suc n) [] i id le within = absurd (omega arith)
drop-insert (suc n) (x ∷ ids) zero id le within = absurd (omega arith)
drop-insert (suc n) (x ∷ ids) (suc i) id le within = let e : i - n ≡ suc i - suc n = omega arith in drop-insert n ids i id (omega arith) (omega arith) ∙ ap (λ j. insert (drop n ids) j id) e

insert-append : (front rest : List ℕ) (i id : ℕ) → i ≤ length front → insert (front ++ rest) i id ≡ insert front i id ++ rest
insert-append front rest zero id le = refl
insert-append [] rest (suc i) id le = absurd (omega arith)
insert-append (x ∷ front) rest (suc i) id le = ap (λ l. x ∷ l) (insert-append front rest i id (omega arith))

-- ---- the blocks joined

ids_from : (ids : List ℕ) (base : ℕ) (blocks : List (Vec ℕ Global)) → length ids ≤ base + length blocks * 32 → ((k : ℕ) (block : Vec ℕ Global) → slice_get blocks k ≡ Some block → IsBlock 32 ids (base + k * 32) block) → ids_in blocks ≡ drop base ids
ids_from ids base [] all each = sym (drop_all base ids (omega arith))
ids_from ids base (block ∷ blocks) all each =
    let first : block.items ≡ take 32 (drop base ids) = (each 0 block refl).items_are ∙ ap (λ n. take 32 (drop n ids)) (omega arith) in
    let rest : ids_in blocks ≡ drop (base + 32) ids = ids_from ids (base + 32) blocks (omega arith) (λ k b e. subst (λ n. IsBlock 32 ids n b) (omega arith) (each (suc k) b e)) in
    ap (λ l. l ++ ids_in blocks) first ∙ ap (λ l. take 32 (drop base ids) ++ l) (rest ∙ sym (drop-drop 32 base ids)) ∙ take-append-drop 32 (drop base ids)

pub ids_of_blocks : (ids : List ℕ) (blocks : List (Vec ℕ Global)) → length ids ≤ length blocks * 32 → AreBlocks ids blocks → ids_in blocks ≡ ids
ids_of_blocks ids blocks all each = ids_from ids 0 blocks (omega arith) (λ k b e. subst (λ n. IsBlock 32 ids n b) (omega arith) (each k b e))

-- ---- one more id in a block

-- a block that was full gives its last id to the rest
next_ids : (ids : List ℕ) (block new : List ℕ) (at id last : ℕ) → block ≡ take 32 ids → at ≤ length block → insert block at id ≡ new ++ last ∷ [] → length new ≡ 32 → (new ≡ take 32 (insert ids at id)) × (drop 32 (insert ids at id) ≡ insert (drop 32 ids) 0 last)
next_ids ids block new at id last is le gives full =
    let all : insert ids at id ≡ new ++ (last ∷ drop 32 ids) =
    ap (λ l. insert l at id) (sym (take-append-drop 32 ids) ∙ ap (λ l. l ++ drop 32 ids) (sym is)) ∙ insert-append block (drop 32 ids) at id le ∙ ap (λ l. l ++ drop 32 ids) gives ∙ joined new in (
      sym (ap (take 32) all ∙ ap (λ n. take n (new ++ (last ∷ drop 32 ids))) (sym full) ∙ take-append_seam new (last ∷ drop 32 ids)),
      ap (drop 32) all ∙ ap (λ n. drop n (new ++ (last ∷ drop 32 ids))) (sym full) ∙ drop-append_seam new (last ∷ drop 32 ids),
    )
  where
    joined : (front : List ℕ) → (front ++ last ∷ []) ++ drop 32 ids ≡ front ++ (last ∷ drop 32 ids)
    joined [] = refl
    joined (x ∷ front) = ap (λ l. x ∷ l) (joined front)

-- a block that wasn't full was the last one
last_ids : (ids : List ℕ) (block new : List ℕ) (at id : ℕ) → block ≡ take 32 ids → at ≤ length block → insert block at id ≡ new → length new ≤ 32 → (new ≡ take 32 (insert ids at id)) × (length ids < 32)
last_ids ids block new at id is le gives room =
    let short : length ids < 32 = omega (arith, length-insert block at id le, ap length gives, ap length is, length-take 32 ids) in
    let whole : block ≡ ids = is ∙ take_all 32 ids (omega arith) in
    (sym (ap (λ l. take 32 (insert l at id)) (sym whole) ∙ ap (take 32) gives ∙ take_all 32 new room), short)

-- ---- the turns that move the last ids on

-- the blocks before k have what they are to have, those from k on what they had, and one id is to go in at k
pub record IsMoved (ids : List ℕ) (place id k at moved : ℕ) (blocks : List (Vec ℕ Global)) : Type 0 where
  pub before : (j : ℕ) (block : Vec ℕ Global) → slice_get blocks j ≡ Some block → j < k → IsBlock 32 (insert ids place id) (j * 32) block
  pub after : (j : ℕ) (block : Vec ℕ Global) → slice_get blocks j ≡ Some block → k ≤ j → IsBlock 32 ids (j * 32) block
  pub there : k * 32 + at ≤ length ids
  pub less : at < 32
  pub left : drop (k * 32) (insert ids place id) ≡ insert (drop (k * 32) ids) at moved

pub moved_first : (ids : List ℕ) (place id : ℕ) (blocks : List (Vec ℕ Global)) → AreBlocks ids blocks → place ≤ length ids → IsMoved ids place id (place / 32) (place % 32) id blocks
moved_first ids place id blocks are within = record {
  before = λ j block e lt. let is = are j block e in let full : j * 32 + 32 ≤ place = omega (arith, lt) in record {
    items_are = is.items_are ∙ sym (ap (take 32) (drop-insert (j * 32) ids place id (omega arith) within) ∙ take-insert 32 (drop (j * 32) ids) (place - j * 32) id (omega arith) (omega (arith, length-drop (j * 32) ids)));
    room = is.room;
  };
  after = λ j block e le. are j block e;
  there = omega arith;
  less = omega arith;
  left = let e : place - place / 32 * 32 ≡ place % 32 = omega arith in drop-insert (place / 32 * 32) ids place id (omega arith) within ∙ ap (λ i. insert (drop (place / 32 * 32) ids) i id) e;
}

-- the block into which it goes
pub next_block : (ids : List ℕ) (place id k at moved : ℕ) (blocks : List (Vec ℕ Global)) (block : Vec ℕ Global) → IsMoved ids place id k at moved blocks → k < length blocks → block ≡ get_or blocks k block
    → (slice_get blocks k ≡ Some block) × (at ≤ length block.items) × (length block.items ≤ 32) × (32 ≤ vec_capacity block)
next_block ids place id k at moved blocks block is within read =
    let was = slice_get_read blocks (length blocks) k block refl within read in
    let own = is.after k block was (omega arith) in
    let len = block_length 32 ids (k * 32) block own in
    (was, omega (arith, len, is.there, is.less), omega (arith, len), own.room)

pub moved_on : (ids : List ℕ) (place id k at moved last : ℕ) (blocks : List (Vec ℕ Global)) (old new : Vec ℕ Global) → IsMoved ids place id k at moved blocks → slice_get blocks k ≡ Some old → insert old.items at moved ≡ new.items ++ last ∷ [] → length new.items ≡ 32 → 32 ≤ vec_capacity new → IsMoved ids place id (k + 1) 0 last (slice_set blocks k new)
moved_on ids place id k at moved last blocks old new is was gives full room =
    let own = is.after k old was (omega arith) in
    let len = block_length 32 ids (k * 32) old own in
    let le : at ≤ length old.items = omega (arith, len, is.there, is.less) in
    let next = next_ids (drop (k * 32) ids) old.items new.items at moved last own.items_are le gives full in
    let one : k * 32 + 32 ≡ (k + 1) * 32 = omega arith in
    let long : length old.items ≡ 32 = omega (arith, length-insert old.items at moved le, ap length gives, length-append new.items (last ∷ [])) in
    record {
      before = λ j block e lt. each_set (λ j b. (j < k → IsBlock 32 (insert ids place id) (j * 32) b)) (λ j b. (j < k + 1 → IsBlock 32 (insert ids place id) (j * 32) b)) blocks k new is.before
          (λ lt. record { items_are = next.0 ∙ ap (take 32) (sym is.left); room = room }) (λ j b other h lt. h (omega (arith, λ (e : j ≡ k). other e))) j block e lt;
      after = λ j block e le. each_set (λ j b. (k ≤ j → IsBlock 32 ids (j * 32) b)) (λ j b. (k + 1 ≤ j → IsBlock 32 ids (j * 32) b)) blocks k new is.after
          (λ le. absurd (omega arith)) (λ j b other h le. h (omega arith)) j block e le;
      there = omega (arith, long, len);
      less = omega arith;
      left = ap (λ n. drop n (insert ids place id)) (sym one) ∙ sym (drop-drop 32 (k * 32) (insert ids place id)) ∙ ap (drop 32) is.left ∙ next.1
          ∙ ap (λ l. insert l 0 last) (drop-drop 32 (k * 32) ids ∙ ap (λ n. drop n ids) one);
    }

pub moved_last : (ids : List ℕ) (place id k at moved : ℕ) (blocks : List (Vec ℕ Global)) (old new : Vec ℕ Global) → place ≤ length ids → IsMoved ids place id k at moved blocks → slice_get blocks k ≡ Some old → insert old.items at moved ≡ new.items → length new.items ≤ 32 → 32 ≤ vec_capacity new → AreBlocks (insert ids place id) (slice_set blocks k new)
moved_last ids place id k at moved blocks old new within is was gives short room =
    let own = is.after k old was (omega arith) in
    let le : at ≤ length old.items = omega (arith, block_length 32 ids (k * 32) old own, is.there, is.less) in
    let last = last_ids (drop (k * 32) ids) old.items new.items at moved own.items_are le gives short in
    let end : length ids < k * 32 + 32 = omega (arith, last.1, length-drop (k * 32) ids) in
    each_set (λ j b. (j < k → IsBlock 32 (insert ids place id) (j * 32) b) × (k ≤ j → IsBlock 32 ids (j * 32) b)) (λ j b. IsBlock 32 (insert ids place id) (j * 32) b) blocks k new (λ j b e. (is.before j b e, is.after j b e))
    (record { items_are = last.0 ∙ ap (take 32) (sym is.left); room = room })
    (λ j b other both. elim (ltb j k) as (λ v. ltb j k ≡ v → IsBlock 32 (insert ids place id) (j * 32) b) [
      | true ↦ λ e. both.0 (ltb-true j k e)
      | false ↦ λ e. let le : k ≤ j = ltb-false j k e in let past : k * 32 + 32 ≤ j * 32 = omega (arith, λ (e : j ≡ k). other e) in let h = both.1 le in record {
        items_are = h.items_are ∙ ap (take 32) (drop_all (j * 32) ids (omega arith) ∙ sym (drop_all (j * 32) (insert ids place id) (omega (arith, length-insert ids place id within))));
        room = h.room;
      }
    ] refl)

-- the blocks that have one more
pub moved_all : (ids : List ℕ) (place id : ℕ) (blocks : List (Vec ℕ Global)) → place ≤ length ids → length ids < length blocks * 32 → AreBlocks (insert ids place id) blocks → (AreBlocks (ids_in blocks) blocks) × (ids_in blocks ≡ insert ids place id)
moved_all ids place id blocks within room are =
    let joined = ids_of_blocks (insert ids place id) blocks (omega (arith, length-insert ids place id within)) are in
    (subst (λ l. AreBlocks l blocks) (sym joined) are, joined)

-- ---- one more block

pub one_block_more : (old new : List (Vec ℕ Global)) (block : Vec ℕ Global) → AreBlocks (ids_in old) old → length (ids_in old) ≤ length old * 32 → IsNewBlock 32 block → new ≡ old ++ block ∷ [] → (AreBlocks (ids_in new) new) × (ids_in new ≡ ids_in old)
one_block_more old new block are room fresh is =
    let more : AreBlocks (ids_in old) new = subst (AreBlocks (ids_in old)) (sym is) (each_push (λ k b. IsBlock 32 (ids_in old) (k * 32) b) old block are (new_block 32 (ids_in old) (length old * 32) block room fresh)) in
    let same = ids_of_blocks (ids_in old) new (omega (arith, room, ap length is, length-append old (block ∷ []))) more in
    (subst (λ l. AreBlocks l new) (sym same) more, same)

-- the id at a place
pub id_read : (ids : List ℕ) (place id : ℕ) (blocks : List (Vec ℕ Global)) (block : Vec ℕ Global) → AreBlocks ids blocks → place < length ids → slice_get blocks (place / 32) ≡ Some block → id ≡ get_or block.items (place % 32) id → slice_get ids place ≡ Some id
id_read ids place id blocks block are within was read =
    let at : place / 32 * 32 + place % 32 ≡ place = omega arith in
    slice_get_read ids (length ids) place id refl within
    (read ∙ block_read 32 ids (place / 32 * 32) (place % 32) block id (are (place / 32) block was) (omega arith) ∙ ap (λ i. get_or ids i id) at)
