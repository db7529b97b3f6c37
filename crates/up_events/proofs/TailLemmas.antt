-- The blocks of a log, and one more event.
use Rattle.std.proofs.Common.{◌≡◌, ◌≢◌, ◌⊎◌, inl, inr, ℕ, ◌+◌, ◌-◌, ◌*◌, ◌/◌, ◌%◌, ◌^◌, ◌≤◌, ◌<◌, min, true, false, ltb, Some, List, [], ◌∷◌, ◌++◌, length, take, drop, Vec, vec_capacity, refl, sym, ap, ◌∙◌, subst, arith, get_or, slice_get, slice_set, length-append}
use Rattle.std.proofs.Math.ListN.{length-set}
use Rattle.std.specs.declared.alloc.Global.{Global}
use Rattle.std.proofs.lemmas.Bool.{ltb-true, ltb-false}
use Rattle.std.proofs.lemmas.Option.{get_or_from_slice_get, slice_get_read, slice_get_within}
use Rattle.std.proofs.lemmas.List.{drop_all, drop-append-le, get_or-drop, length-drop, take_all, take_more, take-append-le}
use Rattle.up_events.specs.declared.event.Event.{Event}
use Rattle.up_events.specs.Blocks.{IsBlock, IsNewBlock}
use Rattle.up_events.specs.Left.{Left, left, log_length, IsLeft}
use Rattle.up_events.proofs.BlockLemmas.{block_read, new_block}
use Rattle.up_events.proofs.ListLemmas.{each_push, each_set}

-- ---- what the fields say of the view

pub view_length : (all : List Event) (len first base : ℕ) (blocks : List (Vec Event Global)) (v : Left) → IsLeft all len first base blocks → left all first base blocks ≡ v → (v.first ≡ first) × (log_length v ≡ len)
view_length all len first base blocks v is view = subst (λ (v : Left). (v.first ≡ first) × (log_length v ≡ len)) view (refl, omega (arith, length-drop first all, is.counted, is.forgotten))

pub view_room : (all : List Event) (len first base : ℕ) (blocks : List (Vec Event Global)) (v : Left) → IsLeft all len first base blocks → left all first base blocks ≡ v → 0 < v.room → ((len - base) / 1024 < length blocks) × (len + 1 < 2 ^ 64)
view_room all len first base blocks v is view some =
    let room : 0 < min (base + length blocks * 1024 - length all) (2 ^ 64 - 1 - length all) = subst (λ (v : Left). 0 < v.room) (sym view) some in
    (omega (arith, is.counted, is.given_back, is.forgotten), omega (arith, is.counted))

-- ---- what stands in a block

-- the block at the place that is divided by the size
pub block_at : (at : ℕ) (blocks : List (Vec Event Global)) (block : Vec Event Global) → at / 1024 < length blocks → block ≡ get_or blocks (at / 1024) block → slice_get blocks (at / 1024) ≡ Some block
block_at at blocks block within read = slice_get_read blocks (length blocks) (at / 1024) block refl within read

pub event_read : (all : List Event) (len first base place : ℕ) (blocks : List (Vec Event Global)) (block : Vec Event Global) (event : Event) → IsLeft all len first base blocks → first ≤ place → place < length all → slice_get blocks ((place - base) / 1024) ≡ Some block → event ≡ get_or block.items ((place - base) % 1024) event → slice_get (drop first all) (place - first) ≡ Some event
event_read all len first base place blocks block event left there within was read =
    let k = (place - base) / 1024 in
    let is = left.each k block was in
    let e : event ≡ get_or all (base + k * 1024 + (place - base) % 1024) event = read ∙ block_read 1024 all (base + k * 1024) ((place - base) % 1024) block event is (omega arith) in
    let at : base + k * 1024 + (place - base) % 1024 ≡ first + (place - first) = omega (arith, left.given_back) in
    slice_get_read (drop first all) (length all - first) (place - first) event (sym (length-drop first all)) (omega arith)
    (e ∙ ap (λ i. get_or all i event) at ∙ sym (get_or-drop first all (place - first) event))

pub copied : (events : List Event) (n : ℕ) (event : Event) → slice_get events n ≡ Some event → take (n + 1) events ≡ take n events ++ event ∷ []
copied events n event at = take_more events n event (slice_get_within events n event at) ∙ ap (λ e. take n events ++ e ∷ []) (get_or_from_slice_get events n event event at)

-- ---- one more block

pub left_block : (all : List Event) (len first base : ℕ) (old new : List (Vec Event Global)) (block : Vec Event Global) → IsLeft all len first base old → IsNewBlock 1024 block → new ≡ old ++ block ∷ [] → IsLeft all len first base new
left_block all len first base old new block left fresh is = subst (IsLeft all len first base) (sym is) (record {
  counted = left.counted;
  countable = left.countable;
  forgotten = left.forgotten;
  given_back = left.given_back;
  room = omega (arith, left.room, length-append old (block ∷ []));
  each = each_push (λ k b. IsBlock 1024 all (base + k * 1024) b) old block left.each
      (new_block 1024 all (base + length old * 1024) block (omega (arith, left.room, left.counted)) fresh);
})

-- ---- one more event

other_block : (all : List Event) (event : Event) (place : ℕ) (block : Vec Event Global) → (place + 1024 ≤ length all) ⊎ (length all < place) → IsBlock 1024 all place block → IsBlock 1024 (all ++ event ∷ []) place block
other_block all event place block (inl full) is = record {
  items_are = is.items_are ∙ sym (ap (take 1024) (drop-append-le place all (event ∷ []) (omega arith))
      ∙ take-append-le 1024 (drop place all) (event ∷ []) (omega (arith, length-drop place all)));
  room = is.room;
}
other_block all event place block (inr past) is = record {
  items_are = is.items_are ∙ ap (take 1024) (drop_all place all (omega arith) ∙ sym (drop_all place (all ++ event ∷ []) (omega (arith, length-append all (event ∷ [])))));
  room = is.room;
}

own_block : (all : List Event) (event : Event) (place : ℕ) (old new : Vec Event Global) → place ≤ length all → length all < place + 1024 → IsBlock 1024 all place old → new.items ≡ old.items ++ event ∷ [] → vec_capacity new ≡ vec_capacity old → IsBlock 1024 (all ++ event ∷ []) place new
own_block all event place old new there within is items room = record {
  items_are = items ∙ ap (λ l. l ++ event ∷ []) (is.items_are ∙ take_all 1024 (drop place all) (omega (arith, length-drop place all)))
      ∙ sym (ap (take 1024) (drop-append-le place all (event ∷ []) there)
      ∙ take_all 1024 (drop place all ++ event ∷ []) (omega (arith, length-drop place all, length-append (drop place all) (event ∷ []))));
  room = omega (arith, is.room, room);
}

apart : (len base k : ℕ) → base ≤ len → k ≢ (len - base) / 1024 → (base + k * 1024 + 1024 ≤ len) ⊎ (len < base + k * 1024)
apart len base k there other = elim (ltb k ((len - base) / 1024)) as (λ b. ltb k ((len - base) / 1024) ≡ b → (base + k * 1024 + 1024 ≤ len) ⊎ (len < base + k * 1024)) [
  | true ↦ λ e. inl (omega (arith, ltb-true k ((len - base) / 1024) e))
  | false ↦ λ e. let le = ltb-false k ((len - base) / 1024) e in
      let lt : (len - base) / 1024 < k = omega (arith, λ (h : k ≡ (len - base) / 1024). other h) in inr (omega arith)
] refl

pub left_event : (all : List Event) (event : Event) (len first base : ℕ) (blocks : List (Vec Event Global)) (old new : Vec Event Global) → IsLeft all len first base blocks → slice_get blocks ((len - base) / 1024) ≡ Some old → (len - base) / 1024 < length blocks → len + 1 < 2 ^ 64 → new.items ≡ old.items ++ event ∷ [] → vec_capacity new ≡ vec_capacity old → IsLeft (all ++ event ∷ []) (len + 1) first base (slice_set blocks ((len - base) / 1024) new)
left_event all event len first base blocks old new left was within fits items room =
    let k = (len - base) / 1024 in
    let there : base ≤ len = omega (arith, left.given_back, left.forgotten) in
    record {
      counted = omega (arith, left.counted, length-append all (event ∷ []));
      countable = fits;
      forgotten = omega (arith, left.forgotten);
      given_back = left.given_back;
      room = omega (arith, length-set blocks k new);
      each = each_set (λ j b. IsBlock 1024 all (base + j * 1024) b) (λ j b. IsBlock 1024 (all ++ event ∷ []) (base + j * 1024) b) blocks k new left.each
          (own_block all event (base + k * 1024) old new (omega (arith, left.counted)) (omega (arith, left.counted)) (left.each k old was) items room)
          (λ j b other is. other_block all event (base + j * 1024) b (subst (λ n. (base + j * 1024 + 1024 ≤ n) ⊎ (n < base + j * 1024)) left.counted (apart len base j there other)) is);
    }

-- ---- the first blocks given back

block_later : (blocks : List (Vec Event Global)) (n k : ℕ) (block : Vec Event Global) → slice_get (drop n blocks) k ≡ Some block → slice_get blocks (n + k) ≡ Some block
block_later blocks n k block e =
    let within : n + k < length blocks = omega (arith, slice_get_within (drop n blocks) k block e, length-drop n blocks) in
    slice_get_read blocks (length blocks) (n + k) block refl within (sym (get_or_from_slice_get (drop n blocks) k block block e) ∙ get_or-drop n blocks k block)

pub left_later : (all : List Event) (len first base place : ℕ) (old new : List (Vec Event Global)) → IsLeft all len first base old → first ≤ place → place ≤ len → new ≡ drop ((place - base) / 1024) old → IsLeft all len place (base + (place - base) / 1024 * 1024) new
left_later all len first base place old new left there within is =
    let n = (place - base) / 1024 in
    subst (IsLeft all len place (base + n * 1024)) (sym is) (record {
      counted = left.counted;
      countable = left.countable;
      forgotten = within;
      given_back = omega (arith, left.given_back);
      room = omega (arith, left.room, left.given_back, length-drop n old);
      each = λ k block e. subst (λ p. IsBlock 1024 all p block) (omega arith) (left.each (n + k) block (block_later old n k block e));
    })
