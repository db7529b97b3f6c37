-- What is read of the places of a file.
use Rattle.std.proofs.Common.{◌≡◌, ℕ, ◌-◌, ◌*◌, ◌≤◌, List, [], ◌∷◌, ◌++◌, All, length, take, drop, min, refl, sym, ◌∙◌, ap, subst, arith}
use Rattle.std.proofs.lemmas.Grind.{common_steps}
use Rattle.std.proofs.lemmas.List.{get_or_push, length-drop, length-take, take-append-le}
use Rattle.std.proofs.lemmas.List.Elements.{All-get_or, All-take}
use Rattle.std.proofs.Math.Seq.{take-append_seam}
use Rattle.sqlite_disk.specs.declared.Disk.{Ghosts}
use Rattle.up_bodies.specs.Blocks.{HoldsBlocks, HoldsSpot, IsUntouched, WereTrue, block, block_len}
use Rattle.up_bodies.proofs.Held.{length_block, taken_block}
use Rattle.up_places.specs.Places.{BeginsWith, Spot, part_at}

module _ {X : Type 0} (P : X → Type 0) (xs : List X) (x : X) (all : All P (xs ++ x ∷ [])) where
  -- what holds of all holds of those before the last
  pub all_before : All P xs
  all_before = subst (All P) (take-append_seam xs (x ∷ [])) (All-take P (length xs) (xs ++ x ∷ []) all)

  pub all_last : P x
  all_last = subst P (get_or_push xs x x (length xs) refl) (All-get_or P (xs ++ x ∷ []) (length xs) x (grind (arith, common_steps)) all)

-- how long a part is
pub length_part : (index : ℕ) (bytes : List ℕ) → length (part_at index bytes) ≡ min (length bytes - 65_536 * index) 65_536
length_part index bytes =
    omega (arith, length-take 65_536 (drop (65_536 * index) bytes), length-drop (65_536 * index) bytes)

-- a buffer with room for each block, cut to the length of one
pub room_is : (index len : ℕ) (bytes room : List ℕ) → len ≡ block_len (length (part_at index bytes)) → len ≤ 65_544 → 65_544 ≤ length room
    → length (take len room) ≡ block_len (length (part_at index bytes))
room_is index len bytes room is few long = length-take len room ∙ omega (arith, few, long) ∙ is

-- a buffer that begins with a block begins with its bytes
pub block_begins : (seed : ℕ × ℕ) (at : ℕ) (bytes read rest : List ℕ) → read ≡ block seed at bytes → BeginsWith bytes (read ++ rest)
block_begins seed at bytes read rest is =
    ap (λ (l : List ℕ). take (length bytes) (l ++ rest)) is
    ∙ take-append-le (length bytes) (block seed at bytes) rest (omega (arith, length_block seed at bytes))
    ∙ taken_block seed at bytes

module _ {D : Type 0} (g : Ghosts D) (old new : D) (before after : ℕ × ℕ) (untouched : IsUntouched g old new) (same : after ≡ before)
    (spots asked : List Spot) (spot : Spot) (pushed : asked ≡ spots ++ spot ∷ []) (were : WereTrue g new after asked) where
  -- a file that is only read held before what it holds now
  all_held : All (HoldsSpot (g.seen old) before) (spots ++ spot ∷ [])
  all_held =
      subst (All (HoldsSpot (g.seen old) before)) pushed
      (subst (λ (k : ℕ × ℕ). All (HoldsSpot (g.seen old) k) asked) same
      (subst (λ (file : List ℕ). All (HoldsSpot file after) asked) untouched.seen were.1))

  pub were_true : WereTrue g old before spots
  were_true = (untouched.clean were.0, all_before (HoldsSpot (g.seen old) before) spots spot all_held)

  pub asked_held : (at : ℕ) → at ≡ spot.at → HoldsBlocks (g.seen old) before at spot.bytes
  asked_held at there =
      subst (λ (k : ℕ). HoldsBlocks (g.seen old) before k spot.bytes) (sym there)
      (all_last (HoldsSpot (g.seen old) before) spots spot all_held)
