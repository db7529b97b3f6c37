-- What is read of blocks.
use Rattle.std.proofs.Common.{◌≡◌, ◌≢◌, ◌⊎◌, inl, inr, ℕ, suc, ◌+◌, ◌≤◌, ◌<◌, List, [], ◌∷◌, ◌++◌, length, get_or, take, drop, Option, Some, None, refl, sym, ◌∙◌, ap, subst, arith, append_assoc, length-append}
use Rattle.std.specs.List.{flat_map}
use Rattle.std.proofs.lemmas.List.{append-nil, take_at, drop_at, drop-drop, length-drop, length-take, get_or-take}
use Rattle.std.proofs.lemmas.List.Concat.{flat_map-cons}
use Rattle.up_log.specs.declared.entry.Entry.{Entry}
use Rattle.up_log.specs.declared.fault.Unread.{Unread}
use Rattle.up_log.specs.declared.fault.Unread.TheVariants as unread
use Rattle.up_log.specs.Spelling.{word, entry, batch}
use Rattle.up_log.specs.Reading.{Fails, word_at, batch_at, whole_at}
use Rattle.up_log.specs.Blocks.{body, block, blocks, IsClosed}
use Rattle.up_log.specs.Held.{AreHeld, batch_back}
use Rattle.up_log.proofs.Again.{word_again, batch_spelled_back}
use Rattle.up_places.specs.Places.{Content}

some_same : {A : Type 0} (x y : A) → Some x ≡ Some y → x ≡ y
some_same x y e = cc

none_some : {A : Type 0} (x : A) → None ≡ Some x → ⊥
none_some x e = cc

pub length_word : (n : ℕ) → length (word n) ≡ 8
unfolding word
length_word n = refl

-- the first block, and what is behind it
pub split : (first : List Entry) (others : List (List Entry)) (back : List ℕ) → blocks (first ∷ others) ++ back ≡ 1 ∷ (body first ++ (blocks others ++ back))
split first others back = ap (λ (l : List ℕ). l ++ back) (flat_map-cons block first others) ∙ append_assoc (block first) (blocks others) back

-- without an open gate and something behind it there is no block
pub nothing : (batches : List (List Entry)) (back tail : List ℕ) → tail ≡ blocks batches ++ back → (length tail < 2) ⊎ (get_or tail 0 0 ≢ 1) → batches ≡ []
nothing [] back tail is none = refl
nothing (more ∷ others) back tail is (inl short) =
    absurd (omega (arith, ap length (is ∙ split more others back), length-append (body more) (blocks others ++ back), length-append (word (length (batch more))) (batch more), length_word (length (batch more))))
nothing (more ∷ others) back tail is (inr shut) = absurd (shut (ap (λ (l : List ℕ). get_or l 0 0) (is ∙ split more others back)))

-- without an open gate and something behind it the end is closed
pub nothing_open : (tail : List ℕ) → (length tail < 2) ⊎ (get_or tail 0 0 ≢ 1) → IsClosed tail
nothing_open [] none = tt
nothing_open (gate ∷ []) none = tt
nothing_open (gate ∷ next ∷ rest) (inl short) = absurd (omega (arith, short))
nothing_open (gate ∷ next ∷ rest) (inr shut) = shut

open_not : (back : List ℕ) → IsClosed back → 2 ≤ length back → get_or back 0 0 ≢ 1
open_not [] closed long = absurd (omega arith)
open_not (gate ∷ []) closed long = absurd (omega arith)
open_not (gate ∷ next ∷ rest) closed long = closed

pub something : (batches : List (List Entry)) (back tail : List ℕ) → tail ≡ blocks batches ++ back → IsClosed back → 2 ≤ length tail → get_or tail 0 0 ≡ 1
    → (first : List Entry) × (others : List (List Entry)) × (batches ≡ first ∷ others)
something [] back tail is closed long gate = absurd (open_not back closed (subst (λ (l : List ℕ). 2 ≤ length l) is long) (sym (ap (λ (l : List ℕ). get_or l 0 0) is) ∙ gate))
something (first ∷ others) back tail is closed long gate = (first, others, refl)

-- the byte that was read
pub first_byte : (tail bytes : List ℕ) → bytes ≡ take 1 tail → get_or bytes 0 0 ≡ get_or tail 0 0
first_byte tail bytes are = ap (λ (l : List ℕ). get_or l 0 0) are ∙ get_or-take 1 tail 0 0 (omega arith)

module _ (first : List Entry) (others : List (List Entry)) (back file : List ℕ) (gate : ℕ) (is : drop gate file ≡ blocks (first ∷ others) ++ back) where
  abbrev size : ℕ
  size = length (batch first)

  abbrev behind : List ℕ
  behind = blocks others ++ back

  begins : drop gate file ≡ (1 ∷ word size) ++ (batch first ++ behind)
  begins = is ∙ split first others back ∙ ap (λ (l : List ℕ). 1 ∷ l) (append_assoc (word size) (batch first) behind)

  after_gate : drop (gate + 1) file ≡ word size ++ (batch first ++ behind)
  after_gate = sym (drop-drop 1 gate file) ∙ ap (λ (l : List ℕ). drop 1 l) begins

  after_size : drop (gate + 9) file ≡ batch first ++ behind
  after_size = sym (drop-drop 9 gate file) ∙ ap (λ (l : List ℕ). drop 9 l) begins ∙ drop_at (1 ∷ word size) (batch first ++ behind) 9 (ap suc (length_word size))

  pub long_enough : gate + 9 + length (batch first) ≤ length file
  long_enough = omega (arith, length-drop gate file, ap length begins, length-append (1 ∷ word size) (batch first ++ behind), length_word size, length-append (batch first) behind)

  pub size_read : (bytes : List ℕ) → bytes ≡ take 8 (drop (gate + 1) file) → word_at bytes ≡ Some (length (batch first), [])
  size_read bytes are =
      ap word_at (are ∙ ap (λ (l : List ℕ). take 8 l) after_gate ∙ take_at (word size) (batch first ++ behind) 8 (length_word size) ∙ sym (append-nil (word size)))
      ∙ word_again size []

  pub size_is : (bytes : List ℕ) (n : ℕ) (rest : List ℕ) → bytes ≡ take 8 (drop (gate + 1) file) → word_at bytes ≡ Some (n, rest) → n ≡ length (batch first)
  size_is bytes n rest are read = ap (λ (p : ℕ × List ℕ). p.0) (some_same (n, rest) (length (batch first), []) (sym read ∙ size_read bytes are))

  pub size_reads : (bytes : List ℕ) → bytes ≡ take 8 (drop (gate + 1) file) → word_at bytes ≡ None → ⊥
  size_reads bytes are read = none_some (length (batch first), []) (sym read ∙ size_read bytes are)

  pub batch_is : (n : ℕ) → n ≡ length (batch first) → take n (drop (gate + 9) file) ≡ batch first
  batch_is n same = ap (λ (l : List ℕ). take n l) after_size ∙ take_at (batch first) behind n (sym same)

  pub goes_on : (n : ℕ) → n ≡ length (batch first) → drop (gate + 9 + n) file ≡ blocks others ++ back
  goes_on n same = sym (drop-drop n (gate + 9) file) ∙ ap (λ (l : List ℕ). drop n l) after_size ∙ drop_at (batch first) behind n (sym same)

-- a batch is read from its spelling
whole_again : (content : Content) (first : List Entry) → whole_at content (batch first) ≡ Some (batch_back content first)
unfolding whole_at
whole_again content first =
    let whole : batch_at content (batch first) ≡ Some (batch_back content first, []) = ap (batch_at content) (sym (append-nil (batch first))) ∙ batch_spelled_back content first [] in
    rw whole refl

pub batch_read : (content : Content) (first entries : List Entry) (bytes : List ℕ) → bytes ≡ batch first → whole_at content bytes ≡ Some entries → entries ≡ batch_back content first
batch_read content first entries bytes are read = some_same entries (batch_back content first) (sym read ∙ ap (whole_at content) are ∙ whole_again content first)

pub batch_reads : (content : Content) (first : List Entry) (bytes : List ℕ) → bytes ≡ batch first → whole_at content bytes ≡ None → ⊥
batch_reads content first bytes are read = none_some (batch_back content first) (sym read ∙ ap (whole_at content) are ∙ whole_again content first)

pub batch_nonempty : (first : List Entry) (n : ℕ) (bytes : List ℕ) → take n bytes ≡ batch first → n ≡ 0 → ⊥
batch_nonempty first n bytes is none =
    omega (arith, ap length is, length-take n bytes, none, length-append (word (length first)) (flat_map entry first), length_word (length first))

pub none_by : {X : Type 0} (fault : Unread) (read : Option X) → Fails fault read → fault ≡ unread.Damaged → read ≡ None
none_by fault read fails is = subst (λ (f : Unread). Fails f read) is fails

abbrev head_or : List (List Entry) → List Entry
head_or [] = []
head_or (first ∷ others) = first

-- what is read of the first of batches that are held
pub held_next : (content : Content) (first : List Entry) (others : List (List Entry)) → AreHeld content (first ∷ others) → batch_back content first ≡ first
held_next content first others held = ap (λ (l : List (List Entry)). head_or l) held

-- the others are held, too
pub held_left : (content : Content) (first : List Entry) (others : List (List Entry)) → AreHeld content (first ∷ others) → AreHeld content others
held_left content first others held = ap (λ (l : List (List Entry)). drop 1 l) held
