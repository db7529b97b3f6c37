-- A head that stands at the front of some bytes ends in a line feed, and stands there whatever follows.
use Rattle.std.proofs.Common.{◌≡◌, ℕ, ◌+◌, ◌≤◌, List, [], ◌∷◌, ◌++◌, length, refl, sym, ap, ◌∙◌, arith, append_assoc, append-nil}
use Rattle.httparse.specs.Grammar.{LineEnd, crlf, lf, print_end, RequestHead, print_request, ReadsRequest, HasNoRequest, print_blank, print_version, print_field}
use Rattle.std.proofs.lemmas.List.{length-append}
use Rattle.std.specs.List.{flat_map}
use Rattle.up_wire.specs.Message.{IsHead}
use Rattle.up_wire.specs.Limits.{max_head, max_fields}

-- the last byte of a list, and those before it
pub last_of : (x : ℕ) (xs : List ℕ) → (front : List ℕ) × (b : ℕ) × (x ∷ xs ≡ front ++ b ∷ [])
last_of x [] = ([], x, refl)
last_of x (y ∷ ys) = let more = last_of y ys in (x ∷ more.0, more.1, ap (λ l. x ∷ l) more.2)

-- two lists with a byte behind each
pub snoc_parts : (a b : List ℕ) (x y : ℕ) → a ++ x ∷ [] ≡ b ++ y ∷ [] → (a ≡ b) × (x ≡ y)
snoc_parts [] [] x y e = (refl, cc)
snoc_parts [] (q ∷ []) x y e = absurd (cc)
snoc_parts [] (q ∷ r ∷ b) x y e = absurd (cc)
snoc_parts (p ∷ []) [] x y e = absurd (cc)
snoc_parts (p ∷ r ∷ a) [] x y e = absurd (cc)
snoc_parts (p ∷ a) (q ∷ b) x y e =
    let tail : a ++ x ∷ [] ≡ b ++ y ∷ [] = cc in
    let same : p ≡ q = cc in
    let more = snoc_parts a b x y tail in
    let front : a ≡ b = more.0 in
    (cc, more.1)

-- a head ends in a line feed
pub section_ends : (x f : List ℕ) (last : LineEnd) → (front : List ℕ) × (x ++ (f ++ print_end last) ≡ front ++ 10 ∷ [])
section_ends x f crlf = ((x ++ f) ++ 13 ∷ [], simp append_assoc)
section_ends x f lf = (x ++ f, simp append_assoc)

pub request_ends : (head : RequestHead) → (front : List ℕ) × (print_request head ≡ front ++ 10 ∷ [])
unfolding print_request
request_ends head =
    section_ends (print_blank head.blank ++ head.method ++ 32 ∷ head.target ++ 32 ∷ print_version head.minor ++ print_end head.line_end)
    (flat_map print_field head.fields) head.last

-- a head behind which something stands is there without its last byte too
pub head_before : (front : List ℕ) (b : ℕ) (head : RequestHead) (x : ℕ) (rest : List ℕ)
    → ReadsRequest (front ++ b ∷ []) head (x ∷ rest) → (shorter : List ℕ) × ReadsRequest front head shorter
head_before front b head x rest reads =
    let end = last_of x rest in
    let split : front ++ b ∷ [] ≡ (print_request head ++ end.0) ++ end.1 ∷ [] = reads.1 ∙ ap (λ l. print_request head ++ l) end.2 ∙ sym (append_assoc (print_request head) end.0 (end.1 ∷ [])) in
    (end.0, (reads.0, (snoc_parts front (print_request head ++ end.0) b end.1 split).0))

-- where there was no head, the next byte makes one only at its own end
pub head_is_whole : (front : List ℕ) (b : ℕ) (head : RequestHead) (rest : List ℕ)
    → HasNoRequest front → ReadsRequest (front ++ b ∷ []) head rest → rest ≡ []
head_is_whole front b head [] none reads = refl
head_is_whole front b head (x ∷ rest) none reads =
    let before = head_before front b head x rest reads in
    absurd (none head before.0 before.1)

-- and only a line feed does
pub no_head_yet : (front : List ℕ) (b : ℕ) → HasNoRequest front → (b ≡ 10 → ⊥) → HasNoRequest (front ++ b ∷ [])
no_head_yet front b none other head rest reads =
    let whole = head_is_whole front b head rest none reads in
    let ends = request_ends head in
    other (snoc_parts front ends.0 b 10 (reads.1 ∙ ap (λ r. print_request head ++ r) whole ∙ append-nil _ ∙ ends.1)).1

-- no bytes are no head
pub no_head_at_first : HasNoRequest []
no_head_at_first head rest reads =
    let ends = request_ends head in
    let long : length (print_request head) ≡ length ends.0 + 1 = ap length ends.1 ∙ length-append ends.0 (10 ∷ []) in
    let whole : 0 ≡ length (print_request head) + length rest = ap length reads.1 ∙ length-append (print_request head) rest in
    absurd (omega arith)

-- a head that stands alone is within the limits
pub head_alone : (text : List ℕ) (head : RequestHead) (rest : List ℕ)
    → ReadsRequest text head rest → rest ≡ [] → length text ≤ max_head → length head.fields ≤ max_fields → IsHead text head []
head_alone text head rest reads alone short few =
    let whole : text ≡ print_request head ++ [] = reads.1 ∙ ap (λ r. print_request head ++ r) alone in
    let long : length text ≡ length (print_request head) = ap length (whole ∙ append-nil _) in
    record { reads = (reads.0, whole); short = omega arith; few = few }
