-- Empty lines are no head.
use Rattle.std.proofs.Common.{◌≡◌, ℕ, ◌<◌, ◌⊎◌, Bool, true, false, ◌&&◌, eqb, List, [], ◌∷◌, ◌++◌, All, IsTrue, length, refl, sym, ap, ◌∙◌, subst, arith, append_assoc, inl, inr, true≢false}
use Rattle.std.proofs.lemmas.List.Elements.{All-nil, All-cons, All-head, All-tail}
use Rattle.std.proofs.lemmas.Bool.{eqb-true}
use Rattle.httparse.specs.Grammar.{RequestHead, print_request, HasNoRequest, print_blank, print_version, print_end, print_section, is_token_byte}
use Rattle.up_wire.specs.Message.{IsBlank, is_crlfs}

-- a byte of a line end
abbrev pub IsEnd : ℕ → Type 0
IsEnd b = (b ≡ 13) ⊎ (b ≡ 10)

-- three tests that all hold
pub three_hold : (a b c : Bool) → ((a && b) && c) ≡ true → (a ≡ true) × (b ≡ true) × (c ≡ true)
three_hold true true true e = (refl, refl, refl)
three_hold true true false e = absurd (cc)
three_hold true false c e = absurd (cc)
three_hold false b c e = absurd (cc)

-- empty lines have no other bytes
pub blank_bytes : (text : List ℕ) → IsBlank text → All IsEnd text
blank_bytes [] blank = All-nil IsEnd
blank_bytes (a ∷ []) blank = absurd (cc)
blank_bytes (a ∷ b ∷ rest) blank =
    let parts = three_hold (eqb a 13) (eqb b 10) (is_crlfs rest) blank in
    All-cons IsEnd a (b ∷ rest) (inl (eqb-true a 13 parts.0)) (All-cons IsEnd b rest (inr (eqb-true b 10 parts.1)) (blank_bytes rest parts.2))

-- a fact of all bytes holds of one inside
inside : (front : List ℕ) (x : ℕ) (rest : List ℕ) → All IsEnd (front ++ x ∷ rest) → IsEnd x
inside [] x rest all = All-head IsEnd x rest all
inside (y ∷ front) x rest all = inside front x rest (All-tail IsEnd y (front ++ x ∷ rest) all)

-- nor is such a byte one of a method
no_token : (b : ℕ) → is_token_byte b ≡ true → IsEnd b → ⊥
unfolding is_token_byte
no_token b token (inl e) = true≢false (sym token ∙ ap is_token_byte e)
no_token b token (inr e) = true≢false (sym token ∙ ap is_token_byte e)

-- so there is no method among them
method_byte : (front method rest text : List ℕ) → text ≡ front ++ (method ++ rest) → 0 < length method → All (λ b. IsTrue (is_token_byte b)) method → All IsEnd text → ⊥
method_byte front [] rest text e some token all = absurd (omega arith)
method_byte front (m ∷ method) rest text e some token all =
    no_token m (All-head (λ b. IsTrue (is_token_byte b)) m method token) (inside front m (method ++ rest) (subst (All IsEnd) e all))

-- what is printed of a head behind its method
behind_method : RequestHead → List ℕ
behind_method head = (32 ∷ head.target) ++ ((32 ∷ print_version head.minor) ++ (print_end head.line_end ++ print_section head.fields head.last))

-- the parts of a head, from the first on
five : (a m t v e s : List ℕ) → ((((a ++ m) ++ t) ++ v) ++ e) ++ s ≡ a ++ (m ++ (t ++ (v ++ (e ++ s))))
five a m t v e s = simp append_assoc

-- a head is empty lines, the method and the rest
request_parts : (head : RequestHead) → print_request head ≡ print_blank head.blank ++ (head.method ++ behind_method head)
unfolding print_request behind_method
request_parts head =
    five (print_blank head.blank) head.method (32 ∷ head.target) (32 ∷ print_version head.minor) (print_end head.line_end) (print_section head.fields head.last)

-- bytes of line ends are no head
pub ends_have_none : (text : List ℕ) → All IsEnd text → HasNoRequest text
ends_have_none text ends head rest reads =
    let start = print_blank head.blank in
    let tail = behind_method head in
    method_byte start head.method (tail ++ rest) text
    (reads.1 ∙ ap (λ t. t ++ rest) (request_parts head) ∙ append_assoc start (head.method ++ tail) rest ∙ ap (λ l. start ++ l) (append_assoc head.method tail rest))
    reads.0.method.0 reads.0.method.1 ends

-- empty lines are no head
pub blank_has_none : (text : List ℕ) → IsBlank text → HasNoRequest text
blank_has_none text blank = ends_have_none text (blank_bytes text blank)
