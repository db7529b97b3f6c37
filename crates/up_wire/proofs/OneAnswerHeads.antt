-- Empty lines begin no head with too many fields, and a whole head has no front with too many.
use Rattle.std.proofs.Common.{◌≡◌, ℕ, ◌+◌, ◌≤◌, eqb, List, [], ◌∷◌, ◌++◌, All, length, refl, sym, ap, ◌∙◌, subst, arith, append-nil, append_assoc, inr}
use Rattle.std.proofs.lemmas.List.{length-append}
use Rattle.std.proofs.lemmas.List.Elements.{All-nil, All-cons, All-head, All-tail, All-append}
use Rattle.std.proofs.lemmas.Bool.{eqb-true}
use Rattle.httparse.specs.Grammar.{LineEnd, crlf, lf, RequestHead, IsRequestHead, print_request, ReadsRequest, NeverHasRequest, print_blank, print_field, print_version, print_end, print_section}
use Rattle.httparse.specs.Pieces.{RequestStart, Section}
use Rattle.httparse.specs.Spans.{RequestExceeds}
use Rattle.httparse.proofs.GrammarLemmas.{request_head, request_pieces, request_from_pieces, print_request-append}
use Rattle.httparse.proofs.PieceLemmas.{RequestStart_deterministic, Section_skip, Stops_token}
use Rattle.httparse.proofs.OpenLemmas.{Completes_first, line_blank, some_section}
use Rattle.up_wire.specs.Message.{IsBlank, is_crlfs}
use Rattle.up_wire.specs.Limits.{max_fields}
use Rattle.up_wire.proofs.BlankLines.{IsEnd, three_hold, blank_bytes, ends_have_none}
use Rattle.up_wire.proofs.Heads.{snoc_parts}
use Rattle.std.specs.List.{flat_map}

-- ---- empty lines

-- empty lines are not the front of a head with too many fields
front_ends : (front rest : List ℕ) → All IsEnd (front ++ rest) → All IsEnd front
front_ends [] rest all = All-nil IsEnd
front_ends (x ∷ front) rest all =
    All-cons IsEnd x front (All-head IsEnd x (front ++ rest) all) (front_ends front rest (All-tail IsEnd x (front ++ rest) all))

-- nor have they too many fields
pub blank_not_exceeds : (all : List ℕ) → IsBlank all → RequestExceeds max_fields all → ⊥
blank_not_exceeds all blank f =
    let ends = front_ends f.0 f.1 (subst (All IsEnd) f.2 (blank_bytes all blank)) in
    ends_have_none (f.0 ++ 10 ∷ []) (All-append IsEnd f.0 (10 ∷ []) ends (All-cons IsEnd 10 [] (inr refl) (All-nil IsEnd))) f.3 [] f.4

-- a head can follow them
blank_lines : (text : List ℕ) → IsBlank text → (ends : List LineEnd) × (text ≡ print_blank ends)
blank_lines [] blank = ([], refl)
blank_lines (a ∷ []) blank = absurd (cc)
blank_lines (a ∷ b ∷ rest) blank =
    let parts = three_hold (eqb a 13) (eqb b 10) (is_crlfs rest) blank in
    let more = blank_lines rest parts.2 in
    let first : a ≡ 13 = eqb-true a 13 parts.0 in
    let second : b ≡ 10 = eqb-true b 10 parts.1 in
    (crlf ∷ more.0, λ i. first i ∷ second i ∷ more.1 i)

-- so one is not impossible behind a front of them
pub blank_not_never : (text more : List ℕ) → IsBlank (text ++ more) → NeverHasRequest text → ⊥
blank_not_never text more blank never =
    let lines = blank_lines (text ++ more) blank in
    let whole = Completes_first (line_blank (record { more = []; tree = lines.0; reads = λ rest. ap (λ t. t ++ rest) lines.1 })) some_section in
    let reads = request_from_pieces _ whole.tree [] (whole.reads []) in
    never (more ++ (whole.more ++ [])) (request_head whole.tree) []
    (subst (λ t. ReadsRequest t (request_head whole.tree) []) (append_assoc text more (whole.more ++ [])) reads)

-- ---- a whole head with few fields, and a front that has too many

-- a head up to its fields, and then this
start_of : RequestHead → List ℕ → List ℕ
start_of h tail =
    print_blank h.blank ++ (h.method ++ 32 ∷ (h.target ++ 32 ∷ (print_version h.minor ++ (print_end h.line_end ++ tail))))

-- a line end ends in a line feed
end_parts : (last : LineEnd) → (x : List ℕ) × (print_end last ≡ x ++ 10 ∷ [])
end_parts crlf = (13 ∷ [], refl)
end_parts lf = ([], refl)

-- more bytes behind it
start_more : (h : RequestHead) (a b : List ℕ) → start_of h (a ++ b) ≡ start_of h a ++ b
unfolding start_of
start_more h a b = regroup (print_blank h.blank) h.method h.target (print_version h.minor) (print_end h.line_end)
  where
    regroup : (p q r s t : List ℕ) → p ++ (q ++ 32 ∷ (r ++ 32 ∷ (s ++ (t ++ (a ++ b))))) ≡ (p ++ (q ++ 32 ∷ (r ++ 32 ∷ (s ++ (t ++ a))))) ++ b
    regroup p q r s t = simp append_assoc

-- it is a start line for the parser
start_pieces : (h : RequestHead) → IsRequestHead h → (text tail : List ℕ) → text ≡ start_of h tail
    → RequestStart (h.blank, (h.method, (h.target, (h.minor, h.line_end)))) text tail
unfolding start_of
start_pieces h is text tail e = (
  _,
  (e, Stops_token h.method _ is.method.0 is.method.1),
  (_, (is.method.0, is.method.1, refl), (_, ((is.target.0, is.target.1, refl), is.target_text), (_, (is.minor, refl), refl))),
)

-- the front is a start line, field lines and at most a carriage return
exceeding_front : (front : List ℕ) (h : RequestHead) → front ++ 10 ∷ [] ≡ print_request h ++ []
    → (x : List ℕ) × (front ≡ start_of h (flat_map print_field h.fields ++ x))
unfolding start_of
exceeding_front front h e =
    let lines = flat_map print_field h.fields in
    let end = end_parts h.last in
    let tail : print_section h.fields h.last ++ [] ≡ (lines ++ end.0) ++ 10 ∷ [] =
    append-nil _ ∙ ap (λ t. lines ++ t) end.1 ∙ sym (append_assoc lines end.0 (10 ∷ [])) in
    let whole : front ++ 10 ∷ [] ≡ start_of h ((lines ++ end.0) ++ 10 ∷ []) = e ∙ print_request-append h [] ∙ ap (start_of h) tail in
    (end.0, (snoc_parts front (start_of h (lines ++ end.0)) 10 10 (whole ∙ start_more h (lines ++ end.0) (10 ∷ []))).0)

-- a whole head with few fields has no front with too many
pub few_not_exceeds : (room : ℕ) (all : List ℕ) (h : RequestHead) (behind : List ℕ) → ReadsRequest all h behind → length h.fields ≤ room
    → RequestExceeds room all → ⊥
few_not_exceeds room all h behind reads few (front, rest, e, k, exceeding, many) =
    let lines = flat_map print_field k.fields in
    let split = exceeding_front front k exceeding.1 in
    let text : all ≡ start_of k (lines ++ (split.0 ++ rest)) =
    e ∙ ap (λ t. t ++ rest) split.1 ∙ sym (start_more k (lines ++ split.0) rest) ∙ ap (start_of k) (append_assoc lines split.0 rest) in
    let pieces = request_pieces all h behind reads in
    let same = RequestStart_deterministic.unique _ _ all pieces.0 _ pieces.1 (start_pieces k exceeding.0 all (lines ++ (split.0 ++ rest)) text) in
    let skipped = Section_skip k.fields h.fields h.last (lines ++ (split.0 ++ rest)) (split.0 ++ rest) behind (exceeding.0.fields, refl)
    (subst (λ t. Section (h.fields, h.last) t behind) same.1 pieces.2) in
    let more : length h.fields ≡ length k.fields + length skipped.0 = ap length skipped.1 ∙ length-append k.fields skipped.0 in
    absurd (omega (arith, few, many, more))
