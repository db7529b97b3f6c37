-- A head, and a section of fields, are whole only behind an empty line, by CRLF or by a line feed alone.
use Rattle.std.proofs.Common.{◌≡◌, ◌≢◌, ℕ, ◌<◌, ◌≤◌, ◌⊎◌, Bool, true, false, ◌&&◌, eqb, List, [], ◌∷◌, ◌++◌, All, length, refl, sym, ap, ◌∙◌, subst, arith, append_assoc, append-nil, inl, inr}
use Rattle.std.proofs.lemmas.List.Elements.{All-nil, All-cons, All-head, All-tail, All-append}
use Rattle.std.proofs.lemmas.Bool.{eqb-true}
use Rattle.std.specs.List.{flat_map}
use Rattle.std.specs.Bool.{beq}
use Rattle.httparse.specs.Grammar.{LineEnd, crlf, lf, print_end, print_blank, print_version, Field, print_field, print_section, ReadsSection, HasNoSection, RequestHead, print_request, ReadsRequest, HasNoRequest}
use Rattle.up_wire.specs.Device.{HasNoFeed, IsEndedLine}
use Rattle.up_wire.specs.declared.body.BodyEnd.{BodyEnd}
use Rattle.up_wire.specs.Chunks.{AreOpenTrailers, AreBadTrailers}
use Rattle.up_wire.specs.Steps.{is_line_end, IsStop, IsStopBehind}
use Rattle.up_wire.specs.Message.{IsHead, Ending}
use Rattle.up_wire.specs.Limits.{max_head, max_fields}
use Rattle.up_wire.proofs.Heads.{snoc_parts, head_is_whole, no_head_yet, head_alone}
use Rattle.up_wire.proofs.Lines.{last_byte, no_feed_at_end}
use Rattle.up_wire.proofs.BlankLines.{IsEnd, ends_have_none}
use Rattle.up_wire.proofs.ChunkedTexts.{section_is_whole, no_section_yet}

-- ---- the last line of a head

-- a line end behind something
end_behind : (a : List ℕ) (e : LineEnd) → (front : List ℕ) × (a ++ print_end e ≡ front ++ 10 ∷ [])
end_behind a crlf = (a ++ 13 ∷ [], simp append_assoc)
end_behind a lf = (a, refl)

-- field lines end in a line feed, where there are some
fields_end : (fields : List Field) → (fields ≡ []) ⊎ ((front : List ℕ) × (flat_map print_field fields ≡ front ++ 10 ∷ []))
fields_end [] = inl refl
fields_end (f ∷ fields) =
    elim (fields_end fields) [
      | inl none ↦ let end = end_behind (f.name ++ 58 ∷ f.raw) f.end in
          inr (end.0, ap (λ fs. print_field f ++ flat_map print_field fs) none ∙ append-nil (print_field f) ∙ end.1)
      | inr more ↦ inr (print_field f ++ more.0, ap (λ l. print_field f ++ l) more.1 ∙ sym (append_assoc (print_field f) more.0 (10 ∷ [])))
    ]

-- the empty line stands behind a line
behind_line : (a : List ℕ) (fields : List Field) (last : LineEnd) → (front : List ℕ) × (a ≡ front ++ 10 ∷ [])
    → (front : List ℕ) × (a ++ (flat_map print_field fields ++ print_end last) ≡ (front ++ 10 ∷ []) ++ print_end last)
behind_line a fields last start =
    elim (fields_end fields) [
      | inl none ↦ (start.0, ap (λ fs. a ++ (flat_map print_field fs ++ print_end last)) none ∙ ap (λ l. l ++ print_end last) start.1)
      | inr more ↦ (
        a ++ more.0,
        ap (λ l. a ++ (l ++ print_end last)) more.1 ∙ sym (append_assoc a (more.0 ++ 10 ∷ []) (print_end last))
            ∙ ap (λ l. l ++ print_end last) (sym (append_assoc a more.0 (10 ∷ []))),
      )
    ]

-- an empty line ends a head
pub head_ends : (head : RequestHead) → (front : List ℕ) × (print_request head ≡ (front ++ 10 ∷ []) ++ print_end head.last)
unfolding print_request
head_ends head =
    let start = print_blank head.blank ++ head.method ++ 32 ∷ head.target ++ 32 ∷ print_version head.minor in
    behind_line (start ++ print_end head.line_end) head.fields head.last (end_behind start head.line_end)

-- ---- a line that isn't empty

-- some of a line
front_none : (front : List ℕ) (b : ℕ) → HasNoFeed (front ++ b ∷ []) → HasNoFeed front
front_none [] b all = All-nil (λ c. c ≢ 10)
front_none (y ∷ front) b all =
    All-cons (λ c. c ≢ 10) y front (All-head (λ c. c ≢ 10) y (front ++ b ∷ []) all) (front_none front b (All-tail (λ c. c ≢ 10) y (front ++ b ∷ []) all))

-- a line that isn't empty has a byte before its end
some_before : (line : List ℕ) → is_line_end (line ++ 10 ∷ []) ≡ false → line ≡ [] → ⊥
some_before line other none = let both : true ≡ false = sym (ap (λ l. is_line_end (l ++ 10 ∷ [])) none) ∙ other in cc both

-- and another than the carriage return
other_before : (line : List ℕ) → is_line_end (line ++ 10 ∷ []) ≡ false → line ≡ 13 ∷ [] → ⊥
other_before line other is = let both : true ≡ false = sym (ap (λ l. is_line_end (l ++ 10 ∷ [])) is) ∙ other in cc both

-- so an empty line isn't what ends with it
pub line_inside : (text line front : List ℕ) (last : LineEnd) → HasNoFeed line → is_line_end (line ++ 10 ∷ []) ≡ false
    → text ++ (line ++ 10 ∷ []) ≡ (front ++ 10 ∷ []) ++ print_end last → ⊥
line_inside text line front lf none other e =
    let parts = snoc_parts (text ++ line) (front ++ 10 ∷ []) 10 10 (append_assoc text line (10 ∷ []) ∙ e) in
    no_feed_at_end text line front none (some_before line other) parts.0
line_inside text line front crlf none other e =
    let cr = (front ++ 10 ∷ []) ++ 13 ∷ [] in
    let parts = snoc_parts (text ++ line) cr 10 10 (append_assoc text line (10 ∷ []) ∙ e ∙ sym (append_assoc (front ++ 10 ∷ []) (13 ∷ []) (10 ∷ []))) in
    let end = last_byte line none (some_before line other) in
    let more = snoc_parts (text ++ end.0) (front ++ 10 ∷ []) end.1 13 (append_assoc text end.0 (end.1 ∷ []) ∙ ap (λ l. text ++ l) (sym end.2) ∙ parts.0) in
    let is_one : end.0 ≡ [] → ⊥ = λ none. other_before line other (end.2 ∙ ap (λ l. l ++ end.1 ∷ []) none ∙ ap (λ b. b ∷ []) more.1) in
    no_feed_at_end text end.0 front (front_none end.0 end.1 (subst HasNoFeed end.2 none)) is_one more.0

-- ---- heads

-- bytes that end no line make no head
pub part_no_head : (text part : List ℕ) → HasNoRequest text → HasNoFeed part → HasNoRequest (text ++ part)
part_no_head text [] none all = subst HasNoRequest (sym (append-nil text)) none
part_no_head text (b ∷ part) none all =
    subst HasNoRequest (append_assoc text (b ∷ []) part)
    (part_no_head (text ++ b ∷ []) part (no_head_yet text b none (All-head (λ c. c ≢ 10) b part all)) (All-tail (λ c. c ≢ 10) b part all))

-- a line makes a head only at its own end
pub head_at_line : (text line : List ℕ) (head : RequestHead) (rest : List ℕ) → HasNoRequest text → IsEndedLine line → ReadsRequest (text ++ line) head rest → rest ≡ []
head_at_line text line head rest none (front, e, all) reads =
    let same : text ++ line ≡ (text ++ front) ++ 10 ∷ [] = ap (λ l. text ++ l) e ∙ sym (append_assoc text front (10 ∷ [])) in
    head_is_whole (text ++ front) 10 head rest (part_no_head text front none all) (reads.0, sym same ∙ reads.1)

-- and only an empty line does
pub line_no_head : (text line : List ℕ) → HasNoRequest text → IsEndedLine line → is_line_end line ≡ false → HasNoRequest (text ++ line)
line_no_head text line none (front, e, all) other head rest reads =
    let whole = head_at_line text line head rest none (front, e, all) reads in
    let end = head_ends head in
    line_inside text front end.0 head.last all (sym (ap is_line_end e) ∙ other)
    (ap (λ l. text ++ l) (sym e) ∙ reads.1 ∙ ap (λ r. print_request head ++ r) whole ∙ append-nil (print_request head) ∙ end.1)

-- ---- sections

-- of nothing, or of one byte, some stands last
nil_behind : (text line : List ℕ) → text ++ line ≡ [] → line ≡ []
nil_behind [] line e = e
nil_behind (t ∷ text) line e = absurd (cc)

one_behind : (text line : List ℕ) → text ++ line ≡ 13 ∷ [] → (line ≡ []) ⊎ (line ≡ 13 ∷ [])
one_behind [] line e = inr e
one_behind (t ∷ []) line e = let rest : line ≡ [] = cc in inl rest
one_behind (t ∷ u ∷ text) line e = absurd (cc)

-- an empty line alone
alone : (text line : List ℕ) (last : LineEnd) → is_line_end (line ++ 10 ∷ []) ≡ false → text ++ (line ++ 10 ∷ []) ≡ print_end last → ⊥
alone text line lf other e =
    some_before line other (nil_behind text line (snoc_parts (text ++ line) [] 10 10 (append_assoc text line (10 ∷ []) ∙ e)).0)
alone text line crlf other e =
    elim (one_behind text line (snoc_parts (text ++ line) (13 ∷ []) 10 10 (append_assoc text line (10 ∷ []) ∙ e)).0) [
      | inl none ↦ some_before line other none
      | inr cr ↦ other_before line other cr
    ]

-- the empty line ends a section, first or behind a line
section_ends_so : (text line : List ℕ) (fields : List Field) (last : LineEnd) → HasNoFeed line → is_line_end (line ++ 10 ∷ []) ≡ false
    → text ++ (line ++ 10 ∷ []) ≡ print_section fields last → ⊥
section_ends_so text line fields last none other e =
    elim (fields_end fields) [
      | inl empty ↦ alone text line last other (e ∙ ap (λ fs. flat_map print_field fs ++ print_end last) empty)
      | inr more ↦ line_inside text line more.0 last none other (e ∙ ap (λ l. l ++ print_end last) more.1)
    ]

-- bytes that end no line make no section
pub part_no_section : (text part : List ℕ) → HasNoSection text → HasNoFeed part → HasNoSection (text ++ part)
part_no_section text [] none all = subst HasNoSection (sym (append-nil text)) none
part_no_section text (b ∷ part) none all =
    subst HasNoSection (append_assoc text (b ∷ []) part)
    (part_no_section (text ++ b ∷ []) part (no_section_yet text b none (All-head (λ c. c ≢ 10) b part all)) (All-tail (λ c. c ≢ 10) b part all))

-- a line makes a section only at its own end
pub section_at_line : (text line : List ℕ) (fields : List Field) (last : LineEnd) (rest : List ℕ) → HasNoSection text → IsEndedLine line
    → ReadsSection (text ++ line) fields last rest → rest ≡ []
section_at_line text line fields last rest none (front, e, all) reads =
    let same : text ++ line ≡ (text ++ front) ++ 10 ∷ [] = ap (λ l. text ++ l) e ∙ sym (append_assoc text front (10 ∷ [])) in
    section_is_whole (text ++ front) 10 fields last rest (part_no_section text front none all) (reads.0, sym same ∙ reads.1)

-- and only an empty line does
pub line_no_section : (text line : List ℕ) → HasNoSection text → IsEndedLine line → is_line_end line ≡ false → HasNoSection (text ++ line)
line_no_section text line none (front, e, all) other fields last rest reads =
    let whole = section_at_line text line fields last rest none (front, e, all) reads in
    section_ends_so text front fields last all (sym (ap is_line_end e) ∙ other)
    (ap (λ l. text ++ l) (sym e) ∙ reads.1 ∙ ap (λ r. print_section fields last ++ r) whole ∙ append-nil (print_section fields last))

-- ---- empty lines before a head

-- a line that is empty has no other bytes
empty_ends : (line : List ℕ) → is_line_end line ≡ true → All IsEnd line
empty_ends [] is = absurd (cc)
empty_ends (a ∷ []) is = All-cons IsEnd a [] (inr (eqb-true a 10 is)) (All-nil IsEnd)
empty_ends (a ∷ b ∷ []) is =
    let parts = both_hold (eqb a 13) (eqb b 10) is in
    All-cons IsEnd a (b ∷ []) (inl (eqb-true a 13 parts.0)) (All-cons IsEnd b [] (inr (eqb-true b 10 parts.1)) (All-nil IsEnd))
  where
    both_hold : (a b : Bool) → (a && b) ≡ true → (a ≡ true) × (b ≡ true)
    both_hold true true e = (refl, refl)
    both_hold true false e = absurd (cc)
    both_hold false b e = absurd (cc)
empty_ends (a ∷ b ∷ c ∷ rest) is = absurd (cc)

-- one empty line more
pub blank_more : (text line : List ℕ) → All IsEnd text → is_line_end line ≡ true → All IsEnd (text ++ line)
blank_more text line all is = All-append IsEnd text line all (empty_ends line is)

-- ---- a head that is read line by line

-- a head behind a line is within the limits
pub whole_head : (text line : List ℕ) (head : RequestHead) (rest : List ℕ) → HasNoRequest text → IsEndedLine line → length (text ++ line) ≤ max_head
    → ReadsRequest (text ++ line) head rest → length head.fields ≤ max_fields → IsHead (text ++ line) head []
whole_head text line head rest none is short reads few =
    head_alone (text ++ line) head rest reads (head_at_line text line head rest none is reads) short few

-- neither a line in a head nor an empty one before it makes a head
pub line_waits : (text line : List ℕ) (is_begun is_empty : Bool) → is_empty ≡ is_line_end line → (is_begun ≡ is_empty → ⊥) → HasNoRequest text
    → (is_begun ≡ false → All IsEnd text) → IsEndedLine line → HasNoRequest (text ++ line) × (is_begun ≡ false → All IsEnd (text ++ line))
line_waits text line true true is other none blank ended = absurd (other refl)
line_waits text line true false is other none blank ended = (line_no_head text line none ended (sym is), λ e. absurd (cc))
line_waits text line false true is other none blank ended =
    let more = blank_more text line (blank refl) (sym is) in (ends_have_none (text ++ line) more, λ e. more)
line_waits text line false false is other none blank ended = absurd (other refl)

-- two truths that a test finds apart
pub not_same : (a b : Bool) → beq a b ≡ false → a ≡ b → ⊥
not_same true true apart same = let both : true ≡ false = apart in cc both
not_same true false apart same = cc same
not_same false true apart same = cc same
not_same false false apart same = let both : true ≡ false = apart in cc both

-- ---- trailers that break off

-- behind lines that may become a section, or that don't
pub trailers_stop : (text part : List ℕ) (ending : Ending) (stop result : BodyEnd) → IsStopBehind text stop result → HasNoSection text → HasNoFeed part
    → length (text ++ part) < max_head → (AreOpenTrailers (text ++ part) → IsStop ending (AreOpenTrailers (text ++ part)) (AreBadTrailers (text ++ part)) stop)
    → IsStop ending (AreOpenTrailers (text ++ part)) (AreBadTrailers (text ++ part)) result
trailers_stop text part ending stop result (inl (is, may)) none all short so =
    subst (IsStop ending (AreOpenTrailers (text ++ part)) (AreBadTrailers (text ++ part))) (sym is)
    (so (part_no_section text part none all, short, (text, part, refl, all, may)))
trailers_stop text part ending stop result (inr (is, inl never)) none all short so =
    subst (IsStop ending (AreOpenTrailers (text ++ part)) (AreBadTrailers (text ++ part))) (sym is)
    (omega arith, inl (λ more. subst HasNoSection (sym (append_assoc text part more)) (never (part ++ more))))
trailers_stop text part ending stop result (inr (is, inr exceeds)) none all short so =
    subst (IsStop ending (AreOpenTrailers (text ++ part)) (AreBadTrailers (text ++ part))) (sym is)
    (omega arith, inr (inl (exceeds.0, exceeds.1 ++ part, ap (λ l. l ++ part) exceeds.2 ∙ append_assoc exceeds.0 exceeds.1 part, exceeds.3, exceeds.4, exceeds.5)))
