-- How a chunked text stops behind whole chunks: in one way, but for what is left open.
use Rattle.std.proofs.Common.{◌≡◌, ℕ, ◌+◌, ◌<◌, ◌≤◌, ◌⊎◌, List, [], ◌∷◌, ◌++◌, length, refl, sym, ap, ◌∙◌, subst, arith, append-nil, append_assoc, inl, inr}
use Rattle.std.proofs.lemmas.List.{length-append}
use Rattle.std.specs.List.{flat_map}
use Rattle.httparse.specs.Ascii.{crlf_bytes}
use Rattle.httparse.specs.Grammar.{LineEnd, Field, print_field, ChunkLine, print_chunk_line, chunk_size, ReadsChunkLine, NeverHasChunkLine, ReadsSection, NeverHasSection}
use Rattle.httparse.specs.Spans.{SectionExceeds}
use Rattle.httparse.proofs.GrammarLemmas.{section_unique, ReadsSection-append}
use Rattle.httparse.proofs.ChunkLemmas.{chunk_line_unique}
use Rattle.httparse.proofs.PieceLemmas.{Section_skip}
use Rattle.up_wire.specs.Chunks.{IsLine, IsTrailers, IsOpenLine, IsBadLine, IsOpenEnd, IsBadEnd, AreOpenTrailers, AreBadTrailers}
use Rattle.up_wire.specs.Limits.{max_fields}
use Rattle.up_wire.proofs.Heads.{snoc_parts}
use Rattle.up_wire.proofs.ChunkedTexts.{no_line}
use Rattle.up_wire.proofs.OneAnswerTexts.{front_of, same_front}

-- whole, with this behind it; broken off, with these bytes of one more chunk; or wrong
pub data Stopped : Type 0 where
  whole : List ℕ → Stopped
  broken : List ℕ → Stopped
  wrong large : Stopped

-- no chunk line stands there
pub data HasNoLine (text : List ℕ) : Stopped → Type 0 where
  open_line : IsOpenLine text → HasNoLine text (broken [])
  bad_line : (part rest : List ℕ) → text ≡ part ++ rest → IsBadLine part → HasNoLine text wrong

-- behind the line of size 0
pub data IsAtLast (text : List ℕ) : Stopped → Type 0 where
  trailers : (part rest : List ℕ) → text ≡ part ++ rest → IsTrailers part → IsAtLast text (whole rest)
  open_trailers : AreOpenTrailers text → IsAtLast text (broken [])
  bad_trailers : (part rest : List ℕ) → text ≡ part ++ rest → AreBadTrailers part → IsAtLast text wrong

-- behind the line of a chunk
pub data IsInChunk (size : ℕ) (text : List ℕ) : Stopped → Type 0 where
  short_chunk : length text < size → IsInChunk size text (broken text)
  open_end : (part end : List ℕ) → text ≡ part ++ end → length part ≡ size → IsOpenEnd end → IsInChunk size text (broken part)
  bad_end : (part end rest : List ℕ) → text ≡ part ++ (end ++ rest) → length part ≡ size → IsBadEnd end → IsInChunk size text wrong

-- behind a line of that size, where so many bytes are done
pub data IsBehindLine (limit done size : ℕ) (text : List ℕ) : Stopped → Type 0 where
  at_last : (s : Stopped) → size ≡ 0 → IsAtLast text s → IsBehindLine limit done size text s
  at_large : limit < done + size → IsBehindLine limit done size text large
  in_chunk : (s : Stopped) → 0 < size → done + size ≤ limit → IsInChunk size text s → IsBehindLine limit done size text s

-- behind whole chunks
pub data IsStopped (limit done : ℕ) (text : List ℕ) (s : Stopped) : Type 0 where
  no_line_there : HasNoLine text s → IsStopped limit done text s
  behind_line : (line : ChunkLine) (rest : List ℕ) → text ≡ print_chunk_line line ++ rest → IsLine line
      → IsBehindLine limit done (chunk_size line) rest s → IsStopped limit done text s

-- ---- what two of them make of each other

-- the one breaks off, and the other is wrong
abbrev pub IsBrokenBesideWrong : Stopped → Stopped → Type 0
IsBrokenBesideWrong a b = (part : List ℕ) × (a ≡ broken part) × (b ≡ wrong)

-- they are the same, or left open
abbrev pub AreAlike : Type 0 → Stopped → Stopped → Type 0
AreAlike opens a b = (a ≡ b) ⊎ (opens × (IsBrokenBesideWrong a b ⊎ IsBrokenBesideWrong b a))

-- left open for another reason
pub alike_so : (P Q : Type 0) (a b : Stopped) → (P → Q) → AreAlike P a b → AreAlike Q a b
alike_so P Q a b so (inl same) = inl same
alike_so P Q a b so (inr (opens, beside)) = inr (so opens, beside)

-- ---- no line

-- what is no line stays so behind more bytes
line_longer : (text part rest : List ℕ) → text ≡ part ++ rest → NeverHasChunkLine part → NeverHasChunkLine text
line_longer text part rest e never more line behind reads =
    never (rest ++ more) line behind
    (subst (λ t. ReadsChunkLine t line behind) (ap (λ t. t ++ more) e ∙ append_assoc part rest more) reads)

-- a line that nothing completes breaks off, or is wrong
abbrev pub IsOpenAtLine : List ℕ → Type 0
IsOpenAtLine text = IsOpenLine text × NeverHasChunkLine text

-- a line that is both
open_bad_line : (text part rest : List ℕ) → IsOpenLine text → text ≡ part ++ rest → IsBadLine part → IsOpenAtLine text
open_bad_line text part rest opens e (short, inl never) = (opens, line_longer text part rest e never)
open_bad_line text part rest (none, few) e (short, inr (long, nothing)) =
    let whole : length text ≡ length part + length rest = ap length e ∙ length-append part rest in
    absurd (omega (arith, few, long, whole))

-- no line, said in two ways
one_without_line : (text : List ℕ) (a b : Stopped) → HasNoLine text a → HasNoLine text b → AreAlike (IsOpenAtLine text) a b
one_without_line text a b (open_line x) (open_line y) = inl refl
one_without_line text a b (open_line x) (bad_line part rest e y) = inr (open_bad_line text part rest x e y, inl ([], refl, refl))
one_without_line text a b (bad_line part rest e x) (open_line y) = inr (open_bad_line text part rest y e x, inr ([], refl, refl))
one_without_line text a b (bad_line part rest e x) (bad_line other more f y) = inl refl

-- a bad line is no line
bad_line_excludes : (text part rest : List ℕ) (line : ChunkLine) (behind : List ℕ) → text ≡ part ++ rest → IsBadLine part
    → text ≡ print_chunk_line line ++ behind → IsLine line → ⊥
bad_line_excludes text part rest line behind e (short, inl never) f is = never rest line behind (is.valid, sym e ∙ f)
bad_line_excludes text part rest line behind e (short, inr (long, none)) f is =
    let few = is.short in
    let split = front_of part (print_chunk_line line) rest behind (sym e ∙ f) (omega (arith, long, few)) in
    none line split.0 (is.valid, split.1)

-- a line is there or not
pub line_excludes : (text : List ℕ) (s : Stopped) (line : ChunkLine) (behind : List ℕ) → HasNoLine text s
    → text ≡ print_chunk_line line ++ behind → IsLine line → ⊥
line_excludes text s line behind (open_line (none, few)) f is = no_line text none line behind (is.valid, f)
line_excludes text s line behind (bad_line part rest e bad) f is = bad_line_excludes text part rest line behind e bad f is

-- ---- trailers

-- what is no section stays so behind more bytes
section_longer : (text part rest : List ℕ) → text ≡ part ++ rest → NeverHasSection part → NeverHasSection text
section_longer text part rest e never more fields last behind reads =
    never (rest ++ more) fields last behind
    (subst (λ t. ReadsSection t fields last behind) (ap (λ t. t ++ more) e ∙ append_assoc part rest more) reads)

-- and what has too many fields still has them
exceeds_longer : (text part rest : List ℕ) → text ≡ part ++ rest → SectionExceeds max_fields part → SectionExceeds max_fields text
exceeds_longer text part rest e (front, more, f, fields, reads, many) =
    (front, more ++ rest, e ∙ ap (λ t. t ++ rest) f ∙ append_assoc front more rest, fields, reads, many)

-- a section with few fields has no front with too many
few_not_exceeds : (room : ℕ) (text : List ℕ) (fields : List Field) (last : LineEnd) (behind : List ℕ) → ReadsSection text fields last behind
    → length fields ≤ room → SectionExceeds room text → ⊥
few_not_exceeds room text fields last behind reads few (front, rest, e, lines, exceeding, many) =
    let shown = flat_map print_field lines in
    let same : front ≡ shown = (snoc_parts front shown 10 10 (exceeding.1 ∙ append-nil (shown ++ 10 ∷ []))).0 in
    let skipped = Section_skip lines fields last text rest behind (exceeding.0, e ∙ ap (λ t. t ++ rest) same) reads in
    let more : length fields ≡ length lines + length skipped.0 = ap length skipped.1 ∙ length-append lines skipped.0 in
    absurd (omega (arith, few, many, more))

-- trailers are a section
trailers_read : (text part rest : List ℕ) → text ≡ part ++ rest → (is : IsTrailers part) → ReadsSection text is.fields is.last rest
trailers_read text part rest e is =
    subst (λ t. ReadsSection t is.fields is.last rest) (sym e) (ReadsSection-append part is.fields is.last [] rest is.reads)

-- trailers that nothing completes break off, or are wrong
abbrev pub IsOpenAtTrailers : List ℕ → Type 0
IsOpenAtTrailers text = AreOpenTrailers text × (NeverHasSection text ⊎ SectionExceeds max_fields text)

-- trailers that are both
open_bad_trailers : (text part rest : List ℕ) → AreOpenTrailers text → text ≡ part ++ rest → AreBadTrailers part → IsOpenAtTrailers text
open_bad_trailers text part rest opens e (short, inl never) = (opens, inl (section_longer text part rest e never))
open_bad_trailers text part rest opens e (short, inr (inl exceeds)) = (opens, inr (exceeds_longer text part rest e exceeds))
open_bad_trailers text part rest (none, few, line) e (short, inr (inr (long, nothing))) =
    let whole : length text ≡ length part + length rest = ap length e ∙ length-append part rest in
    absurd (omega (arith, few, long, whole))

-- whole trailers are not bad
trailers_not_bad : (text part rest other more : List ℕ) → text ≡ part ++ rest → IsTrailers part → text ≡ other ++ more → AreBadTrailers other → ⊥
trailers_not_bad text part rest other more e is f (short, inl never) =
    never more is.fields is.last rest (subst (λ t. ReadsSection t is.fields is.last rest) f (trailers_read text part rest e is))
trailers_not_bad text part rest other more e is f (short, inr (inl exceeds)) =
    few_not_exceeds max_fields text is.fields is.last rest (trailers_read text part rest e is) is.few (exceeds_longer text other more f exceeds)
trailers_not_bad text part rest other more e is f (short, inr (inr (long, none))) =
    let few = is.short in
    let split = front_of other part more rest (sym f ∙ e) (omega (arith, long, few)) in
    none is.fields is.last split.0 (trailers_read other part split.0 split.1 is)

-- what stands behind the last line, said in two ways
one_at_last : (text : List ℕ) (a b : Stopped) → IsAtLast text a → IsAtLast text b → AreAlike (IsOpenAtTrailers text) a b
one_at_last text a b (trailers part rest e x) (trailers other more f y) =
    let same = section_unique text x.fields y.fields x.last y.last rest more (trailers_read text part rest e x) (trailers_read text other more f y) in
    inl (ap whole same.2)
one_at_last text a b (trailers part rest e x) (open_trailers y) = absurd (y.0 x.fields x.last rest (trailers_read text part rest e x))
one_at_last text a b (trailers part rest e x) (bad_trailers other more f y) = absurd (trailers_not_bad text part rest other more e x f y)
one_at_last text a b (open_trailers x) (trailers other more f y) = absurd (x.0 y.fields y.last more (trailers_read text other more f y))
one_at_last text a b (open_trailers x) (open_trailers y) = inl refl
one_at_last text a b (open_trailers x) (bad_trailers other more f y) = inr (open_bad_trailers text other more x f y, inl ([], refl, refl))
one_at_last text a b (bad_trailers part rest e x) (trailers other more f y) = absurd (trailers_not_bad text other more part rest f y e x)
one_at_last text a b (bad_trailers part rest e x) (open_trailers y) = inr (open_bad_trailers text part rest y e x, inr ([], refl, refl))
one_at_last text a b (bad_trailers part rest e x) (bad_trailers other more f y) = inl refl

-- ---- in a chunk

-- a front of CRLF, and one that isn't, do not stand at one place
ends_differ : (a b rest : List ℕ) → IsOpenEnd a → IsBadEnd b → a ≡ b ++ rest → ⊥
ends_differ a b rest (inl x) (inl (c, y, other)) e = absurd (cc)
ends_differ a b rest (inl x) (inr (c, y, other)) e = absurd (cc)
ends_differ a b rest (inr x) (inl (c, y, other)) e = other (cc)
ends_differ a b rest (inr x) (inr (c, y, other)) e = absurd (cc)

-- nor CRLF itself and one of them
open_not_whole : (a rest : List ℕ) → IsOpenEnd a → a ≡ crlf_bytes ++ rest → ⊥
open_not_whole a rest (inl x) e = absurd (cc)
open_not_whole a rest (inr x) e = absurd (cc)

-- nor such an end and CRLF
bad_not_whole : (b more rest : List ℕ) → IsBadEnd b → b ++ more ≡ crlf_bytes ++ rest → ⊥
bad_not_whole b more rest (inl (c, y, other)) e = other (cc)
bad_not_whole b more rest (inr (c, y, other)) e = other (cc)

-- less than a chunk is no chunk
short_not_whole : (size : ℕ) (text part rest : List ℕ) → length text < size → text ≡ part ++ rest → length part ≡ size → ⊥
short_not_whole size text part rest less e long =
    let whole : length text ≡ length part + length rest = ap length e ∙ length-append part rest in
    absurd (omega (arith, less, long, whole))

-- what is behind a chunk is not both
open_not_bad : (size : ℕ) (text part end other bad rest : List ℕ) → text ≡ part ++ end → length part ≡ size → IsOpenEnd end
    → text ≡ other ++ (bad ++ rest) → length other ≡ size → IsBadEnd bad → ⊥
open_not_bad size text part end other bad rest e long opens f same wrongly =
    ends_differ end bad rest opens wrongly (same_front part other end (bad ++ rest) (sym e ∙ f) (long ∙ sym same)).1

-- what stands behind the line of a chunk, said in two ways
one_in_chunk : (size : ℕ) (text : List ℕ) (a b : Stopped) → IsInChunk size text a → IsInChunk size text b → a ≡ b
one_in_chunk size text a b (short_chunk x) (short_chunk y) = refl
one_in_chunk size text a b (short_chunk x) (open_end q n f m y) = absurd (short_not_whole size text q n x f m)
one_in_chunk size text a b (short_chunk x) (bad_end q n r f m y) = absurd (short_not_whole size text q (n ++ r) x f m)
one_in_chunk size text a b (open_end p n e l x) (short_chunk y) = absurd (short_not_whole size text p n y e l)
one_in_chunk size text a b (open_end p n e l x) (open_end q o f m y) = ap broken (same_front p q n o (sym e ∙ f) (l ∙ sym m)).0
one_in_chunk size text a b (open_end p n e l x) (bad_end q o r f m y) = absurd (open_not_bad size text p n q o r e l x f m y)
one_in_chunk size text a b (bad_end p n s e l x) (short_chunk y) = absurd (short_not_whole size text p (n ++ s) y e l)
one_in_chunk size text a b (bad_end p n s e l x) (open_end q o f m y) = absurd (open_not_bad size text q o p n s f m y e l x)
one_in_chunk size text a b (bad_end p n s e l x) (bad_end q o r f m y) = refl

-- a whole chunk and its CRLF leave room for none of them
pub chunk_excludes : (size : ℕ) (text chunk rest : List ℕ) (s : Stopped) → IsInChunk size text s → text ≡ chunk ++ (crlf_bytes ++ rest) → length chunk ≡ size → ⊥
chunk_excludes size text chunk rest s (short_chunk x) f same = short_not_whole size text chunk (crlf_bytes ++ rest) x f same
chunk_excludes size text chunk rest s (open_end p n e l x) f same =
    open_not_whole n rest x (same_front p chunk n (crlf_bytes ++ rest) (sym e ∙ f) (l ∙ sym same)).1
chunk_excludes size text chunk rest s (bad_end p n r e l x) f same =
    bad_not_whole n r rest x (same_front p chunk (n ++ r) (crlf_bytes ++ rest) (sym e ∙ f) (l ∙ sym same)).1

-- ---- behind a line

-- where it is open
abbrev pub IsOpenBehindLine : ℕ → List ℕ → Type 0
IsOpenBehindLine size text = (size ≡ 0) × IsOpenAtTrailers text

-- what stands behind a line, said in two ways
one_behind_line : (limit done size : ℕ) (text : List ℕ) (a b : Stopped) → done ≤ limit → IsBehindLine limit done size text a
    → IsBehindLine limit done size text b → AreAlike (IsOpenBehindLine size text) a b
one_behind_line limit done size text a b fits (at_last s none x) (at_last t zero y) =
    alike_so (IsOpenAtTrailers text) (IsOpenBehindLine size text) a b (λ opens. (none, opens)) (one_at_last text s t x y)
one_behind_line limit done size text a b fits (at_last s none x) (at_large above) = absurd (omega (arith, none, above, fits))
one_behind_line limit done size text a b fits (at_last s none x) (in_chunk t some room y) = absurd (omega (arith, none, some))
one_behind_line limit done size text a b fits (at_large above) (at_last t zero y) = absurd (omega (arith, zero, above, fits))
one_behind_line limit done size text a b fits (at_large above) (at_large over) = inl refl
one_behind_line limit done size text a b fits (at_large above) (in_chunk t some room y) = absurd (omega (arith, above, room))
one_behind_line limit done size text a b fits (in_chunk s more room x) (at_last t zero y) = absurd (omega (arith, zero, more))
one_behind_line limit done size text a b fits (in_chunk s more room x) (at_large over) = absurd (omega (arith, over, room))
one_behind_line limit done size text a b fits (in_chunk s more room x) (in_chunk t some left y) = inl (one_in_chunk size text s t x y)

-- ---- behind whole chunks

-- where it is open
abbrev pub IsOpenStop : List ℕ → Type 0
IsOpenStop text =
    IsOpenAtLine text
    ⊎ ((line : ChunkLine) × (rest : List ℕ) × (text ≡ print_chunk_line line ++ rest) × IsLine line × IsOpenBehindLine (chunk_size line) rest)

-- the text stops in one way
pub one_stop : (limit done : ℕ) (text : List ℕ) (a b : Stopped) → done ≤ limit → IsStopped limit done text a → IsStopped limit done text b
    → AreAlike (IsOpenStop text) a b
one_stop limit done text a b fits (no_line_there x) (no_line_there y) =
    alike_so (IsOpenAtLine text) (IsOpenStop text) a b inl (one_without_line text a b x y)
one_stop limit done text a b fits (no_line_there x) (behind_line line rest e is y) = absurd (line_excludes text a line rest x e is)
one_stop limit done text a b fits (behind_line line rest e is x) (no_line_there y) = absurd (line_excludes text b line rest y e is)
one_stop limit done text a b fits (behind_line line rest e is x) (behind_line other more f so y) =
    let same = chunk_line_unique text line other rest more (is.valid, e) (so.valid, f) in
    alike_so (IsOpenBehindLine (chunk_size line) rest) (IsOpenStop text) a b (λ opens. inr (line, rest, e, is, opens))
    (one_behind_line limit done (chunk_size line) rest a b fits x
    (subst (λ r. IsBehindLine limit done (chunk_size line) r b) (sym same.1)
    (subst (λ l. IsBehindLine limit done (chunk_size l) more b) (sym same.0) y)))
