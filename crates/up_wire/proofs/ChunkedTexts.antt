-- Chunk lines and trailer sections that are read byte by byte.
use Rattle.std.proofs.Common.{◌≡◌, ◌≢◌, ℕ, ◌≤◌, ◌⊎◌, Bool, false, List, [], ◌∷◌, ◌++◌, All, IsTrue, length, Option, Some, None, Result, Ok, Err, refl, sym, ap, ◌∙◌, subst, append_assoc, append-nil, true≢false, inl, inr}
use Rattle.std.proofs.lemmas.List.Elements.{All-nil, All-cons, All-head, All-tail, All-append}
use Rattle.std.specs.List.{flat_map}
use Rattle.std.specs.Prelude.{Vec}
use Rattle.std.specs.declared.alloc.Global.{Global}
use Rattle.std.specs.Char.{is_ascii_hexdigit}
use Rattle.httparse.specs.Grammar.{LineEnd, Field, print_field, print_section, ReadsSection, HasNoSection, NeverHasSection, is_ows, is_extension_byte, print_extension, IsExtension, ChunkLine, IsChunkLine, print_chunk_line, ReadsChunkLine, HasNoChunkLine, NeverHasChunkLine}
use Rattle.httparse.specs.Ascii.{crlf_bytes}
use Rattle.httparse.specs.Spans.{SectionExceeds}
use Rattle.up_wire.specs.declared.body.BodyEnd.{BodyEnd}
use Rattle.up_wire.specs.declared.body.BodyEnd.TheVariants.{Ended, Failed, Bad, NoMemory}
use Rattle.up_wire.specs.declared.body.BodyRead.{BodyRead}
use Rattle.up_wire.specs.declared.framing.Framing.TheVariants.{Chunked}
use Rattle.up_wire.specs.Message.{Ending}
use Rattle.up_wire.specs.Chunks.{AreChunks, IsTrailers, IsCutChunked, IsBadChunk}
use Rattle.up_wire.specs.Limits.{max_head, max_fields}
use Rattle.up_wire.specs.Steps.{IsStop, stopped, IsBodyRead, IsBounded, IsByteRead, IsCrlfRead}
use Rattle.up_wire.proofs.Heads.{last_of, snoc_parts, section_ends}

-- ---- trailer sections

-- a section with something behind it is there without the last byte too
pub section_is_whole : (front : List ℕ) (b : ℕ) (fields : List Field) (last : LineEnd) (rest : List ℕ)
    → HasNoSection front → ReadsSection (front ++ b ∷ []) fields last rest → rest ≡ []
section_is_whole front b fields last [] none reads = refl
section_is_whole front b fields last (x ∷ rest) none reads =
    let end = last_of x rest in
    let text = print_section fields last in
    let split : front ++ b ∷ [] ≡ (text ++ end.0) ++ end.1 ∷ [] = reads.1 ∙ ap (λ l. text ++ l) end.2 ∙ sym (append_assoc text end.0 (end.1 ∷ [])) in
    absurd (none fields last end.0 (reads.0, (snoc_parts front (text ++ end.0) b end.1 split).0))

-- only a line feed ends a section
pub no_section_yet : (front : List ℕ) (b : ℕ) → HasNoSection front → (b ≡ 10 → ⊥) → HasNoSection (front ++ b ∷ [])
no_section_yet front b none other fields last rest reads =
    let whole = section_is_whole front b fields last rest none reads in
    let text = print_section fields last in
    let ends = section_ends [] (flat_map print_field fields) last in
    other (snoc_parts front ends.0 b 10 (reads.1 ∙ ap (λ r. text ++ r) whole ∙ append-nil text ∙ ends.1)).1

-- a section that stands alone is within the limits
pub trailers_alone : (text : List ℕ) (fields : List Field) (last : LineEnd) (rest : List ℕ) → ReadsSection text fields last rest → rest ≡ []
    → length text ≤ max_head → length fields ≤ max_fields → IsTrailers text
trailers_alone text fields last rest reads alone short few = record {
  fields = fields;
  last = last;
  reads = (reads.0, reads.1 ∙ ap (λ r. print_section fields last ++ r) alone);
  short = short;
  few = few;
}

-- a section that the parser refuses
pub refused : (text : List ℕ) → NeverHasSection text ⊎ SectionExceeds max_fields text
    → NeverHasSection text ⊎ (SectionExceeds max_fields text ⊎ ((length text ≡ max_head) × HasNoSection text))
refused text (inl never) = inl never
refused text (inr exceeds) = inr (inl exceeds)

-- ---- chunk lines

-- no line feed
abbrev pub NoEnd : List ℕ → Type 0
NoEnd bytes = All (λ b. b ≢ 10) bytes

passes : (test : ℕ → Bool) (bytes : List ℕ) → test 10 ≡ false → All (λ b. IsTrue (test b)) bytes → NoEnd bytes
passes test bytes not all k d inside = λ same. true≢false (sym (all k d inside) ∙ ap test same ∙ not)

-- a chunk line ends in its first line feed
extension_has_none : (e : Option (List ℕ)) → IsExtension e → NoEnd (print_extension e)
extension_has_none None is = All-nil (λ b. b ≢ 10)
extension_has_none (Some text) is = All-cons (λ b. b ≢ 10) 59 text (λ e. absurd (cc)) (passes is_extension_byte text refl is)

pub line_ends : (line : ChunkLine) → IsChunkLine line → (front : List ℕ) × (print_chunk_line line ≡ front ++ 10 ∷ []) × NoEnd front
unfolding print_chunk_line
line_ends line is =
    let extension = print_extension line.extension in
    let cr : NoEnd (13 ∷ []) = All-cons (λ b. b ≢ 10) 13 [] (λ e. absurd (cc)) (All-nil (λ b. b ≢ 10)) in
    let digits = passes is_ascii_hexdigit line.digits refl is.digits.2 in
    let pad = passes is_ows line.pad refl is.pad in (
      line.digits ++ (line.pad ++ (extension ++ 13 ∷ [])),
      simp append_assoc,
      All-append (λ b. b ≢ 10) line.digits (line.pad ++ (extension ++ 13 ∷ [])) digits
          (All-append (λ b. b ≢ 10) line.pad (extension ++ 13 ∷ []) pad
          (All-append (λ b. b ≢ 10) extension (13 ∷ []) (extension_has_none line.extension is.extension) cr)),
    )

-- two texts with a first line feed and more behind it
first_end : (a b x y : List ℕ) → NoEnd a → NoEnd b → (a ++ 10 ∷ []) ++ x ≡ (b ++ 10 ∷ []) ++ y → (a ≡ b) × (x ≡ y)
first_end [] [] x y p q e = (refl, cc)
first_end [] (r ∷ b) x y p q e = absurd (All-head (λ b. b ≢ 10) r b q (cc))
first_end (r ∷ a) [] x y p q e = absurd (All-head (λ b. b ≢ 10) r a p (cc))
first_end (r ∷ a) (s ∷ b) x y p q e =
    let tail : (a ++ 10 ∷ []) ++ x ≡ (b ++ 10 ∷ []) ++ y = cc in
    let same : r ≡ s = cc in
    let more = first_end a b x y (All-tail (λ b. b ≢ 10) r a p) (All-tail (λ b. b ≢ 10) s b q) tail in
    let front : a ≡ b = more.0 in
    (cc, more.1)

-- no line feed stands in a text without one
not_inside : (a rest : List ℕ) → NoEnd ((a ++ 10 ∷ []) ++ rest) → ⊥
not_inside [] rest all = All-head (λ b. b ≢ 10) 10 rest all refl
not_inside (x ∷ a) rest all = not_inside a rest (All-tail (λ b. b ≢ 10) x ((a ++ 10 ∷ []) ++ rest) all)

-- a text with no line feed has no line
pub no_line : (part : List ℕ) → NoEnd part → HasNoChunkLine part
no_line part all line rest reads =
    let ends = line_ends line reads.0 in
    not_inside ends.0 rest (subst NoEnd (reads.1 ∙ ap (λ t. t ++ rest) ends.1) all)

-- a line that the first line feed ends is alone
pub line_alone : (part : List ℕ) (line : ChunkLine) (rest : List ℕ) → NoEnd part → ReadsChunkLine (part ++ 10 ∷ []) line rest → part ++ 10 ∷ [] ≡ print_chunk_line line
line_alone part line rest all reads =
    let ends = line_ends line reads.0 in
    let both = first_end part ends.0 [] rest all ends.2 (append-nil (part ++ 10 ∷ []) ∙ reads.1 ∙ ap (λ t. t ++ rest) ends.1) in
    ap (λ t. t ++ 10 ∷ []) both.0 ∙ sym ends.1

-- where the first line feed ends no line, none comes
pub line_refused : (part : List ℕ) → NoEnd part → HasNoChunkLine (part ++ 10 ∷ []) → NeverHasChunkLine (part ++ 10 ∷ [])
line_refused part all none more line rest reads =
    let ends = line_ends line reads.0 in
    let both = first_end part ends.0 more rest all ends.2 (reads.1 ∙ ap (λ t. t ++ rest) ends.1) in
    let same : part ++ 10 ∷ [] ≡ print_chunk_line line = ap (λ t. t ++ 10 ∷ []) both.0 ∙ sym ends.1 in
    none line [] (reads.0, same ∙ sym (append-nil (print_chunk_line line)))

-- ---- the body

-- a body that stops at a part of it
pub stop_answer : (limit : ℕ) (input : List ℕ) (ending : Ending) (stop : BodyEnd) (body : Vec ℕ Global) (cut bad : Type 0) (result : BodyRead)
    → result ≡ stopped stop body → IsStop ending cut bad stop → (cut → IsCutChunked limit body.items input) → (bad → IsBadChunk limit input)
    → IsBodyRead limit Chunked input ending result
stop_answer limit input ending Ended body cut bad result same is c b = subst (IsBodyRead limit Chunked input ending) (sym same) (c is.0, inl is.1)
stop_answer limit input ending Failed body cut bad result same is c b = subst (IsBodyRead limit Chunked input ending) (sym same) (c is.0, inr is.1)
stop_answer limit input ending Bad body cut bad result same is c b = subst (IsBodyRead limit Chunked input ending) (sym same) (inr (b is))
stop_answer limit input ending NoMemory body cut bad result same is c b = subst (IsBodyRead limit Chunked input ending) (sym same) (inl refl)

-- the line feed behind the carriage return
pub crlf_after : (a b : List ℕ) (ending : Ending) (result : Result (Unit {0}) BodyEnd) → a ≡ 13 ∷ [] → IsByteRead 10 b ending result → IsCrlfRead (a ++ b) ending result
crlf_after a b ending (Ok done) first next = ((λ i. first i ++ next.0 i), next.1)
crlf_after a b ending (Err Ended) first next = (inr (λ i. first i ++ next.0 i), next.1)
crlf_after a b ending (Err Failed) first next = (inr (λ i. first i ++ next.0 i), next.1)
crlf_after a b ending (Err Bad) first next = inr (next.0, (λ i. first i ++ next.1 i), next.2)
crlf_after a b ending (Err NoMemory) first next = next

-- one more chunk, by the pieces that were read
pub chunks_are : (body bytes run chunks line_text end : List ℕ) (line : ChunkLine) → bytes ≡ body ++ run → line_text ≡ print_chunk_line line → end ≡ crlf_bytes
    → AreChunks (body ++ run) (chunks ++ (print_chunk_line line ++ (run ++ crlf_bytes))) → AreChunks bytes (chunks ++ (line_text ++ (run ++ end)))
chunks_are body bytes run chunks line_text end line grown same ends next =
    subst (λ b. AreChunks b (chunks ++ (line_text ++ (run ++ end)))) (sym grown)
    (subst (AreChunks (body ++ run)) (λ i. chunks ++ (sym same i ++ (run ++ sym ends i))) next)

-- a buffer to which bytes were read has little room still
pub still_bounded : (done : Unit {0}) (result : Result (Unit {0}) BodyEnd) (body : Vec ℕ Global) → result ≡ Ok done
    → (result ≡ Err NoMemory) ⊎ IsBounded body → IsBounded body
still_bounded done result body whole (inl wanting) = absurd (cc)
still_bounded done result body whole (inr bounded) = bounded
