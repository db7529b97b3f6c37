-- The whole chunks at the front of a text are the same, however the text is said to go on.
use Rattle.std.proofs.Common.{◌≡◌, ℕ, ◌+◌, ◌<◌, ◌≤◌, List, [], ◌∷◌, ◌++◌, All, length, refl, sym, ap, ◌∙◌, subst, arith, append_assoc}
use Rattle.std.proofs.lemmas.List.{length-append, append_cancel_left, flat_map_more}
use Rattle.std.proofs.lemmas.List.Elements.{All-nil, All-push, All-head, All-tail}
use Rattle.std.specs.List.{flat_map}
use Rattle.httparse.specs.Ascii.{crlf_bytes}
use Rattle.httparse.specs.Grammar.{ChunkLine, print_chunk_line, chunk_size}
use Rattle.httparse.proofs.ChunkLemmas.{chunk_line_unique}
use Rattle.up_wire.specs.Chunks.{IsLine, AreChunks, no_chunk, one_more, HasChunks}
use Rattle.up_wire.proofs.OneAnswerTexts.{same_front}
use Rattle.up_wire.proofs.OneAnswerStops.{Stopped, IsStopped, no_line_there, behind_line, IsBehindLine, at_last, at_large, in_chunk, AreAlike, alike_so, IsOpenStop, one_stop, line_excludes, chunk_excludes}

-- ---- chunks as a list

-- a line and the chunk behind it
pub record Link : Type 0 where
  pub line : ChunkLine
  pub chunk : List ℕ

-- the line says how long the chunk is
pub record IsLink (l : Link) : Type 0 where
  pub is_line : IsLine l.line
  pub some : 0 < length l.chunk
  pub size : chunk_size l.line ≡ length l.chunk

-- the bytes that it brings
abbrev pub link_bytes : Link → List ℕ
link_bytes l = l.chunk

-- the text of it
abbrev pub link_text : Link → List ℕ
link_text l = print_chunk_line l.line ++ (l.chunk ++ crlf_bytes)

-- the bytes and the text of such a list
pub record AreLinks (bytes text : List ℕ) : Type 0 where
  pub links : List Link
  pub are : All IsLink links
  pub bytes_are : bytes ≡ flat_map link_bytes links
  pub text_is : text ≡ flat_map link_text links

-- the chunks one by one
links_of : (bytes text : List ℕ) → AreChunks bytes text → AreLinks bytes text
links_of bytes text no_chunk = record { links = []; are = All-nil IsLink; bytes_are = refl; text_is = refl }
links_of bytes text (one_more b t chunk line before is some size) =
    let more = links_of b t before in
    let link : Link = record { line = line; chunk = chunk } in
    record {
      links = more.links ++ link ∷ [];
      are = All-push IsLink more.links link more.are (record { is_line = is; some = some; size = size });
      bytes_are = ap (λ l. l ++ chunk) more.bytes_are ∙ flat_map_more link_bytes [] more.links link;
      text_is = ap (λ l. l ++ link_text link) more.text_is ∙ flat_map_more link_text [] more.links link;
    }

-- ---- where a text stops, no whole chunk stands

-- the line, the chunk and CRLF, from the first on
link_before : (link : Link) (more : List ℕ) → link_text link ++ more ≡ print_chunk_line link.line ++ (link.chunk ++ (crlf_bytes ++ more))
link_before link more =
    append_assoc (print_chunk_line link.line) (link.chunk ++ crlf_bytes) more
    ∙ ap (λ t. print_chunk_line link.line ++ t) (append_assoc link.chunk crlf_bytes more)

-- behind the line of a whole chunk
behind_excludes : (limit done size : ℕ) (text chunk more : List ℕ) (s : Stopped) → IsBehindLine limit done size text s → 0 < length chunk → size ≡ length chunk
    → done + length chunk ≤ limit → text ≡ chunk ++ (crlf_bytes ++ more) → ⊥
behind_excludes limit done size text chunk more s (at_last t zero x) some same fits e = absurd (omega (arith, zero, some, same))
behind_excludes limit done size text chunk more s (at_large above) some same fits e = absurd (omega (arith, above, same, fits))
behind_excludes limit done size text chunk more s (in_chunk t above room x) some same fits e = chunk_excludes size text chunk more t x e (sym same)

-- and before its line
link_excludes : (limit done : ℕ) (text : List ℕ) (s : Stopped) (link : Link) (more : List ℕ) → IsStopped limit done text s → IsLink link
    → done + length link.chunk ≤ limit → text ≡ link_text link ++ more → ⊥
link_excludes limit done text s link more (no_line_there x) is fits e =
    line_excludes text s link.line (link.chunk ++ (crlf_bytes ++ more)) x (e ∙ link_before link more) is.is_line
link_excludes limit done text s link more (behind_line line rest f so x) is fits e =
    let same = chunk_line_unique text line link.line rest (link.chunk ++ (crlf_bytes ++ more)) (so.valid, f) (is.is_line.valid, e ∙ link_before link more) in
    behind_excludes limit done (chunk_size line) rest link.chunk more s x is.some (ap chunk_size same.0 ∙ is.size) fits same.1

-- ---- two lists at the front of one text

-- one chunk
one_link : (a b : Link) (p q : List ℕ) → IsLink a → IsLink b → link_text a ++ p ≡ link_text b ++ q → (a ≡ b) × (p ≡ q)
one_link a b p q x y e =
    let text : link_text a ++ p ≡ print_chunk_line b.line ++ (b.chunk ++ (crlf_bytes ++ q)) = e ∙ link_before b q in
    let lines = chunk_line_unique (link_text a ++ p) a.line b.line (a.chunk ++ (crlf_bytes ++ p)) (b.chunk ++ (crlf_bytes ++ q))
    (x.is_line.valid, link_before a p) (y.is_line.valid, text) in
    let chunks = same_front a.chunk b.chunk (crlf_bytes ++ p) (crlf_bytes ++ q) lines.1 (sym x.size ∙ ap chunk_size lines.0 ∙ y.size) in
    (λ i. record { line = lines.0 i; chunk = chunks.0 i }, append_cancel_left crlf_bytes p q chunks.1)

-- all of them, where so many bytes are done before
links_same : (limit n d e : ℕ) (xs ys : List Link) (p q : List ℕ) (a b : Stopped) → All IsLink xs → All IsLink ys
    → flat_map link_text xs ++ p ≡ flat_map link_text ys ++ q
    → n + length (flat_map link_bytes xs) ≡ d → n + length (flat_map link_bytes ys) ≡ e → d ≤ limit → e ≤ limit
    → IsStopped limit d p a → IsStopped limit e q b → (xs ≡ ys) × (p ≡ q)
links_same limit n d e [] [] p q a b are so text f g low few x y = (refl, text)
links_same limit n d e [] (m ∷ ys) p q a b are so text f g low few x y =
    let long : length (flat_map link_bytes (m ∷ ys)) ≡ length m.chunk + length (flat_map link_bytes ys) = length-append m.chunk (flat_map link_bytes ys) in
    absurd (link_excludes limit d p a m (flat_map link_text ys ++ q) x (All-head IsLink m ys so) (omega (arith, f, g, few, long))
    (text ∙ append_assoc (link_text m) (flat_map link_text ys) q))
links_same limit n d e (l ∷ xs) [] p q a b are so text f g low few x y =
    let long : length (flat_map link_bytes (l ∷ xs)) ≡ length l.chunk + length (flat_map link_bytes xs) = length-append l.chunk (flat_map link_bytes xs) in
    absurd (link_excludes limit e q b l (flat_map link_text xs ++ p) y (All-head IsLink l xs are) (omega (arith, f, g, low, long))
    (sym text ∙ append_assoc (link_text l) (flat_map link_text xs) p))
links_same limit n d e (l ∷ xs) (m ∷ ys) p q a b are so text f g low few x y =
    let first = one_link l m (flat_map link_text xs ++ p) (flat_map link_text ys ++ q) (All-head IsLink l xs are) (All-head IsLink m ys so)
    (sym (append_assoc (link_text l) (flat_map link_text xs) p) ∙ text ∙ append_assoc (link_text m) (flat_map link_text ys) q) in
    let one : length (flat_map link_bytes (l ∷ xs)) ≡ length l.chunk + length (flat_map link_bytes xs) = length-append l.chunk (flat_map link_bytes xs) in
    let two : length (flat_map link_bytes (m ∷ ys)) ≡ length m.chunk + length (flat_map link_bytes ys) = length-append m.chunk (flat_map link_bytes ys) in
    let even : length l.chunk ≡ length m.chunk = ap (λ k. length (link_bytes k)) first.0 in
    let more = links_same limit (n + length l.chunk) d e xs ys p q a b (All-tail IsLink l xs are) (All-tail IsLink m ys so) first.1
    (omega (arith, f, one)) (omega (arith, g, two, even)) low few x y in
    ((λ i. first.0 i ∷ more.0 i), more.1)

-- ---- a chunked text

-- whole chunks with these bytes, and how it stops behind them
pub record IsChunking (limit : ℕ) (text done : List ℕ) (s : Stopped) : Type 0 where
  pub chunks : List ℕ
  pub here : List ℕ
  pub has_chunks : HasChunks limit done chunks
  pub text_is : text ≡ chunks ++ here
  pub stops : IsStopped limit (length done) here s

-- where it is open
pub record IsOpenChunking (limit : ℕ) (text : List ℕ) : Type 0 where
  pub done : List ℕ
  pub chunks : List ℕ
  pub here : List ℕ
  pub has_chunks : HasChunks limit done chunks
  pub text_is : text ≡ chunks ++ here
  pub opens : IsOpenStop here

-- the chunks are the same, and so is the stop
pub one_chunking : (limit : ℕ) (text done other : List ℕ) (a b : Stopped) → IsChunking limit text done a → IsChunking limit text other b
    → (done ≡ other) × AreAlike (IsOpenChunking limit text) a b
one_chunking limit text done other a b x y =
    let xs = links_of done x.chunks x.has_chunks.are_chunks in
    let ys = links_of other y.chunks y.has_chunks.are_chunks in
    let front : flat_map link_text xs.links ++ x.here ≡ flat_map link_text ys.links ++ y.here =
    (λ i. sym xs.text_is i ++ x.here) ∙ sym x.text_is ∙ y.text_is ∙ (λ i. ys.text_is i ++ y.here) in
    let same = links_same limit 0 (length done) (length other) xs.links ys.links x.here y.here a b xs.are ys.are front
    (omega (arith, ap length xs.bytes_are)) (omega (arith, ap length ys.bytes_are)) x.has_chunks.within y.has_chunks.within x.stops y.stops in
    let bytes : done ≡ other = xs.bytes_are ∙ ap (flat_map link_bytes) same.0 ∙ sym ys.bytes_are in
    let there : IsStopped limit (length done) x.here b = subst (λ h. IsStopped limit (length done) h b) (sym same.1)
    (subst (λ d. IsStopped limit (length d) y.here b) (sym bytes) y.stops) in
    let opens : IsOpenStop x.here → IsOpenChunking limit text = λ o. record {
      done = done;
      chunks = x.chunks;
      here = x.here;
      has_chunks = x.has_chunks;
      text_is = x.text_is;
      opens = o;
    } in
    (bytes, alike_so (IsOpenStop x.here) (IsOpenChunking limit text) a b opens (one_stop limit (length done) x.here a b x.has_chunks.within x.stops there))
