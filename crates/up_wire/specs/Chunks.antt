-- A chunked body, and how it can break off or be malformed (RFC 9112, section 7.1).
use Rattle.std.specs.Prelude.{◌≡◌, ◌≢◌, All, ℕ, ◌+◌, ◌<◌, ◌≤◌, ◌⊎◌, List, [], ◌∷◌, ◌++◌, length}
use Rattle.httparse.specs.Ascii.{carriage_return, line_feed, crlf_bytes}
use Rattle.httparse.specs.Grammar as Line
use Rattle.httparse.specs.Grammar.{ChunkLine, IsChunkLine, print_chunk_line, chunk_size, HasNoChunkLine, NeverHasChunkLine, ReadsSection, HasNoSection, NeverHasSection, MayBecomeSection}
use Rattle.httparse.specs.Spans.{SectionExceeds}
use Rattle.up_wire.specs.declared.wire_fault.WireFault.{WireFault}
use Rattle.up_wire.specs.declared.wire_fault.WireFault.TheVariants as Fault
use Rattle.up_wire.specs.Limits.{max_head, max_fields, max_line}

-- a chunk line of at most 256 bytes, its CRLF included
pub record IsLine (line : ChunkLine) : Type 0 where
  pub valid : IsChunkLine line
  pub short : length (print_chunk_line line) ≤ max_line

-- whole chunks in order: their bytes and their text
pub data AreChunks : List ℕ → List ℕ → Type 0 where
  no_chunk : AreChunks [] []
  one_more : (bytes text chunk : List ℕ) (line : ChunkLine) → AreChunks bytes text → IsLine line → 0 < length chunk → chunk_size line ≡ length chunk → AreChunks (bytes ++ chunk) (text ++ (print_chunk_line line ++ (chunk ++ crlf_bytes)))

-- trailer fields and the empty line
pub record IsTrailers (text : List ℕ) : Type 0 where
  pub fields : List Line.Field
  pub last : Line.LineEnd
  pub reads : ReadsSection text fields last []
  pub short : length text ≤ max_head
  pub few : length fields ≤ max_fields

-- chunks, and then the line of size 0
pub record IsLastLine (text front : List ℕ) : Type 0 where
  pub line : ChunkLine
  pub is_line : IsLine line
  pub is_last : chunk_size line ≡ 0
  pub text_is : text ≡ front ++ print_chunk_line line

-- chunks, the last line and the trailers
pub record IsChunked (bytes text : List ℕ) : Type 0 where
  pub chunks : List ℕ
  pub lines : List ℕ
  pub trailers : List ℕ
  pub are_chunks : AreChunks bytes chunks
  pub is_last : IsLastLine lines chunks
  pub are_trailers : IsTrailers trailers
  pub text_is : text ≡ lines ++ trailers

-- whole chunks, with bytes within the limit
pub record HasChunks (limit : ℕ) (bytes text : List ℕ) : Type 0 where
  pub are_chunks : AreChunks bytes text
  pub within : length bytes ≤ limit

-- an incomplete chunk line, which has no line feed yet and is shorter than the limit
abbrev pub IsOpenLine : List ℕ → Type 0
IsOpenLine part = All (λ b. b ≢ line_feed) part × (length part < max_line)

-- no chunk line begins with these bytes, or none that is short enough
abbrev pub IsBadLine : List ℕ → Type 0
IsBadLine part = (length part ≤ max_line) × (NeverHasChunkLine part ⊎ ((length part ≡ max_line) × HasNoChunkLine part))

-- a prefix of CRLF that is not all of it
abbrev pub IsOpenEnd : List ℕ → Type 0
IsOpenEnd end = (end ≡ []) ⊎ (end ≡ carriage_return ∷ [])

-- the bytes up to the first that differs from CRLF
abbrev pub IsBadEnd : List ℕ → Type 0
IsBadEnd end =
    ((b : ℕ) × (end ≡ b ∷ []) × (b ≢ carriage_return))
    ⊎ ((b : ℕ) × (end ≡ carriage_return ∷ b ∷ []) × (b ≢ line_feed))

-- whole lines that can still become a trailer section, and then an incomplete line
abbrev pub EndInLine : List ℕ → Type 0
EndInLine part = (lines : List ℕ) × (tail : List ℕ) × (part ≡ lines ++ tail) × All (λ b. b ≢ line_feed) tail × MayBecomeSection lines

-- an incomplete trailer section, shorter than the limit
abbrev pub AreOpenTrailers : List ℕ → Type 0
AreOpenTrailers part = HasNoSection part × (length part < max_head) × EndInLine part

-- no trailer section begins with these bytes, or none within the limits of bytes and fields
abbrev pub AreBadTrailers : List ℕ → Type 0
AreBadTrailers part =
    (length part ≤ max_head)
    × (NeverHasSection part ⊎ (SectionExceeds max_fields part ⊎ ((length part ≡ max_head) × HasNoSection part)))

-- a chunk line, with whose chunk the body is within the limit
pub record HasLine (limit : ℕ) (done : List ℕ) (line : ChunkLine) : Type 0 where
  pub is_line : IsLine line
  pub some : 0 < chunk_size line
  pub fits : length done + chunk_size line ≤ limit

-- chunks within the limit, and then an incomplete part; `bytes` are the bytes of the body that arrived
pub data IsCutChunked (limit : ℕ) (bytes text : List ℕ) : Type 0 where
  in_line : (chunks part : List ℕ) → HasChunks limit bytes chunks → IsOpenLine part → text ≡ chunks ++ part → IsCutChunked limit bytes text
  in_chunk : (done chunks part : List ℕ) (line : ChunkLine) → HasChunks limit done chunks → HasLine limit done line → length part < chunk_size line
      → bytes ≡ done ++ part → text ≡ chunks ++ (print_chunk_line line ++ part) → IsCutChunked limit bytes text
  behind_chunk : (done chunks part end : List ℕ) (line : ChunkLine) → HasChunks limit done chunks → HasLine limit done line → length part ≡ chunk_size line
      → IsOpenEnd end → bytes ≡ done ++ part → text ≡ chunks ++ (print_chunk_line line ++ (part ++ end)) → IsCutChunked limit bytes text
  in_trailers : (chunks lines part : List ℕ) → HasChunks limit bytes chunks → IsLastLine lines chunks → AreOpenTrailers part → text ≡ lines ++ part
      → IsCutChunked limit bytes text

-- chunks within the limit, and then bytes that no chunked text has there
pub data IsBadChunk (limit : ℕ) (text : List ℕ) : Type 0 where
  bad_line : (done chunks part : List ℕ) → HasChunks limit done chunks → IsBadLine part → text ≡ chunks ++ part → IsBadChunk limit text
  bad_end : (done chunks part end : List ℕ) (line : ChunkLine) → HasChunks limit done chunks → HasLine limit done line → length part ≡ chunk_size line
      → IsBadEnd end → text ≡ chunks ++ (print_chunk_line line ++ (part ++ end)) → IsBadChunk limit text
  bad_trailers : (done chunks lines part : List ℕ) → HasChunks limit done chunks → IsLastLine lines chunks → AreBadTrailers part → text ≡ lines ++ part
      → IsBadChunk limit text

-- chunks within the limit, and a line whose chunk exceeds it
pub record IsLargeChunk (limit : ℕ) (text : List ℕ) : Type 0 where
  pub done : List ℕ
  pub chunks : List ℕ
  pub line : ChunkLine
  pub has_chunks : HasChunks limit done chunks
  pub is_line : IsLine line
  pub text_is : text ≡ chunks ++ print_chunk_line line
  pub exceeds : limit < length done + chunk_size line

-- the faults of a chunked text
abbrev pub IsChunkedFault : ℕ → List ℕ → WireFault → Type 0
IsChunkedFault limit text Fault.BadHead = ⊥
IsChunkedFault limit text Fault.HeadTooLarge = ⊥
IsChunkedFault limit text Fault.BadFraming = IsBadChunk limit text
IsChunkedFault limit text Fault.UnknownCoding = ⊥
IsChunkedFault limit text Fault.BodyTooLarge = IsLargeChunk limit text
IsChunkedFault limit text Fault.ReadFailed = ⊥
IsChunkedFault limit text Fault.NoMemory = ⊥
IsChunkedFault limit text Fault.WriteFailed = ⊥
