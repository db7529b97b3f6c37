-- What stands behind a head is one body, less than one, or at fault, but for what is left open.
use Rattle.std.proofs.Common.{◌≡◌, ℕ, ◌+◌, ◌<◌, ◌⊎◌, List, [], ◌++◌, length, refl, sym, ap, ◌∙◌, subst, arith, append-nil, append_assoc, inl, inr}
use Rattle.std.proofs.lemmas.List.{length-append}
use Rattle.httparse.specs.Grammar.{print_chunk_line}
use Rattle.up_wire.specs.declared.wire_fault.WireFault.{WireFault}
use Rattle.up_wire.specs.declared.wire_fault.WireFault.TheVariants.{BadHead, HeadTooLarge, BadFraming, UnknownCoding, BodyTooLarge, ReadFailed, NoMemory, WriteFailed}
use Rattle.up_wire.specs.declared.framing.Framing.{Framing}
use Rattle.up_wire.specs.declared.framing.Framing.TheVariants.{NoBody, Sized, Chunked}
use Rattle.up_wire.specs.Chunks as Chunks
use Rattle.up_wire.specs.Chunks.{IsChunked, IsCutChunked, IsBadChunk, IsLargeChunk, HasChunks}
use Rattle.up_wire.specs.Message.{IsBody, IsCutBody, IsBodyFault}
use Rattle.up_wire.proofs.OneAnswerTexts.{same_front}
use Rattle.up_wire.proofs.OneAnswerStops.{Stopped, whole, broken, wrong, large, no_line_there, behind_line, at_last, at_large, in_chunk, open_line, bad_line, trailers, open_trailers, bad_trailers, short_chunk, open_end, bad_end, AreAlike, IsBrokenBesideWrong}
use Rattle.up_wire.proofs.OneAnswerChunks.{IsChunking, IsOpenChunking, one_chunking}

-- a body with what is behind it, less than a body, or a fault
pub data Outcome : Type 0 where
  complete : (bytes rest : List ℕ) → Outcome
  cut : (bytes : List ℕ) → Outcome
  refused : (fault : WireFault) → Outcome

-- the outcome fits the text behind the head
pub data IsOutcome (limit : ℕ) (framing : Framing) (text : List ℕ) : Outcome → Type 0 where
  is_complete : (bytes front rest : List ℕ) → text ≡ front ++ rest → IsBody limit framing bytes front → IsOutcome limit framing text (complete bytes rest)
  is_cut : (bytes : List ℕ) → IsCutBody limit framing bytes text → IsOutcome limit framing text (cut bytes)
  is_refused : (fault : WireFault) (front rest : List ℕ) → text ≡ front ++ rest → IsBodyFault limit framing front fault → IsOutcome limit framing text (refused fault)

-- the one is cut, and the other is wrong
abbrev pub IsCutBesideRefused : Outcome → Outcome → Type 0
IsCutBesideRefused a b = (bytes : List ℕ) × (a ≡ cut bytes) × (b ≡ refused BadFraming)

-- they are the same, or left open
abbrev pub AreAlikeBodies : ℕ → Framing → List ℕ → Outcome → Outcome → Type 0
AreAlikeBodies limit framing text a b =
    (a ≡ b) ⊎ ((framing ≡ Chunked) × IsOpenChunking limit text × (IsCutBesideRefused a b ⊎ IsCutBesideRefused b a))

-- ---- no body

-- nothing is there, said in two ways
no_body : (limit : ℕ) (text : List ℕ) (a b : Outcome) → IsOutcome limit NoBody text a → IsOutcome limit NoBody text b → a ≡ b
no_body limit text a b (is_complete bytes front rest e (none, empty)) (is_complete more other left f (nothing, nil)) =
    let behind : rest ≡ left = ap (λ t. t ++ rest) (sym empty) ∙ sym e ∙ f ∙ ap (λ t. t ++ left) nil in
    λ i. complete ((none ∙ sym nothing) i) (behind i)
no_body limit text a b x (is_cut bytes y) = absurd y
no_body limit text a b x (is_refused fault front rest e y) = absurd y
no_body limit text a b (is_cut bytes x) y = absurd x
no_body limit text a b (is_refused fault front rest e x) y = absurd x

-- ---- a body of a known size

-- less than the body is not the body
short_not_complete : (size : ℕ) (text bytes front rest less : List ℕ) → text ≡ front ++ rest → length bytes ≡ size → front ≡ bytes
    → length less < size → text ≡ less → ⊥
short_not_complete size text bytes front rest less e long same short f =
    let whole : length less ≡ length bytes + length rest = ap length (sym f ∙ e ∙ ap (λ t. t ++ rest) same) ∙ length-append bytes rest in
    absurd (omega (arith, whole, long, short))

-- so many bytes or less, said in two ways
sized_body : (limit size : ℕ) (text : List ℕ) (a b : Outcome) → IsOutcome limit (Sized size) text a → IsOutcome limit (Sized size) text b → a ≡ b
sized_body limit size text a b (is_complete bytes front rest e (long, same)) (is_complete more other left f (so, is)) =
    let both = same_front bytes more rest left (ap (λ t. t ++ rest) (sym same) ∙ sym e ∙ f ∙ ap (λ t. t ++ left) is) (long ∙ sym so) in
    λ i. complete (both.0 i) (both.1 i)
sized_body limit size text a b (is_complete bytes front rest e (long, same)) (is_cut less (short, f)) =
    absurd (short_not_complete size text bytes front rest less e long same short f)
sized_body limit size text a b (is_cut less (short, f)) (is_complete bytes front rest e (long, same)) =
    absurd (short_not_complete size text bytes front rest less e long same short f)
sized_body limit size text a b (is_cut less (short, e)) (is_cut few (low, f)) = ap cut (sym e ∙ f)
sized_body limit size text a b x (is_refused fault front rest e y) = absurd y
sized_body limit size text a b (is_refused fault front rest e x) y = absurd x

-- ---- a chunked body

-- what a stop behind whole chunks makes of a body
abbrev pub outcome_of : List ℕ → Stopped → Outcome
outcome_of done (whole rest) = complete done rest
outcome_of done (broken part) = cut (done ++ part)
outcome_of done wrong = refused BadFraming
outcome_of done large = refused BodyTooLarge

-- a chunked body as whole chunks and a stop
pub record IsChunkedOutcome (limit : ℕ) (text : List ℕ) (outcome : Outcome) : Type 0 where
  pub done : List ℕ
  pub stopped : Stopped
  pub is : IsChunking limit text done stopped
  pub same : outcome ≡ outcome_of done stopped

-- a text that begins with chunks, and one that begins with chunks and a line
behind_chunks : (text front rest chunks here : List ℕ) → text ≡ front ++ rest → front ≡ chunks ++ here → text ≡ chunks ++ (here ++ rest)
behind_chunks text front rest chunks here e f = e ∙ ap (λ t. t ++ rest) f ∙ append_assoc chunks here rest

-- and one that begins with chunks and their last line
behind_last : (text front rest chunks line lines part : List ℕ) → text ≡ front ++ rest → front ≡ lines ++ part → lines ≡ chunks ++ line
    → text ≡ chunks ++ (line ++ (part ++ rest))
behind_last text front rest chunks line lines part e f g =
    e ∙ ap (λ t. t ++ rest) (f ∙ ap (λ t. t ++ part) g) ∙ regroup
  where
    regroup : ((chunks ++ line) ++ part) ++ rest ≡ chunks ++ (line ++ (part ++ rest))
    regroup = simp append_assoc

-- a whole body
complete_chunks : (limit : ℕ) (text bytes front rest : List ℕ) → text ≡ front ++ rest → IsBody limit Chunked bytes front
    → IsChunkedOutcome limit text (complete bytes rest)
complete_chunks limit text bytes front rest e (c, few) =
    let last = c.is_last in
    let line = print_chunk_line last.line in record {
      done = bytes;
      stopped = whole rest;
      is = record {
        chunks = c.chunks;
        here = line ++ (c.trailers ++ rest);
        has_chunks = record { are_chunks = c.are_chunks; within = few };
        text_is = behind_last text front rest c.chunks line c.lines c.trailers e c.text_is last.text_is;
        stops = behind_line last.line (c.trailers ++ rest) refl last.is_line (at_last (whole rest) last.is_last (trailers c.trailers rest refl c.are_trailers));
      };
      same = refl;
    }

-- less than a body
cut_chunks : (limit : ℕ) (text bytes : List ℕ) → IsCutChunked limit bytes text → IsChunkedOutcome limit text (cut bytes)
cut_chunks limit text bytes (Chunks.in_line chunks part has opens e) = record {
  done = bytes;
  stopped = broken [];
  is = record { chunks = chunks; here = part; has_chunks = has; text_is = e; stops = no_line_there (open_line opens) };
  same = ap cut (sym (append-nil bytes));
}
cut_chunks limit text bytes (Chunks.in_chunk done chunks part line has fits less grown e) = record {
  done = done;
  stopped = broken part;
  is = record {
    chunks = chunks;
    here = print_chunk_line line ++ part;
    has_chunks = has;
    text_is = e;
    stops = behind_line line part refl fits.is_line (in_chunk (broken part) fits.some fits.fits (short_chunk less));
  };
  same = ap cut grown;
}
cut_chunks limit text bytes (Chunks.behind_chunk done chunks part end line has fits long opens grown e) = record {
  done = done;
  stopped = broken part;
  is = record {
    chunks = chunks;
    here = print_chunk_line line ++ (part ++ end);
    has_chunks = has;
    text_is = e;
    stops = behind_line line (part ++ end) refl fits.is_line (in_chunk (broken part) fits.some fits.fits (open_end part end refl long opens));
  };
  same = ap cut grown;
}
cut_chunks limit text bytes (Chunks.in_trailers chunks lines part has last opens e) = record {
  done = bytes;
  stopped = broken [];
  is = record {
    chunks = chunks;
    here = print_chunk_line last.line ++ part;
    has_chunks = has;
    text_is = e ∙ ap (λ t. t ++ part) last.text_is ∙ append_assoc chunks (print_chunk_line last.line) part;
    stops = behind_line last.line part refl last.is_line (at_last (broken []) last.is_last (open_trailers opens));
  };
  same = ap cut (sym (append-nil bytes));
}

-- a chunk, a line or trailers that are wrong
bad_chunks : (limit : ℕ) (text front rest : List ℕ) → text ≡ front ++ rest → IsBadChunk limit front → IsChunkedOutcome limit text (refused BadFraming)
bad_chunks limit text front rest e (Chunks.bad_line done chunks part has bad f) = record {
  done = done;
  stopped = wrong;
  is = record {
    chunks = chunks;
    here = part ++ rest;
    has_chunks = has;
    text_is = behind_chunks text front rest chunks part e f;
    stops = no_line_there (bad_line part rest refl bad);
  };
  same = refl;
}
bad_chunks limit text front rest e (Chunks.bad_end done chunks part end line has fits long bad f) =
    let shown = print_chunk_line line in
    let regroup : (shown ++ (part ++ end)) ++ rest ≡ shown ++ (part ++ (end ++ rest)) =
    append_assoc shown (part ++ end) rest ∙ ap (λ t. shown ++ t) (append_assoc part end rest) in record {
      done = done;
      stopped = wrong;
      is = record {
        chunks = chunks;
        here = shown ++ (part ++ (end ++ rest));
        has_chunks = has;
        text_is = behind_chunks text front rest chunks (shown ++ (part ++ end)) e f ∙ ap (λ t. chunks ++ t) regroup;
        stops = behind_line line (part ++ (end ++ rest)) refl fits.is_line (in_chunk wrong fits.some fits.fits (bad_end part end rest refl long bad));
      };
      same = refl;
    }
bad_chunks limit text front rest e (Chunks.bad_trailers done chunks lines part has last bad f) =
    let line = print_chunk_line last.line in record {
      done = done;
      stopped = wrong;
      is = record {
        chunks = chunks;
        here = line ++ (part ++ rest);
        has_chunks = has;
        text_is = behind_last text front rest chunks line lines part e f last.text_is;
        stops = behind_line last.line (part ++ rest) refl last.is_line (at_last wrong last.is_last (bad_trailers part rest refl bad));
      };
      same = refl;
    }

-- a chunk above the limit
large_chunks : (limit : ℕ) (text front rest : List ℕ) → text ≡ front ++ rest → IsLargeChunk limit front → IsChunkedOutcome limit text (refused BodyTooLarge)
large_chunks limit text front rest e c = record {
  done = c.done;
  stopped = large;
  is = record {
    chunks = c.chunks;
    here = print_chunk_line c.line ++ rest;
    has_chunks = c.has_chunks;
    text_is = behind_chunks text front rest c.chunks (print_chunk_line c.line) e c.text_is;
    stops = behind_line c.line rest refl c.is_line (at_large c.exceeds);
  };
  same = refl;
}

-- each fault of a body
refused_chunks : (limit : ℕ) (text : List ℕ) (fault : WireFault) (front rest : List ℕ) → text ≡ front ++ rest → IsBodyFault limit Chunked front fault
    → IsChunkedOutcome limit text (refused fault)
refused_chunks limit text BadHead front rest e x = absurd x
refused_chunks limit text HeadTooLarge front rest e x = absurd x
refused_chunks limit text BadFraming front rest e x = bad_chunks limit text front rest e x
refused_chunks limit text UnknownCoding front rest e x = absurd x
refused_chunks limit text BodyTooLarge front rest e x = large_chunks limit text front rest e x
refused_chunks limit text ReadFailed front rest e x = absurd x
refused_chunks limit text NoMemory front rest e x = absurd x
refused_chunks limit text WriteFailed front rest e x = absurd x

-- each outcome
chunked_outcome : (limit : ℕ) (text : List ℕ) (a : Outcome) → IsOutcome limit Chunked text a → IsChunkedOutcome limit text a
chunked_outcome limit text a (is_complete bytes front rest e x) = complete_chunks limit text bytes front rest e x
chunked_outcome limit text a (is_cut bytes x) = cut_chunks limit text bytes x
chunked_outcome limit text a (is_refused fault front rest e x) = refused_chunks limit text fault front rest e x

-- a stop that breaks off and one that is wrong
beside_so : (done other : List ℕ) (a b : Stopped) → IsBrokenBesideWrong a b → IsCutBesideRefused (outcome_of done a) (outcome_of other b)
beside_so done other a b (part, x, y) = (done ++ part, ap (outcome_of done) x, ap (outcome_of other) y)

-- what two stops make of two bodies
chunked_alike : (limit : ℕ) (text done other : List ℕ) (a b : Stopped) → done ≡ other → AreAlike (IsOpenChunking limit text) a b
    → AreAlikeBodies limit Chunked text (outcome_of done a) (outcome_of other b)
chunked_alike limit text done other a b bytes (inl same) = inl (λ i. outcome_of (bytes i) (same i))
chunked_alike limit text done other a b bytes (inr (opens, inl beside)) = inr (refl, opens, inl (beside_so done other a b beside))
chunked_alike limit text done other a b bytes (inr (opens, inr beside)) = inr (refl, opens, inr (beside_so other done b a beside))

-- a chunked body, said in two ways
chunked_body : (limit : ℕ) (text : List ℕ) (a b : Outcome) → IsOutcome limit Chunked text a → IsOutcome limit Chunked text b → AreAlikeBodies limit Chunked text a b
chunked_body limit text a b x y =
    let one = chunked_outcome limit text a x in
    let two = chunked_outcome limit text b y in
    let both = one_chunking limit text one.done two.done one.stopped two.stopped one.is two.is in
    subst (λ o. AreAlikeBodies limit Chunked text o b) (sym one.same)
    (subst (AreAlikeBodies limit Chunked text (outcome_of one.done one.stopped)) (sym two.same)
    (chunked_alike limit text one.done two.done one.stopped two.stopped both.0 both.1))

-- ---- any framing

-- each framing
pub one_body : (limit : ℕ) (framing : Framing) (text : List ℕ) (a b : Outcome) → IsOutcome limit framing text a → IsOutcome limit framing text b
    → AreAlikeBodies limit framing text a b
one_body limit NoBody text a b x y = inl (no_body limit text a b x y)
one_body limit (Sized size) text a b x y = inl (sized_body limit size text a b x y)
one_body limit Chunked text a b x y = chunked_body limit text a b x y
