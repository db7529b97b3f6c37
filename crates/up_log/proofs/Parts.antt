-- Files of which a part was read.
use Rattle.std.proofs.Common.{◌≡◌, ℕ, ◌+◌, List, [], ◌∷◌, ◌++◌, length, drop, refl, sym, ◌∙◌, ap, subst, arith, append_assoc, length-append}
use Rattle.std.proofs.lemmas.List.{append-nil, drop_at}
use Rattle.up_log.specs.declared.entry.Entry.{Entry}
use Rattle.up_log.specs.declared.setup.Setup.{Setup}
use Rattle.up_log.specs.Spelling.{word, batch}
use Rattle.up_log.specs.Blocks.{block, blocks, beginning, written, IsLog}
use Rattle.up_log.specs.Logs.{IsFileReadUpTo}
use Rattle.up_log.proofs.Batches.{length_word, split}
use Rattle.up_log.proofs.Crash.{written_push}

pub tail_is : (setup : Setup) (file : List ℕ) (gate len : ℕ) (read left : List (List Entry)) (part : IsFileReadUpTo setup file gate len read left) → drop gate file ≡ blocks left ++ part.back
tail_is setup file gate len read left part =
    ap (λ (l : List ℕ). drop gate l) part.whole ∙ drop_at (written setup read) (blocks left ++ part.back) gate (sym part.place)

-- a log of the batches that were read, if none is left
pub all_read : (setup : Setup) (file : List ℕ) (gate len : ℕ) (read left : List (List Entry)) → IsFileReadUpTo setup file gate len read left → left ≡ [] → IsLog setup file read
all_read setup file gate len read left part none =
    record { back = part.back; whole = part.whole ∙ ap (λ (l : List (List Entry)). written setup read ++ (blocks l ++ part.back)) none; closed = part.closed }

block_length : (first : List Entry) → length (block first) ≡ 9 + length (batch first)
block_length first = omega (arith, length-append (word (length (batch first))) (batch first), length_word (length (batch first)))

one_more : (setup : Setup) (read others : List (List Entry)) (first : List Entry) (back : List ℕ) → written setup read ++ (blocks (first ∷ others) ++ back) ≡ written setup (read ++ first ∷ []) ++ (blocks others ++ back)
one_more setup read others first back =
    ap (λ (l : List ℕ). written setup read ++ l) (split first others back)
    ∙ sym (append_assoc (written setup read) (block first) (blocks others ++ back))
    ∙ ap (λ (l : List ℕ). l ++ (blocks others ++ back)) (written_push setup read first)

pub goes_on : (setup : Setup) (file : List ℕ) (gate len place : ℕ) (read left others : List (List Entry)) (first : List Entry) → IsFileReadUpTo setup file gate len read left → left ≡ first ∷ others → place ≡ gate + 9 + length (batch first)
    → IsFileReadUpTo setup file place len (read ++ first ∷ []) others
goes_on setup file gate len place read left others first part are is = record {
  back = part.back;
  whole = part.whole ∙ ap (λ (l : List (List Entry)). written setup read ++ (blocks l ++ part.back)) are ∙ one_more setup read others first part.back;
  closed = part.closed;
  place = is ∙ omega (arith, part.place, block_length first, length-append (written setup read) (block first)) ∙ ap length (written_push setup read first);
  len_is = part.len_is;
}

-- a log of all batches
pub log_is : (setup : Setup) (file : List ℕ) (gate len : ℕ) (read left : List (List Entry)) → IsFileReadUpTo setup file gate len read left → IsLog setup file (read ++ left)
log_is setup file gate len read [] part =
    record { back = part.back; whole = part.whole ∙ ap (λ (l : List (List Entry)). written setup l ++ part.back) (sym (append-nil read)); closed = part.closed }
log_is setup file gate len read (first ∷ others) part =
    let next = goes_on setup file gate len (gate + 9 + length (batch first)) read (first ∷ others) others first part refl refl in
    subst (IsLog setup file) (append_assoc read (first ∷ []) others) (log_is setup file (gate + 9 + length (batch first)) len (read ++ first ∷ []) others next)

-- the first part of a log that is opened
pub starts : (setup : Setup) (file : List ℕ) (len : ℕ) (batches : List (List Entry)) → IsLog setup file batches → len ≡ length file → 33 ≡ length (beginning setup) → IsFileReadUpTo setup file 33 len [] batches
starts setup file len batches log is long = record {
  back = log.back;
  whole = log.whole ∙ append_assoc (beginning setup) (blocks batches) log.back ∙ ap (λ (l : List ℕ). l ++ (blocks batches ++ log.back)) (sym (append-nil (beginning setup)));
  closed = log.closed;
  place = long ∙ ap length (sym (append-nil (beginning setup)));
  len_is = is;
}

pub with_none : (setup : Setup) (file : List ℕ) (read left : List (List Entry)) → left ≡ [] → IsLog setup file read → IsLog setup file (read ++ left)
with_none setup file read left none log =
    subst (IsLog setup file) (sym (ap (λ (l : List (List Entry)). read ++ l) none ∙ append-nil read)) log
