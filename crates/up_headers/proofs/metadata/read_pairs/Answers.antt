use Rattle.std.proofs.Common.{◌≡◌, ◌∷◌, ◌++◌, [], true, false, cond, bytes_eq, sym, ap, ◌∙◌, rules}
use Rattle.std.proofs.lemmas.Map.Text.{is_eq-slice_cmp}
use Rattle.up_headers.specs.Metadata.{Pair, has_key}
use Rattle.up_headers.specs.Reading.{parts_of, parts_reading, and_then}
use Rattle.up_headers.proofs.MetadataKeys.{has_more, is_new, with_key, part_read}
use Rattle.up_headers.proofs.metadata.read_pairs.Goals as goal

pub parts-preserved : goal.parts-preserved
parts-preserved c =
    let old = c.parts.invariant in
    let word = c.in-Some-first_word.ensures in
    let key = c.in-Some-first_word.key in
    let part = c.cut_part.result.0.now in
    let behind = parts_of c.cut_part.result.1 in
    let pairs = c.parts.pairs.items in
    let pair = c.in-Ok.pair in
    let new : has_key key.now pairs ≡ false = sym (old.known key) ∙ is_new _ (cc (c.in-Ok-true.ensures.added, c.in-Ok-true.field-0-test)) in
    let read = part_read pairs part key.now c.in-Some-first_word.encoded.now pair word.0 word.1 word.2 new c.in-Ok.ensures in
    let named : pair.0 ≡ key.now = with_key key.now _ pair c.in-Ok.ensures in
    let same : c.push.new.self.items ≡ pairs ++ pair ∷ [] = c.in_ok-push.ensures.items in
    record {
      read =
          ap (λ ps. parts_reading ps behind) same
          ∙ ap (λ r. and_then r (λ (p : Pair). parts_reading (pairs ++ p ∷ []) behind)) (sym read)
          ∙ ap (parts_reading pairs) (sym c.cut_part.ensures)
          ∙ ap (λ r. parts_reading pairs (parts_of r)) (sym c.in-Some.is)
          ∙ old.read;
      known = λ k.
          c.in-Ok-true.ensures.updates.0 k
          ∙ (λ i. cond (is_eq-slice_cmp key.now k.now i) true (old.known k i))
          ∙ ap (λ n. cond (bytes_eq n k.now) true (has_key k.now pairs)) (sym named)
          ∙ sym (has_more k.now pairs pair)
          ∙ ap (has_key k.now) (sym same);
    }

pub returns-in-Err-read_pair : goal.returns-in-Err-read_pair
returns-in-Err-read_pair c = search rules
