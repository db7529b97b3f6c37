use Rattle.std.proofs.Common.{◌≡◌, ℕ, Bor, List, [], refl, ap, ◌∙◌, Option, Some, None, option_copied, unwrap_or, rules}
use Rattle.up_headers.specs.Creations.{concat_in, metadata_in}
use Rattle.up_headers.proofs.creation.texts_of.Goals as goal

-- the text of a field; empty if it is not there
text_told : (found : Option (Bor (List ℕ))) (other text : Bor (List ℕ)) (value : Option (List ℕ))
    → text ≡ unwrap_or found other → other.now ≡ [] → option_copied found ≡ value → text.now ≡ unwrap_or value []
text_told None other text value is empty same = ap (λ (t : Bor (List ℕ)). t.now) is ∙ (empty ∙ ap (λ (v : Option (List ℕ)). unwrap_or v []) same)
text_told (Some x) other text value is empty same = ap (λ (t : Bor (List ℕ)). t.now) is ∙ ap (λ (v : Option (List ℕ)). unwrap_or v []) same

pub returns : goal.returns
returns c =
    let concat : c.unwrap_or-concat.result.now ≡ concat_in c.args.fields.now = text_told _ _ _ _ c.unwrap_or-concat.ensures refl c.in_ok-once-2.ensures.1 in
    let metadata : c.unwrap_or-metadata.result.now ≡ metadata_in c.args.fields.now = text_told _ _ _ _ c.unwrap_or-metadata.ensures refl c.in_ok-once.ensures.1 in
    (search rules, record { length = c.in_ok-length.ensures.1; deferred = c.in_ok-deferred.ensures.1; metadata = metadata; concat = concat })
