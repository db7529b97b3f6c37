-- The URLs of a list and the uploads that they name, one after the other.
use Rattle.std.proofs.Common.{◌≡◌, ◌≢◌, ℕ, ◌<◌, true, false, take, drop, get_or, List, [], ◌∷◌, ◌++◌, length, sym, refl, ap, subst, ◌∙◌, arith, append_assoc, inl, inr}
use Rattle.std.specs.Prelude.{◌==◌, ◌||◌, not, if◌then◌else◌, is_some, Option, None, bytes_eq, codes}
use Rattle.std.proofs.lemmas.List.{length-append, append-nil, take-append-drop}
use Rattle.std.proofs.lemmas.Slice.Eq.{bytes_eq-Decides}
use Rattle.http_uri.specs.Grammar.{path_of}
use Rattle.http_uri.specs.Uri.{Spells, uri_scheme, uri_data, uri_path}
use Rattle.http_uri.specs.declared.uri.Uri.{Uri}
use Rattle.http_uri.proofs.Theorems.{Spells_unique}
use Rattle.up_events.specs.IdText.{text_of}
use Rattle.up_events.proofs.IdLemmas.{digits_length}
use Rattle.up_headers.specs.declared.place.Place.{Place}
use Rattle.up_headers.specs.declared.place.Place.TheVariants.{Creation, Upload, Nowhere}
use Rattle.up_headers.specs.Words.{AreSpaces, BeginsWith, first_word, behind_word}
use Rattle.up_headers.specs.Places.{IsPlace, IsAt, is_upload}
use Rattle.up_events.specs.declared.event.Kind.TheVariants.{Plain, Partial, Final}
use Rattle.up_headers.specs.Concat.{ListsUrls, NameUploads, ReadsParts, IsConcat}
use Rattle.up_headers.proofs.WordLemmas.{word_found, no_first, begins_with}

-- ---- the URLs

-- a text of spaces begins with no word
pub no_url : (text url rest : List ℕ) → AreSpaces text → BeginsWith text url rest → ⊥
no_url text url rest spaces begins =
    omega (arith, ap length (sym (word_found text url rest begins).0 ∙ no_first text spaces), begins.is_word.0)

-- a word that was found, with what stands behind it
pub word_begins : (text word rest : List ℕ) → word ≡ first_word text → rest ≡ behind_word text → 0 < length (first_word text) → BeginsWith text word rest
word_begins text word rest is behind some =
    subst (λ w. BeginsWith text w rest) (sym is) (subst (BeginsWith text (first_word text)) (sym behind) (begins_with text some))

-- what stands behind it is shorter
pub shorter : (text word rest : List ℕ) → BeginsWith text word rest → length rest < length text
shorter text word rest begins =
    omega (arith, ap length begins.spelled, length-append begins.left (word ++ rest), length-append word rest, begins.is_word.0)

-- the first URL is the first word
pub first_only : (text url rest : List ℕ) (urls : List (List ℕ)) → BeginsWith text url rest → ListsUrls text urls
    → (tail : List (List ℕ)) × (urls ≡ url ∷ tail) × ListsUrls rest tail
first_only text url rest [] begins spaces = absurd (no_url text url rest spaces begins)
first_only text url rest (other ∷ urls) begins lists =
    let a = word_found text url rest begins in
    let b = word_found text other lists.0 lists.1 in
    (urls, ap (λ u. u ∷ urls) (sym b.0 ∙ a.0), subst (λ t. ListsUrls t urls) (sym b.1 ∙ a.1) lists.2)

-- the list begins with these URLs, and goes on with the text
pub record Continues (list : List ℕ) (urls : List (List ℕ)) (text : List ℕ) : Type 0 where
  pub more : (tail : List (List ℕ)) → ListsUrls text tail → ListsUrls list (urls ++ tail)
  pub only : (all : List (List ℕ)) → ListsUrls list all → (tail : List (List ℕ)) × (all ≡ urls ++ tail) × ListsUrls text tail

-- before the first
pub starts : (list : List ℕ) → Continues list [] list
starts list = record { more = λ tail lists. lists; only = λ all lists. (all, refl, lists) }

-- behind one more
pub continues : (list : List ℕ) (urls : List (List ℕ)) (text url rest : List ℕ) → Continues list urls text → BeginsWith text url rest → Continues list (urls ++ url ∷ []) rest
continues list urls text url rest before begins = record {
  more = λ tail lists. subst (ListsUrls list) (sym (append_assoc urls (url ∷ []) tail)) (before.more (url ∷ tail) (rest, begins, lists));
  only = λ all lists.
      let o = before.only all lists in
      let f = first_only text url rest o.0 begins o.2 in
      (f.0, o.1 ∙ ap (λ t. urls ++ t) f.1 ∙ sym (append_assoc urls (url ∷ []) f.0), f.2);
}

-- spaces list no URLs
only_spaces : (text : List ℕ) (urls : List (List ℕ)) → AreSpaces text → ListsUrls text urls → urls ≡ []
only_spaces text [] spaces lists = refl
only_spaces text (url ∷ urls) spaces lists = absurd (no_url text url lists.0 spaces lists.1)

-- behind the last
all_listed : (list : List ℕ) (urls : List (List ℕ)) (text : List ℕ) → Continues list urls text → AreSpaces text → ListsUrls list urls
all_listed list urls text before spaces = subst (ListsUrls list) (append-nil urls) (before.more [] spaces)

-- the list has no other URLs
only_listed : (list : List ℕ) (urls : List (List ℕ)) (text : List ℕ) → Continues list urls text → AreSpaces text → (all : List (List ℕ)) → ListsUrls list all → all ≡ urls
only_listed list urls text before spaces all lists =
    let o = before.only all lists in
    o.1 ∙ ap (λ t. urls ++ t) (only_spaces text o.0 spaces o.2) ∙ append-nil urls

-- ---- the uploads

-- one more
pub names_more : (urls : List (List ℕ)) (ids : List ℕ) (url : List ℕ) (id : ℕ) → NameUploads urls ids → IsAt url (Upload id) → NameUploads (urls ++ url ∷ []) (ids ++ id ∷ [])
names_more [] [] url id names is = (is, tt)
names_more [] (other ∷ ids) url id names is = absurd names
names_more (first ∷ urls) [] url id names is = absurd names
names_more (first ∷ urls) (other ∷ ids) url id names is = (names.0, names_more urls ids url id names.1 is)

-- each URL among them names an upload
named_at : (urls : List (List ℕ)) (url : List ℕ) (tail : List (List ℕ)) (ids : List ℕ) → NameUploads (urls ++ url ∷ tail) ids → (id : ℕ) × IsAt url (Upload id)
named_at [] url tail [] names = absurd names
named_at [] url tail (id ∷ ids) names = (id, names.0)
named_at (first ∷ urls) url tail [] names = absurd names
named_at (first ∷ urls) url tail (id ∷ ids) names = named_at urls url tail ids names.1

-- no uploads have no URLs
no_names : (urls : List (List ℕ)) → NameUploads urls [] → urls ≡ []
no_names [] names = refl
no_names (url ∷ urls) names = absurd names

-- and no URLs name no uploads
none_named : (ids : List ℕ) → NameUploads [] ids → ids ≡ []
none_named [] names = refl
none_named (id ∷ ids) names = absurd names

-- ---- a URL leads to one place

-- the path by the parts of a URI
path_in : Option (List ℕ) → List ℕ → List ℕ
path_in scheme kept = if not (length kept == 0) || is_some scheme then path_of kept else []

pub same_path : (text : List ℕ) (u v : Uri) → Spells text u → Spells text v → uri_path u ≡ uri_path v
unfolding path_in
same_path text u v one other =
    let e = Spells_unique text u v one other in
    let same : path_in (uri_scheme u) (uri_data u) ≡ path_in (uri_scheme v) (uri_data v) =
    ap (λ s. path_in s (uri_data u)) e.0 ∙ ap (path_in (uri_scheme v)) e.2 in
    same

-- a place that is no upload's
pub elsewhere : (at : Place) → ((id : ℕ) → at ≢ Upload id) → is_upload at ≡ false
elsewhere Creation other = refl
elsewhere (Upload id) other = absurd (other id refl)
elsewhere Nowhere other = refl

-- the creation URL is no upload's
apart : (path : List ℕ) (at : Place) (id : ℕ) → is_upload at ≡ false → IsPlace path at → path ≢ codes "/files/" ++ text_of id
apart path Creation id is (inl e) same = omega (arith, ap length (sym e ∙ same), digits_length 32 id)
apart path Creation id is (inr e) same = omega (arith, ap length (sym e ∙ same), digits_length 32 id)
apart path (Upload other) id is at same = absurd (cc)
apart path Nowhere id is at same = at.2 id same

-- a URL that leads elsewhere is no upload's
not_upload : (url : List ℕ) (at : Place) (id : ℕ) → is_upload at ≡ false → IsAt url at → IsAt url (Upload id) → ⊥
not_upload url at id is (inl one) (inl other) = apart (uri_path one.0) at id is one.2 (same_path url one.0 other.0 one.1 other.1 ∙ other.2)
not_upload url at id is (inr none) (inl other) = none.1 _ _ _ other.1
not_upload url at id is one (inr other) = absurd (cc)

-- ---- the list

-- a list whose URLs have all named an upload
pub list_read : (list : List ℕ) (urls : List (List ℕ)) (text ids : List ℕ) → Continues list urls text → AreSpaces text → NameUploads urls ids → 0 < length ids → ReadsParts list ids
list_read list urls text ids before spaces names some = (urls, all_listed list urls text before spaces, names, some)

-- one without URLs
pub list_empty : (list : List ℕ) (urls : List (List ℕ)) (text ids : List ℕ) → Continues list urls text → AreSpaces text → NameUploads urls ids → length ids ≡ 0
    → (parts : List ℕ) → ¬ (ReadsParts list parts)
list_empty list urls text (id ∷ ids) before spaces names none parts reads = absurd (omega arith)
list_empty list urls text [] before spaces names none parts reads =
    let e : reads.0 ≡ [] = only_listed list urls text before spaces reads.0 reads.1 ∙ no_names urls names in
    let same = none_named parts (subst (λ us. NameUploads us parts) e reads.2) in
    omega (arith, ap length same, reads.3)

-- one with a URL that isn't an upload's
pub list_bad : (list : List ℕ) (urls : List (List ℕ)) (text url rest : List ℕ) (at : Place) → Continues list urls text → BeginsWith text url rest
    → IsAt url at → is_upload at ≡ false → (parts : List ℕ) → ¬ (ReadsParts list parts)
list_bad list urls text url rest at before begins leads is parts reads =
    let o = before.only reads.0 reads.1 in
    let f = first_only text url rest o.0 begins o.2 in
    let e : reads.0 ≡ urls ++ url ∷ f.0 = o.1 ∙ ap (λ t. urls ++ t) f.1 in
    let n = named_at urls url f.0 parts (subst (λ us. NameUploads us parts) e reads.2) in
    not_upload url at n.0 is leads n.1

-- ---- the text

-- a text that begins so is that and what stands behind it
pub final_list : (text list : List ℕ) → bytes_eq (take 6 text) (codes "final;") ≡ true → list ≡ drop 6 text → text ≡ codes "final;" ++ list
final_list text list begins is =
    sym (take-append-drop 6 text) ∙ ap (λ l. l ++ drop 6 text) ((bytes_eq-Decides (take 6 text) (codes "final;")).0 begins)
    ∙ ap (λ l. codes "final;" ++ l) (sym is)

-- where the list reads as no parts the text says nothing
pub final_bad : (text list : List ℕ) → text ≡ codes "final;" ++ list → ((ids : List ℕ) → ¬ (ReadsParts list ids)) → IsConcat text None
final_bad text list is none Plain parts reads = let longer = ap length (sym is ∙ reads.0) in omega (arith, longer)
final_bad text list is none Partial parts reads = let first = ap (λ t. get_or t 0 0) (sym is ∙ reads.0) in omega (arith, first)
final_bad text list is none Final parts reads =
    let e = sym is ∙ reads.1 in
    let same : reads.0 ≡ list = cc e in
    none parts (subst (λ l. ReadsParts l parts) same reads.2)
