-- The report written one lane after another.
use Rattle.std.proofs.Common.{◌≡◌, ℕ, ◌+◌, ◌<◌, List, [], ◌∷◌, ◌++◌, length, take, drop, get_or, zero, suc, append-nil, Option, refl, sym, ap, ◌∙◌, subst, append_assoc, arith}
use Rattle.std.specs.Io.KnownBytes.{Appends}
use Rattle.up_server.specs.ReportText.{lane_text, lanes_text}
use Rattle.std.proofs.KnownBytes.{Appends-trans}
use Rattle.up_wire.specs.Response.{WritesFront}
use Rattle.up_dispatch.specs.declared.report.LaneReport.{LaneReport}
use Rattle.up_server.proofs.Writing.{front_then, front_cut}

-- the lanes up to one, that one, and the others
pub lanes_text-split : {H : Type 0} (count : H → ℕ) (text : H → List ℕ) (number : ℕ) (lanes : List (LaneReport H)) (i : ℕ) (d : LaneReport H) → i < length lanes
    → lanes_text count text number lanes ≡ (lanes_text count text number (take i lanes) ++ lane_text count text (number + i) (get_or lanes i d)) ++ lanes_text count text (number + i + 1) (drop (suc i) lanes)
lanes_text-split count text number [] i d inside = absurd (omega arith)
lanes_text-split count text number (lane ∷ lanes) zero d inside = let e : number + zero ≡ number = omega arith in rw e refl
lanes_text-split count text number (lane ∷ lanes) (suc i) d inside =
    let one : (number + 1) + i ≡ number + suc i = omega arith in
    ap (λ t. lane_text count text number lane ++ t) (lanes_text-split count text (number + 1) lanes i d (omega arith)
    ∙ ap (λ n. (lanes_text count text (number + 1) (take i lanes) ++ lane_text count text n (get_or lanes i d)) ++ lanes_text count text (n + 1) (drop (suc i) lanes)) one)
    ∙ sym (append_assoc (lane_text count text number lane) (lanes_text count text (number + 1) (take i lanes) ++ lane_text count text (number + suc i) (get_or lanes i d)) (lanes_text count text (number + suc i + 1) (drop (suc i) lanes)))
    ∙ ap (λ t. t ++ lanes_text count text (number + suc i + 1) (drop (suc i) lanes)) (sym (append_assoc (lane_text count text number lane) (lanes_text count text (number + 1) (take i lanes)) (lane_text count text (number + suc i) (get_or lanes i d))))

-- what one more lane adds
pub lanes_text-more : {H : Type 0} (count : H → ℕ) (text : H → List ℕ) (number : ℕ) (lanes : List (LaneReport H)) (i : ℕ) (d : LaneReport H) → i < length lanes
    → lanes_text count text number (take (suc i) lanes) ≡ lanes_text count text number (take i lanes) ++ lane_text count text (number + i) (get_or lanes i d)
lanes_text-more count text number [] i d inside = absurd (omega arith)
lanes_text-more count text number (lane ∷ lanes) zero d inside = let e : number + zero ≡ number = omega arith in append-nil (lane_text count text number lane) ∙ ap (λ n. lane_text count text n lane) (sym e)
lanes_text-more count text number (lane ∷ lanes) (suc i) d inside =
    let one : (number + 1) + i ≡ number + suc i = omega arith in
    ap (λ t. lane_text count text number lane ++ t) (lanes_text-more count text (number + 1) lanes i d (omega arith) ∙ ap (λ n. lanes_text count text (number + 1) (take i lanes) ++ lane_text count text n (get_or lanes i d)) one)
    ∙ sym (append_assoc (lane_text count text number lane) (lanes_text count text (number + 1) (take i lanes)) (lane_text count text (number + suc i) (get_or lanes i d)))

-- the lanes break off in one
pub lanes_cut : {H : Type 0} (count : H → ℕ) (text : H → List ℕ) (a b c : Option (List ℕ)) (lanes : List (LaneReport H)) (i : ℕ) (d : LaneReport H) → i < length lanes
    → Appends a b (lanes_text count text 0 (take i lanes)) → WritesFront b c (lane_text count text i (get_or lanes i d)) → WritesFront a c (lanes_text count text 0 lanes)
lanes_cut count text a b c lanes i d inside before next =
    let e : 0 + i ≡ i = omega arith in
    let some = front_then a b c (lanes_text count text 0 (take i lanes)) (lane_text count text i (get_or lanes i d)) before next in
    let whole : lanes_text count text 0 lanes ≡ (lanes_text count text 0 (take i lanes) ++ lane_text count text i (get_or lanes i d)) ++ lanes_text count text (i + 1) (drop (suc i) lanes) =
    lanes_text-split count text 0 lanes i d inside ∙ ap (λ n. (lanes_text count text 0 (take i lanes) ++ lane_text count text n (get_or lanes i d)) ++ lanes_text count text (n + 1) (drop (suc i) lanes)) e in
    subst (WritesFront a c) (sym whole) (front_cut a c (lanes_text count text 0 (take i lanes) ++ lane_text count text i (get_or lanes i d)) (lanes_text count text (i + 1) (drop (suc i) lanes)) some)

-- the lanes up to one, and that one
pub lanes_more : {H : Type 0} (count : H → ℕ) (text : H → List ℕ) (a b c : Option (List ℕ)) (lanes : List (LaneReport H)) (i : ℕ) (d : LaneReport H) → i < length lanes
    → Appends a b (lanes_text count text 0 (take i lanes)) → Appends b c (lane_text count text i (get_or lanes i d)) → Appends a c (lanes_text count text 0 (take (i + 1) lanes))
lanes_more count text a b c lanes i d inside before next =
    let one : i + 1 ≡ suc i = omega arith in
    let e : 0 + i ≡ i = omega arith in
    let more : lanes_text count text 0 (take (i + 1) lanes) ≡ lanes_text count text 0 (take i lanes) ++ lane_text count text i (get_or lanes i d) =
    ap (λ n. lanes_text count text 0 (take n lanes)) one ∙ lanes_text-more count text 0 lanes i d inside ∙ ap (λ n. lanes_text count text 0 (take i lanes) ++ lane_text count text n (get_or lanes i d)) e in
    subst (Appends a c) (sym more) (Appends-trans _ _ _ _ _ before next)
