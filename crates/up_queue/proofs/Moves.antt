-- Each step of a queue keeps its rule.
use Rattle.std.proofs.Common.{◌≡◌, ◌≢◌, ◌≤◌, ℕ, zero, suc, true, false, true≢false, List, [], ◌∷◌, ◌++◌, length, set, sym, refl, ap, ◌∙◌, subst, ⊎_elim, append_assoc, arith, length-append}
use mathlib.Core.Option.{some, some-ne-none}
use lib.ListN.{get_elem?}
use Rattle.crossbeam_queue.specs.Fifo.{Pushes, Pops, Forks, Merges, Learns}
use Rattle.crossbeam_queue.proofs.Lists.{at_set, at_snoc}
use Rattle.up_events.proofs.FrontLemmas.{nothing_lawful}
use Rattle.up_queue.specs.declared.item.Item.{Item}
use Rattle.up_queue.specs.declared.rule.EndView.{EndView}
use Rattle.up_queue.specs.Line.{IsOrderly, IsQueueState}
use Rattle.up_queue.specs.Rule.{end_view, IsRight, IsInOrder}
use Rattle.up_queue.proofs.Beginnings.{orderly_before}

at_end : (l : List EndView) (a b : EndView) (j : ℕ) → get_elem? l j ≢ some b → get_elem? (l ++ a ∷ []) j ≡ some b → j ≡ length l
at_end [] a b zero n e = refl
at_end [] a b (suc j) n e = absurd (some-ne-none b (sym e))
at_end (x ∷ xs) a b zero n e = absurd (n e)
at_end (x ∷ xs) a b (suc j) n e = ap suc (at_end xs a b j n e)

abbrev All : (ℕ → EndView → Type 0) → List EndView → Type 0
All F views = (pass : ℕ) (v : EndView) → get_elem? views pass ≡ some v → F pass v

all_set : (F : ℕ → EndView → Type 0) (views : List EndView) (pass : ℕ) (w : EndView) → F pass w → ((j : ℕ) (u : EndView) → j ≢ pass → get_elem? views j ≡ some u → F j u) → All F (set views pass w)
all_set F views pass w mine others j u e = ⊎_elim (λ (x : (j ≡ pass) × (w ≡ u)). subst (λ (y : ℕ × EndView). F y.0 y.1) (λ i. (sym x.0 i, x.1 i)) mine)
    (λ (x : (j ≢ pass) × (get_elem? views j ≡ some u)). others j u x.0 x.1) (at_set views pass j w u e)

pub no_items : IsOrderly []
no_items = record {
  lawful = nothing_lawful;
  ends_last = tt;
}

empty_line : IsQueueState 0 [] [] []
empty_line = record { whole = refl; room = omega arith; orderly = no_items }

pub begins : IsInOrder [] (end_view true true 0 [] [] ∷ [])
begins = record {
  putter = 0;
  taker = 0;
  capacity = 0;
  put = [];
  taken = [];
  line = empty_line;
  known =
      all_set (IsRight 0 0 0 [] []) (end_view true true 0 [] [] ∷ []) 0 (end_view true true 0 [] []) (record { puts = λ _. (refl, refl, refl); takes = λ _. (refl, refl, refl) })
      (λ j u other e. absurd (other (at_end [] _ u j (λ x. some-ne-none u (sym x)) e)));
}

pub puts : (n pass : ℕ) (v : EndView) (x : Item) → v.puts ≡ true → v.capacity ≡ n → IsOrderly (v.put ++ x ∷ []) → Pushes IsInOrder n pass v x (λ w. w ≡ end_view v.puts v.takes v.capacity (v.put ++ x ∷ []) v.taken)
puts n pass v x may room next items views short h at =
    let w : EndView = end_view v.puts v.takes v.capacity (v.put ++ x ∷ []) v.taken in
    let mine = h.known pass v at in
    let is = mine.puts may in
    let put = h.put ++ x ∷ [] in
    let longer = length-append items (x ∷ []) in
    let same = is.1 in (
      w,
      record {
        putter = h.putter;
        taker = h.taker;
        capacity = h.capacity;
        put = put;
        taken = h.taken;
        line = record {
          whole = ap (λ l. l ++ x ∷ []) h.line.whole ∙ append_assoc h.taken items (x ∷ []);
          room = omega arith;
          orderly = subst (λ l. IsOrderly (l ++ x ∷ [])) is.2 next;
        };
        known =
            all_set (IsRight h.putter h.taker h.capacity put h.taken) views pass w (record { puts = λ _. (is.0, is.1, ap (λ l. l ++ x ∷ []) is.2); takes = mine.takes })
            (λ j u other e. record { puts = λ p. absurd (other (((h.known j u e).puts p).0 ∙ sym is.0)); takes = (h.known j u e).takes });
      },
      refl,
    )

pub takes : (pass : ℕ) (v : EndView) → v.takes ≡ true → Pops IsInOrder pass v (λ x w. (w ≡ end_view v.puts v.takes v.capacity v.put (v.taken ++ x ∷ [])) × IsOrderly w.taken)
takes pass v may x items views h at =
    let w : EndView = end_view v.puts v.takes v.capacity v.put (v.taken ++ x ∷ []) in
    let mine = h.known pass v at in
    let is = mine.takes may in
    let taken = h.taken ++ x ∷ [] in
    let whole : h.put ≡ taken ++ items = h.line.whole ∙ sym (append_assoc h.taken (x ∷ []) items) in
    let room = h.line.room in (
      w,
      record {
        putter = h.putter;
        taker = h.taker;
        capacity = h.capacity;
        put = h.put;
        taken = taken;
        line = record { whole = whole; room = omega arith; orderly = h.line.orderly };
        known =
            all_set (IsRight h.putter h.taker h.capacity h.put taken) views pass w (record { puts = mine.puts; takes = λ _. (is.0, is.1, ap (λ l. l ++ x ∷ []) is.2) })
            (λ j u other e. record { puts = (h.known j u e).puts; takes = λ p. absurd (other (((h.known j u e).takes p).0 ∙ sym is.0)) });
      },
      (refl, subst (λ l. IsOrderly (l ++ x ∷ [])) (sym is.2) (orderly_before taken items (subst IsOrderly whole h.line.orderly))),
    )

pub forks : (room pass : ℕ) (v : EndView) → v.puts ≡ true → v.takes ≡ true → v.capacity ≡ 0 → Forks IsInOrder pass v (end_view true false room v.put []) (end_view false true room [] v.taken)
forks room pass v a b zero_yet items views h at =
    let l : EndView = end_view true false room v.put [] in
    let r : EndView = end_view false true room [] v.taken in
    let mine = h.known pass v at in
    let vs : List EndView = set views pass l in
    let Old : ℕ → EndView → Type 0 = λ j u. (u.puts ≡ true → (j ≡ h.putter) × (u.capacity ≡ room) × (u.put ≡ h.put)) × (u.takes ≢ true) in
    let old : All Old vs =
    all_set Old views pass l ((λ _. ((mine.puts a).0, refl, (mine.puts a).2)), λ p. true≢false (sym p))
    (λ j u other e. ((λ p. absurd (other (((h.known j u e).puts p).0 ∙ sym (mine.puts a).0))), λ p. other (((h.known j u e).takes p).0 ∙ sym (mine.takes b).0)))
    in
    let few = h.line.room in
    let none_yet = (mine.puts a).1 in
    record {
      putter = h.putter;
      taker = length vs;
      capacity = room;
      put = h.put;
      taken = h.taken;
      line = record { whole = h.line.whole; room = omega arith; orderly = h.line.orderly };
      known = λ j u e.
          ⊎_elim (λ x. record { puts = (old j u x).0; takes = λ p. absurd ((old j u x).1 p) })
          (λ (is : r ≡ u). record {
            puts = λ p. absurd (true≢false (sym (ap (λ (y : EndView). y.puts) is ∙ p)));
            takes = λ p. (at_end vs r u j (λ x. (old j u x).1 p) e, ap (λ (y : EndView). y.capacity) (sym is), ap (λ (y : EndView). y.taken) (sym is) ∙ (mine.takes b).2);
          })
          (at_snoc vs r u j e);
    }

pub merges : (pass : ℕ) (v : EndView) (other : ℕ) (u : EndView) → v.puts ≡ true → u.takes ≡ true → Merges IsInOrder pass v other u (end_view true true v.capacity v.put u.taken) (end_view false false 0 [] [])
merges pass v other u a b items views h at two at' =
    let both : EndView = end_view true true v.capacity v.put u.taken in
    let mine = (h.known pass v at).puts a in
    let vs : List EndView = set views pass both in
    let was : get_elem? views other ≡ some u = ⊎_elim (λ x. absurd (two x.0)) (λ x. x.1) (at_set views pass other both u at') in
    let theirs = (h.known other u was).takes b in
    let Now : ℕ → EndView → Type 0 = λ j y. j ≢ other → IsRight h.putter pass h.capacity h.put h.taken j y in
    let now : All Now vs =
    all_set Now views pass both (λ _. record { puts = λ _. mine; takes = λ _. (refl, mine.1, theirs.2) })
    (λ j y _ e apart. record { puts = (h.known j y e).puts; takes = λ p. absurd (apart (((h.known j y e).takes p).0 ∙ sym theirs.0)) })
    in
    record {
      putter = h.putter;
      taker = pass;
      capacity = h.capacity;
      put = h.put;
      taken = h.taken;
      line = h.line;
      known =
          all_set (IsRight h.putter pass h.capacity h.put h.taken) vs other (end_view false false 0 [] [])
          (record { puts = λ p. absurd (true≢false (sym p)); takes = λ p. absurd (true≢false (sym p)) })
          (λ j y apart e. now j y e apart);
    }

pub learns_held : (pass : ℕ) (v : EndView) → v.puts ≡ true → Learns IsInOrder pass v (λ items. length items ≤ length v.put)
learns_held pass v a items views h at =
    let put = ap length (((h.known pass v at).puts a).2 ∙ h.line.whole) in
    let parts = length-append h.taken items in
    omega arith

pub learns_both : (pass : ℕ) (v : EndView) → v.puts ≡ true → v.takes ≡ true → Learns IsInOrder pass v (λ items. IsQueueState v.capacity v.put v.taken items)
learns_both pass v a b items views h at =
    let is = (h.known pass v at).puts a in
    let also = (h.known pass v at).takes b in
    subst (λ (y : ℕ × List Item × List Item). IsQueueState y.0 y.1 y.2 items) (λ i. (sym is.1 i, sym is.2 i, sym also.2 i)) h.line
