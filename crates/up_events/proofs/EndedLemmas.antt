-- Ids in buckets, and one more.
use Rattle.std.proofs.Common.{◌≡◌, ◌≢◌, ℕ, ◌%◌, ◌||◌, eqb, Some, List, [], ◌∷◌, ◌++◌, mod-lt, refl, sym, ap, ◌∙◌, subst, arith, get_or, slice_get, slice_set}
use Rattle.std.proofs.Math.ListN.{length-set}
use Rattle.std.proofs.lemmas.Option.{slice_get_read}
use Rattle.up_events.specs.Ascending.{has, HasAdded}
use Rattle.up_events.specs.Ended.{IsBucket, AreSpread, AreEmptyBuckets}
use Rattle.up_events.proofs.AscendingLemmas.{has-push, or_false}
use Rattle.up_events.proofs.ListLemmas.{each_set, not_same}

pub spread_empty : (buckets : List (List ℕ)) → AreEmptyBuckets 4096 buckets → AreSpread [] buckets
spread_empty buckets are = record {
  rows = are.rows;
  each = λ k bucket e. subst (IsBucket [] k) (sym (are.empty k bucket e)) (λ u e. refl);
}

other_bucket : (ids : List ℕ) (id k : ℕ) (bucket : List ℕ) → k ≢ id % 4096 → IsBucket ids k bucket → IsBucket (ids ++ id ∷ []) k bucket
other_bucket ids id k bucket apart is u e =
    is u e ∙ sym (has-push ids id u ∙ ap (λ b. has ids u || b) (not_same id u (λ h. apart (sym e ∙ ap (λ v. v % 4096) h))) ∙ or_false (has ids u))

own_bucket : (ids : List ℕ) (id k : ℕ) (old new : List ℕ) → IsBucket ids k old → HasAdded old id new → IsBucket (ids ++ id ∷ []) k new
own_bucket ids id k old new is adds u e = adds u ∙ ap (λ b. b || eqb id u) (is u e) ∙ sym (has-push ids id u)

pub spread_after : (ids : List ℕ) (buckets : List (List ℕ)) (id : ℕ) (old new : List ℕ) → AreSpread ids buckets → slice_get buckets (id % 4096) ≡ Some old → HasAdded old id new → AreSpread (ids ++ id ∷ []) (slice_set buckets (id % 4096) new)
spread_after ids buckets id old new are was adds = record {
  rows = length-set buckets (id % 4096) new ∙ are.rows;
  each = each_set (IsBucket ids) (IsBucket (ids ++ id ∷ [])) buckets (id % 4096) new are.each
      (own_bucket ids id (id % 4096) old new (are.each (id % 4096) old was) adds)
      (λ k b apart e. other_bucket ids id k b apart e);
}

-- the bucket that is read at the place of an id
pub bucket_read : (ids : List ℕ) (buckets : List (List ℕ)) (id i : ℕ) (bucket : List ℕ) → AreSpread ids buckets → i ≡ id % 4096 → bucket ≡ get_or buckets i bucket → slice_get buckets (id % 4096) ≡ Some bucket
bucket_read ids buckets id i bucket are is read =
    slice_get_read buckets 4096 (id % 4096) bucket (sym are.rows) (mod-lt id (omega arith)) (read ∙ ap (λ k. get_or buckets k bucket) is)
