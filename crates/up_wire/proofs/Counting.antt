-- Bytes that are taken, and interruptions that are counted, step by step.
use Rattle.std.proofs.Common.{◌≡◌, ℕ, ◌+◌, ◌<◌, List, [], ◌++◌, refl, subst, arith}
use Rattle.std.specs.Io.KnownBytes.{Consumes}
use Rattle.std.proofs.KnownBytes.{Consumes-nil, Consumes-trans}
use Rattle.up_wire.specs.Device.{Device, Counts}
use Rattle.up_wire.specs.Limits.{max_interruptions}
use Rattle.up_wire.specs.Message.{Ending, open_yet}
use Rattle.up_wire.specs.Steps.{Took}

-- before any step
pub counts_none : (device : Device) (count : ℕ) → Counts device device count count
counts_none device count = record { rose = omega arith; counted = refl }

pub took_none : (device : Device) (count : ℕ) → count < max_interruptions → Took device device count count [] open_yet
took_none device count patient = record { bytes = Consumes-nil _; counts = counts_none device count; ends = patient }

-- one more step
pub counts_on : (a b c : Device) (i j k : ℕ) → Counts a b i j → Counts b c j k → Counts a c i k
counts_on a b c i j k first next = record {
  rose = omega (arith, first.rose, next.rose);
  counted = omega (arith, first.counted, next.counted);
}

pub took_on : {a b c : Device} {i j k : ℕ} {x y : List ℕ} {ending : Ending} → Took a b i j x open_yet → Took b c j k y ending → Took a c i k (x ++ y) ending
took_on {a} {b} {c} {i} {j} {k} first next = record {
  bytes = Consumes-trans _ _ _ _ _ first.bytes next.bytes;
  counts = counts_on a b c i j k first.counts next.counts;
  ends = next.ends;
}

-- a call of the source that was not interrupted
pub took_more : {a b c : Device} {i j : ℕ} {x : List ℕ} (y : List ℕ) → Took a b i j x open_yet → Consumes b.bytes c.bytes y
    → c.interruptions ≡ b.interruptions + 0 → Took a c i j (x ++ y) open_yet
took_more y first next quiet = record {
  bytes = Consumes-trans _ _ _ _ _ first.bytes next;
  counts = record { rose = first.counts.rose; counted = omega (arith, first.counts.counted, quiet) };
  ends = first.ends;
}

-- the same bytes, and the same ending
pub took_as : {a b : Device} {i j : ℕ} {x y : List ℕ} {ending : Ending} → Took a b i j x ending → x ≡ y → Took a b i j y ending
took_as {a} {b} {i} {j} {x} {y} {ending} took is = subst (λ t. Took a b i j t ending) is took

pub took_so : {a b : Device} {i j : ℕ} {x : List ℕ} {ending so : Ending} → Took a b i j x ending → ending ≡ so → Took a b i j x so
took_so {a} {b} {i} {j} {x} took is = subst (Took a b i j x) is took
