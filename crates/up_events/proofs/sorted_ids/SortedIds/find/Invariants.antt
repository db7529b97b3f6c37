use Rattle.std.proofs.Common.{◌-◌, ◌≡◌, ◌≤◌, length}
use Rattle.std.specs.List.{AllWithin}
use Rattle.std.specs.Ordering.{nat_cmp}
use Rattle.std.specs.declared.cmp.Ordering.TheVariants.{Less, Greater}
use Rattle.up_events.proofs.sorted_ids.SortedIds.find.Given as goal

abbrev pub invariant-loop-low : goal.invariant-loop-low
invariant-loop-low l = (l.high ≤ length l.self)
    × AllWithin (λ u. nat_cmp u l.id ≡ Less) l.self 0 l.low
    × AllWithin (λ u. nat_cmp u l.id ≡ Greater) l.self l.high (length l.self)

abbrev pub decreases-loop-low : goal.decreases-loop-low
decreases-loop-low l = l.high - l.low
