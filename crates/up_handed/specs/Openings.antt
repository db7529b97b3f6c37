-- Counts that were opened, and the post-hooks that continue after them, as contracts describe them.
use Rattle.std.specs.Prelude.{ℕ, List, map}
use Rattle.sqlite_disk.specs.declared.Disk.{Ghosts}
use Rattle.up_handed.specs.Continues.{inner_hook, handed_of, left_out_of}
use Rattle.up_handed.specs.Notes.{noting_hook}
use Rattle.up_handed.specs.declared.continued.Continued.{Continued}
use Rattle.up_handed.specs.declared.counted.Counted.{Counted}
use Rattle.up_handed.specs.declared.handed.Handed.{Handed}
use Rattle.up_handed.specs.declared.noting.Noting.{Noting}
use Rattle.up_handed.specs.declared.opened.Opened.{Opened}

module _ {D : Type 0} {g : Ghosts D} where
  -- what earlier runs counted
  abbrev pub counted_of : Opened D g → Counted
  counted_of opened = record { count = opened.handed.count; left_out = opened.left_out }

  -- each count, and how many of its events a shorter log leaves out
  abbrev pub opened_counts : List (Opened D g) → List (Handed D g × ℕ)
  opened_counts counts = map (λ o. (o.handed, o.left_out)) counts

module _ {H D E : Type 0} {g : Ghosts D} where
  -- the inner post-hook of each lane
  abbrev pub hooks_of : List (Noting (Continued H D g) E) → List H
  hooks_of made = map (λ n. inner_hook (noting_hook n)) made

  -- the count of each lane, and how many of its events a shorter log leaves out
  abbrev pub counts_of : List (Noting (Continued H D g) E) → List (Handed D g × ℕ)
  counts_of made = map (λ n. (handed_of (noting_hook n), left_out_of (noting_hook n))) made
