-- Which lines were printed about accepting connections.
use Rattle.std.specs.Prelude.{ℕ, ◌+◌, ◌≤◌, Bool, IfSome}
use Rattle.up_server.specs.declared.notices.Want.{Want}
use Rattle.up_server.specs.declared.notices.Want.TheVariants.{Descriptors, Memory, Threads}
use Rattle.up_server.specs.declared.said.Said.{Said}
use Rattle.up_server.specs.declared.said.Wants.{Wants}

-- whether a line was printed about a shortage of this kind
abbrev pub was_said : Wants → Want → Bool
was_said wants (Descriptors code) = wants.descriptors
was_said wants (Memory code) = wants.memory
was_said wants Threads = wants.threads

-- the last line was printed at least a second ago, or none was printed
abbrev pub IsApart : Said → ℕ → Type 0
IsApart said now = IfSome said.at (λ last. last + 1000 ≤ now)
