-- What closures are asked.
use Rattle.std.specs.Prelude.{ℕ, List, Option, length, bytes_eq, option_map}
use Rattle.std.specs.List.{find}
use Rattle.up_machine.specs.Content.{Content}
use Rattle.up_machine.specs.declared.ask.Ask.{Ask}
use Rattle.up_machine.specs.declared.ask.Point.{Point}

-- the question about this upload
abbrev pub ask_of : Point → Option ℕ → Content → Ask
ask_of point target x =
    record { point = point; target = target; kind = x.kind; offset = length x.bytes; length = x.length; pairs = x.pairs; concat = x.concat }

-- the value of the first pair with this key
abbrev pub value_of : List ℕ → List (List ℕ × List ℕ) → Option (List ℕ)
value_of key pairs = option_map (λ pair. pair.1) (find (λ pair. bytes_eq pair.0 key) pairs)
