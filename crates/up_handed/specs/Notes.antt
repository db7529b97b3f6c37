-- A post-hook that reports which uploads have ended, as contracts describe it.
use Rattle.up_handed.specs.declared.noting.Noting.{Noting}

module _ {H E : Type 0} where
  -- the inner post-hook
  abbrev pub noting_hook : Noting H E → H
  noting_hook noting = noting.hook
