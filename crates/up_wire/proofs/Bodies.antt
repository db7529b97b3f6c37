-- A body as far as it was read, and one that stopped.
use Rattle.std.proofs.Common.{◌≡◌, ◌+◌, ◌<◌, ◌≤◌, ◌++◌, ℕ, List, Vec, length, length-append, take, ap, ◌∙◌, append_assoc, arith, inl, inr, refl, Err}
use Rattle.up_wire.specs.Spooled.{IsPutAway}
use Rattle.std.specs.declared.alloc.Global.{Global}
use Rattle.up_wire.specs.declared.body.BodyEnd.{BodyEnd}
use Rattle.up_wire.specs.declared.framing.Framing.{Framing}
use Rattle.up_wire.specs.Message.{Ending}
use Rattle.up_wire.specs.Steps.{IsStop, IsBodyRead, stopped}

-- it is a cut one, or memory was lacking
pub stopped_body : (limit size : ℕ) (input : List ℕ) (ending : Ending) (stop : BodyEnd) (body : Vec ℕ Global) → input ≡ body.items
    → IsStop ending (length body.items < size) ⊥ stop → IsBodyRead limit (Framing.Sized size) input ending (stopped stop body)
stopped_body limit size input ending BodyEnd.Ended body is (short, at) = ((short, is), inl at)
stopped_body limit size input ending BodyEnd.Failed body is (short, at) = ((short, is), inr at)
stopped_body limit size input ending BodyEnd.Bad body is bad = absurd bad
stopped_body limit size input ending BodyEnd.NoMemory body is goes_on = inl refl

-- the bytes so far, once a batch lies behind them
pub batch_behind : (all filled : ℕ) (items whole was ready body before run : List ℕ) → items ≡ whole → all ≡ filled + length run
    → take (filled + length run) whole ≡ take filled was ++ run → was ≡ ready → take filled ready ≡ body ++ before → take all items ≡ body ++ (before ++ run)
batch_behind all filled items whole was ready body before run is reach came was_is kept =
    ap (take all) is ∙ ap (λ n. take n whole) reach ∙ came ∙ ap (λ t. take filled t ++ run) was_is ∙ ap (λ t. t ++ run) kept ∙ append_assoc body before run

-- a body that is put away and stops after a block
pub put_away : (X : Type 0) (size done count : ℕ) (run more body was block : List ℕ) (ending : Ending) (stop : BodyEnd) → was ≡ run → length run ≡ done → done + count ≤ size
    → block ≡ more → body ≡ was ++ block → IsStop ending (length block < count) ⊥ stop → IsPutAway {X = X} size (run ++ more) ending body (Err stop)
put_away X size done count run more body was block ending BodyEnd.Ended a b within d e (short, at) =
    (e ∙ ap (λ l. l ++ block) a ∙ ap (λ l. run ++ l) d, omega (arith, length-append run more, ap length d, b, within, short), at)
put_away X size done count run more body was block ending BodyEnd.Failed a b within d e (short, at) =
    (e ∙ ap (λ l. l ++ block) a ∙ ap (λ l. run ++ l) d, omega (arith, length-append run more, ap length d, b, within, short), at)
put_away X size done count run more body was block ending BodyEnd.Bad a b within d e bad = absurd bad
put_away X size done count run more body was block ending BodyEnd.NoMemory a b within d e goes_on = tt
