use Rattle.std.proofs.Common.{arith, refl}
use Rattle.up_tests.proofs.faulty.FaultyFileDisk.write_at.Goals as goal

pub returns-in_err-ask-clause-crash : goal.returns-in_err-ask-clause-crash
returns-in_err-ask-clause-crash c =
    λ file left. (file, left, record { no_shorter = omega arith; no_longer = omega arith; below = λ _ _ _. refl; above = λ _ _ _. refl })
