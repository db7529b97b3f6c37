use Rattle.std.proofs.Common.{◌∷◌, [], length, arith, length-append}
use Rattle.up_log.specs.Blocks.{body}
use Rattle.up_log.specs.Spelling.{batch, word}
use Rattle.up_log.proofs.Batches.{length_word}
use Rattle.up_log.proofs.staging.begin_body.Goals as goal

pub returns-clause-size : goal.returns-clause-size
returns-clause-size c =
    let entries = c.args.entries.now in
    let n = length (batch entries) in
    omega (arith, c.in-Some-checked_add.ensures, c.in-Some.ensures, length_word n, length-append (word n) (batch entries), length-append (body entries) (0 ∷ []))
