use Rattle.std.proofs.Common.{◌≡◌, ◌+◌, List, length, take, arith, ◌∙◌, ap, length-append}
use Rattle.std.proofs.lemmas.List.{take_all}
use Rattle.std.specs.List.{flat_map}
use Rattle.up_log.specs.declared.entry.Entry.{Entry}
use Rattle.up_log.specs.Spelling.{entry, word}
use Rattle.up_log.proofs.Batches.{length_word}
use Rattle.up_log.proofs.staging.size_of.Goals as goal

pub returns : goal.returns
returns c =
    let entries = c.args.entries.now in
    let all : take c.loop-logged.logged-index entries ≡ entries = take_all c.loop-logged.logged-index entries (omega (arith, c.loop-logged-test.false)) in
    c.loop-logged.invariant ∙ ap (λ (l : List Entry). 8 + length (flat_map entry l)) all
    ∙ omega (arith, length_word (length entries), length-append (word (length entries)) (flat_map entry entries))
