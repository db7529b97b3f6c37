use Rattle.std.proofs.lemmas.Str.{IsUtf8-from_ascii}
use Rattle.std.proofs.lemmas.Grind.{common_steps}
use Rattle.std.specs.Str.{IsUtf8}
use Rattle.std.proofs.Common.{arith}
use Rattle.up_events.specs.IdText.{text_of}
use Rattle.up_events.proofs.IdLemmas.{ascii_digits}
use Rattle.up_events.proofs.id.IdDisplay.fmt.Goals as goal

pub unwrap-text-requires : goal.unwrap-text-requires
unwrap-text-requires g c =
    let text : IsUtf8 c.text-digits.result = rw c.text-digits.ensures (IsUtf8-from_ascii (text_of c.args.self.now) (ascii_digits 32 c.args.self.now)) in
    grind (arith, common_steps, c.from_utf8.ensures.cases)
