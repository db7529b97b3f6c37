use Rattle.std.proofs.Common.{◌<◌, ◌&&◌, length, ap, sym, ◌∙◌, arith}
use Rattle.std.specs.List.{list_all}
use Rattle.std.specs.Char.{is_ascii_digit}
use Rattle.std.proofs.lemmas.Bool.{lt-ltb}
use Rattle.std.proofs.lemmas.Bool.Decides.{nat_tests}
use Rattle.up_message.proofs.digits.is_digits.Goals as goal

pub returns-then-not-is_empty : goal.returns-then-not-is_empty
returns-then-not-is_empty c =
    let text = c.args.text.now in
    let some : 0 < length text = grind (arith, nat_tests) in
    c.are_digits.ensures ∙ sym (ap (λ t. t && list_all is_ascii_digit text) (lt-ltb 0 (length text) some))
