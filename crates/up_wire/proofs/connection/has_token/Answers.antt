use Rattle.std.proofs.Common.{◌≡◌, ◌||◌, true, false, suc, take, drop, add-one, rules, sym, ap, ◌∙◌}
use Rattle.std.proofs.lemmas.List.{take_rest}
use Rattle.httparse.specs.Grammar.{trim_ows}
use Rattle.up_message.specs.Fields.{same_name}
use Rattle.up_wire.specs.Framing.{has_token}
use Rattle.up_wire.proofs.Pieces.{token_at, token_whole}
use Rattle.up_wire.proofs.connection.has_token.Goals as goal

pub returns-then-same_name : goal.returns-then-same_name
returns-then-same_name c =
    let rest = c.pieces.rest.now in
    let token = c.args.token.now in
    let comma = c.in-Some.comma in
    let split = token_at token rest comma (search rules) (search rules) (search rules) in
    let here : same_name (trim_ows (take comma rest)) token ≡ true = cc (c.trim_ows.ensures, c.same_name.ensures, c.if-same_name.true) in
    sym (split ∙ ap (λ b. b || has_token token (drop (suc comma) rest)) here) ∙ c.pieces.invariant

pub pieces-preserved : goal.pieces-preserved
pieces-preserved c =
    let rest = c.pieces.rest.now in
    let token = c.args.token.now in
    let comma = c.in-Some.comma in
    let split = token_at token rest comma (search rules) (search rules) (search rules) in
    let other : same_name (trim_ows (take comma rest)) token ≡ false = cc (c.trim_ows.ensures, c.same_name.ensures, c.if-same_name.false) in
    let left : has_token token (drop (suc comma) rest) ≡ has_token token c.args.value.now =
    sym (split ∙ ap (λ b. b || has_token token (drop (suc comma) rest)) other) ∙ c.pieces.invariant in
    simp (take_rest, add-one) left

pub returns-in-None : goal.returns-in-None
returns-in-None c =
    let rest = c.pieces.rest.now in
    let token = c.args.token.now in
    let whole = token_whole token rest (search rules) in
    c.same_name-in-None.ensures ∙ ap (λ t. same_name t token) c.trim_ows-in-None.ensures ∙ sym whole ∙ c.pieces.invariant
