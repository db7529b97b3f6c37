use Rattle.std.proofs.Common.{◌≡◌, ℕ, ◌&&◌, true, List, [], Option, Some, None, ltb, leb, refl, sym, ap, ◌∙◌}
use Rattle.std.specs.Prelude.{unwrap_or}
use Rattle.std.specs.Option.{option_map}
use Rattle.std.specs.Borrow.{Bor}
use Rattle.std.proofs.lemmas.Bool.{cond-true, le-leb, lt-ltb, and_from}
use Rattle.http.specs.StatusCode.{reason_phrase}
use Rattle.up_wire.proofs.response.phrase.Goals as goal

shown : (o : Option (Bor (List ℕ))) (d : Bor (List ℕ)) → d.now ≡ [] → (unwrap_or o d).now ≡ unwrap_or (option_map (λ s. s.now) o) []
shown None d none = none
shown (Some s) d none = refl

pub returns-in-Ok : goal.returns-in-Ok
returns-in-Ok c =
    let status = c.args.status in
    let valid = c.in-Ok.ensures.0 in
    let test : (leb 100 status && ltb status 1000) ≡ true = and_from (leb 100 status) (ltb status 1000) (le-leb 100 status valid.0) (lt-ltb status 1000 valid.1) in
    ap (λ s. s.now) c.unwrap_or.ensures ∙ shown c.canonical_reason.result _ refl
    ∙ ap (λ o. unwrap_or o []) (c.canonical_reason.ensures.value ∙ ap reason_phrase c.in-Ok.ensures.1)
    ∙ sym (cond-true (leb 100 status && ltb status 1000) (unwrap_or (reason_phrase status) []) [] test)
