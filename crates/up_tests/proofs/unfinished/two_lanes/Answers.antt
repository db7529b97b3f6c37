use Rattle.std.proofs.Common.{◌≡◌, All, [], ◌∷◌, ◌++◌, length, ap, sym, subst, ◌∙◌}
use Rattle.std.proofs.Math.Seq.{take-append_seam}
use Rattle.std.proofs.lemmas.List.Elements.{All-take}
use Rattle.up_tests.proofs.unfinished.two_lanes.Goals as goal

pub refused-requires-clause-own : goal.refused-requires-clause-own
refused-requires-clause-own g c κs within =
    let own = subst (All (λ e. e.take_end.queue ≡ g.B.Naming.queue e.lane)) c.in-Some.ensures.items c.requires.own in
    let rest = c.pop.new.self.items in
    subst (All (λ e. e.take_end.queue ≡ g.B.Naming.queue e.lane)) (take-append_seam rest (c.in-Some.missing ∷ [])) (All-take (λ e. e.take_end.queue ≡ g.B.Naming.queue e.lane) (length rest) (rest ++ c.in-Some.missing ∷ []) own)

pub finished-requires-clause-own : goal.finished-requires-clause-own
finished-requires-clause-own g c κs within =
    let same = c.in-Some.ensures.items ∙ sym (c.in_ok-push.ensures.items ∙ ap (λ v. v.items ++ c.in-Some.missing ∷ []) c.in_ok-back.ensures.back.1) in
    subst (All (λ e. e.take_end.queue ≡ g.B.Naming.queue e.lane)) same c.requires.own
