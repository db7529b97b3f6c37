use Rattle.std.proofs.Common.{subst, inl, inr, refl, sym, ap, ◌∙◌}
use Rattle.http_uri.specs.Error.{is_out_of_memory}
use Rattle.up_headers.specs.Places.{IsPlace}
use Rattle.up_headers.proofs.place.place_of.Goals as goal

pub returns-in-Ok : goal.returns-in-Ok
returns-in-Ok c = inl (c.in-Ok.uri, c.in-Ok.ensures.ok, subst (λ p. IsPlace p c.place_in.result) (c.as_bytes.ensures.value ∙ c.path.ensures.value) c.place_in.ensures)

pub returns-in-Invalid : goal.returns-in-Invalid
returns-in-Invalid c = inr (refl, c.in-Err.ensures.err (λ bad. let other = sym (ap is_out_of_memory c.in-Invalid.is) ∙ bad in cc other))
