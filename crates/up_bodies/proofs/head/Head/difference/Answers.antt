use Rattle.std.proofs.Common.{rules, ℕ, ◌<◌, ◌≤◌, ◌^◌, subst, sym, ◌∙◌}
use Rattle.up_bodies.proofs.Opening.{other}
use Rattle.up_bodies.proofs.head.Head.difference.Goals as goal

pub returns-else-generation-self : goal.returns-else-generation-self
returns-else-generation-self c =
    let small : c.args.self.now.generation < 2 ^ 64 = search rules in
    record {
      other = other c.args.self.now c.args.text.now small c.requires.other;
      type_is = search rules;
      version_is = sym c.number_at-version.ensures ∙ c.if-version-ne2.false;
      store_is = search rules;
      number_is = sym c.number_at-number.ensures ∙ c.if-number-self.false;
      earlier = subst (λ (n : ℕ). n ≤ c.args.self.now.generation) c.number_at-generation.ensures c.if-generation-self.false;
    }
