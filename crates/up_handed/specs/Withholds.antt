-- A post-hook that hands over no event before it may, as contracts describe it.
use Rattle.std.specs.Prelude.{◌≡◌, List, [], map, true, false}
use Rattle.up_handed.specs.declared.withheld.Withheld.{Withheld}
use Rattle.up_hooks.specs.declared.post_hook.PostHook as post_hook

module _ {H P : Type 0} where
  -- the inner post-hook
  abbrev pub withheld_hook : Withheld H P → H
  withheld_hook withheld = withheld.hook

  -- the inner post-hooks
  abbrev pub withheld_hooks : List (Withheld H P) → List H
  withheld_hooks made = map (λ w. withheld_hook w) made

  -- the permission is given, or the inner post-hook was handed nothing
  pub record IsWithheld (h : post_hook.Ghosts H) (Given : P → Type 0) (withheld : Withheld H P) : Type 0 where
    pub given : withheld.is_open ≡ true → Given withheld.permission
    pub nothing : withheld.is_open ≡ false → h.handed withheld.hook ≡ []
