use Rattle.std.proofs.Common.{[], Some, codes, refl, string_bytes, subst, sym}
use Rattle.std.specs.Option.{option_copied}
use Rattle.serde_json.specs.Data.{null}
use Rattle.up_events.specs.declared.event.Kind.TheVariants.{Plain}
use Rattle.up_hook_client.specs.Told.{AreParts}
use Rattle.up_hook_client.proofs.Texts.{on_pushed}
use Rattle.up_hook_client.proofs.upload.add_parts.Goals as goal

pub returns-in-None : goal.returns-in-None
returns-in-None c = on_pushed c.push_str-in-None.result _ (string_bytes c.args.text.now) (codes "null") _ c.push_str-in-None.ensures.bytes (λ said. (
  null,
  subst (λ o. AreParts (option_copied o) null) (sym c.in-None.is) (Some (Plain, []), (refl, refl), refl),
  said,
))
