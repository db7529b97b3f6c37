use Rattle.std.proofs.Common.{◌≡◌, map, take}
use Rattle.serde_json.specs.View.{view}
use Rattle.up_hook_client.specs.Told.{id_string}
use Rattle.up_hook_client.proofs.upload.id_strings.Given as goal

abbrev pub invariant-loop-id : goal.invariant-loop-id
invariant-loop-id l = map view l.texts.items ≡ map id_string (take l.id-index l.ids)
