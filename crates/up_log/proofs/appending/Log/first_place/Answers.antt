use Rattle.std.proofs.Common.{◌∙◌, ap, sym, length}
use Rattle.std.proofs.lemmas.List.{append-nil}
use Rattle.up_log.specs.Blocks.{beginning}
use Rattle.up_log.proofs.Headings.{beginning_length}
use Rattle.up_log.proofs.appending.Log.first_place.Goals as goal

pub returns : goal.returns
returns g c = λ setup. beginning_length setup ∙ ap length (sym (append-nil (beginning setup)))
