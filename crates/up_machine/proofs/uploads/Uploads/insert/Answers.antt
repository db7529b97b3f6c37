use Rattle.std.proofs.Common.{sym, ap, ◌∙◌}
use Rattle.std.specs.FinMap as map
use Rattle.up_machine.proofs.UploadsLemmas.{get_at, one_put, on_ok}
use Rattle.up_machine.proofs.uploads.Uploads.insert.Goals as goal

pub insert_noted-requires-clause-new : goal.insert_noted-requires-clause-new
insert_noted-requires-clause-new c = sym (get_at c.self.inside.entries.entries c.args.id) ∙ ap (λ m. map.get m c.args.id) c.self.view_is ∙ c.requires.new

pub returns-clause-ok : goal.returns-clause-ok
returns-clause-ok c = on_ok c.insert_noted.result _ _ (λ u. one_put c.self.inside.entries.entries c.insert_noted.new.entries.entries c.args.id c.args.upload u.0 ∙ ap (λ m. map.insert m c.args.id c.args.upload) c.self.view_is) c.insert_noted.ensures.ok
