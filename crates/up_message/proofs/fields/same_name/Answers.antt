use Rattle.std.proofs.lemmas.Bool.Decides.{same_from_decides}
use Rattle.std.proofs.lemmas.Slice.Eq.{bytes_eq-Decides}
use Rattle.up_message.specs.Fields.{same_name}
use Rattle.up_message.proofs.fields.same_name.Goals as goal

pub returns : goal.returns
unfolding same_name
returns c = same_from_decides _ _ c.eq_ignore_ascii_case.ensures.test (bytes_eq-Decides _ _)
