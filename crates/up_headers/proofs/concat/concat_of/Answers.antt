use Rattle.std.proofs.Common.{subst}
use Rattle.up_headers.specs.Concat.{IsPartList}
use Rattle.up_headers.proofs.ConcatLemmas.{final_list, final_bad}
use Rattle.up_headers.proofs.concat.concat_of.Goals as goal

pub returns-in-None : goal.returns-in-None
returns-in-None c =
    final_bad c.args.text.now c.in-Some.list.now (final_list c.args.text.now c.in-Some.list.now c.in-Some.ensures.cases.0 c.in-Some.ensures.cases.1) (subst (IsPartList c.in-Some.list.now) c.in-None.is c.in_ok-parts.ensures)
