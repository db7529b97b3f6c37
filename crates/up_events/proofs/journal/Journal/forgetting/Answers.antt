use Rattle.std.proofs.Common.{false}
use Rattle.up_events.proofs.JournalLemmas.{kept_new, records_new}
use Rattle.up_events.proofs.journal.Journal.forgetting.Goals as goal

pub invariant_of-result : goal.invariant_of-result
invariant_of-result c = kept_new c.args.lanes c.counted.result c.in_ok-empty_logs.field-0 c.new.result c.in_ok-ended.ended c.requires.some_lane c.requires.few_lanes c.counted.ensures.items c.in_ok-empty_logs.ensures c.new.ensures.empty c.in_ok-ended.ensures

pub returns : goal.returns
returns c = records_new c.args.lanes c.counted.result c.in_ok-empty_logs.field-0.items false c.counted.ensures.items c.counted.ensures.keeps c.in_ok-empty_logs.ensures
