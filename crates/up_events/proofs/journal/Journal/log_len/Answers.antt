use Rattle.std.proofs.Common.{length, sym, ap, ◌∙◌}
use Rattle.up_events.specs.Records.{lane_log}
use Rattle.up_events.proofs.JournalLemmas.{tail_length, tail_read, no_tail_read}
use Rattle.up_events.proofs.journal.Journal.log_len.Goals as goal

pub returns-in-Some : goal.returns-in-Some
returns-in-Some c =
    let t = tail_read c.self.inside c.args.self.now c.deref.result.now c.args.k c.in-Some.log.now c.self.invariant c.self.view_is c.deref.ensures.value c.in-Some.ensures.lookup.0 c.in-Some.ensures.lookup.1 in
    c.len.ensures ∙ tail_length (lane_log c.args.self.now c.args.k) c.in-Some.log.now t.1

pub returns-in-None : goal.returns-in-None
returns-in-None c =
    let t = no_tail_read c.self.inside c.args.self.now c.deref.result.now c.args.k c.self.invariant c.self.view_is c.deref.ensures.value c.in-None.ensures.lookup.0 in ap length (sym t.1)
