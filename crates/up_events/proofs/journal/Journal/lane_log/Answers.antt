use Rattle.std.proofs.Common.{◌≡◌, drop, sym, ap, ◌∙◌, subst}
use Rattle.std.specs.Result.{IfOk}
use Rattle.up_events.specs.Records.{lane_log}
use Rattle.up_events.proofs.JournalLemmas.{kept_read, tail_read, no_tail_read}
use Rattle.up_events.proofs.journal.Journal.lane_log.Goals as goal

pub returns-in-Some : goal.returns-in-Some
returns-in-Some c =
    let log = c.in-Some.log.now in
    let t = tail_read c.self.inside c.args.self.now c.deref.result.now c.args.k log c.self.invariant c.self.view_is c.deref.ensures.value c.in-Some.ensures.lookup.0 c.in-Some.ensures.lookup.1 in
    subst (λ l. IfOk c.events.result (λ events. events.items ≡ l)) (kept_read c.args.self.now c.args.k log t) c.events.ensures

pub returns-in-None : goal.returns-in-None
returns-in-None c =
    let t = no_tail_read c.self.inside c.args.self.now c.deref.result.now c.args.k c.self.invariant c.self.view_is c.deref.ensures.value c.in-None.ensures.lookup.0 in
    c.new.ensures.items ∙ sym (ap (λ i. drop i (lane_log c.args.self.now c.args.k)) t.0 ∙ t.1)
