use Rattle.std.proofs.Common.{◌≤◌, subst, arith}
use Rattle.up_events.specs.Records.{lane_log}
use Rattle.up_events.proofs.JournalLemmas.{event_left, lane_there, tail_length, tail_with}
use Rattle.up_events.proofs.journal.Journal.event_at.Goals as goal

pub index-requires : goal.index-requires
index-requires c =
    let a = c.self.inside in
    omega (arith, a.logs.ok, lane_there a c.args.self.now c.args.k c.args.place c.self.invariant c.self.view_is c.requires.within)

pub event_at-requires-clause-there : goal.event_at-requires-clause-there
event_at-requires-clause-there c =
    let a = c.self.inside in
    let log = c.index.result.now in
    let t = tail_with a c.args.self.now c.args.k c.args.place log c.self.invariant c.self.view_is c.requires.within c.index.ensures in
    subst (λ i. i ≤ c.args.place) t.0 c.requires.there

pub event_at-requires-clause-within : goal.event_at-requires-clause-within
event_at-requires-clause-within c =
    let a = c.self.inside in
    let log = c.index.result.now in
    let t = tail_with a c.args.self.now c.args.k c.args.place log c.self.invariant c.self.view_is c.requires.within c.index.ensures in
    omega (arith, tail_length (lane_log c.args.self.now c.args.k) log t.1, c.requires.within)

pub returns : goal.returns
returns c =
    let a = c.self.inside in
    let log = c.index.result.now in
    let t = tail_with a c.args.self.now c.args.k c.args.place log c.self.invariant c.self.view_is c.requires.within c.index.ensures in
    event_left (lane_log c.args.self.now c.args.k) log c.args.place c.event_at.result t.1 (subst (λ i. i ≤ c.args.place) t.0 c.requires.there) c.requires.within c.event_at.ensures
