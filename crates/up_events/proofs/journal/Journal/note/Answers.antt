use Rattle.std.proofs.Common.{◌≡◌, ◌%◌, ◌<◌, ◌++◌, length, sym, ap, ◌∙◌, subst, mod-lt, rules}
use Rattle.std.proofs.lemmas.Option.{slice_get_read}
use Rattle.std.specs.Vec.{with_item}
use Rattle.up_events.specs.contracts.journal.Journal.{the_view}
use Rattle.up_events.specs.declared.track.Track.{Track}
use Rattle.up_events.specs.History.{id_of, CanFollow, steps_at, steps_of}
use Rattle.up_events.specs.Log.{log_of}
use Rattle.up_events.specs.Records.{Records, firsts_of, noted, ArePlaces}
use Rattle.up_events.specs.Reached.{reached}
use Rattle.up_events.specs.Kept.{track_of}
use Rattle.up_events.proofs.Sound.{sound, steps_of-reached}
use Rattle.up_events.proofs.JournalLemmas.{few_events, bytes_fit, events-reached, kept_same, kept_after, step_track, step_events, step_places, tail_length, tail_same, records_same, records_after}
use Rattle.up_events.proofs.TrackLemmas.{track_found}
use Rattle.up_events.proofs.journal.Journal.note.Goals as goal

pub reached-reached-requires : goal.reached-reached-requires
reached-reached-requires c =
    let a = c.self.inside in
    let changes = a.accepted.items in
    let can : CanFollow changes c.args.change = subst (λ (r : Records). CanFollow r.accepted c.args.change) (sym c.self.view_is) c.requires in
    let found = track_found a c.args.change c.id-id.result c.copied.result c.self.invariant can c.id-id.ensures (c.copied.ensures ∙ c.get.ensures.value) in
    let is = c.unwrap_or-before.ensures ∙ found in
    rw is (bytes_fit changes c.args.change (sound changes c.self.invariant.legal _) can)

pub write-requires : goal.write-requires
write-requires c =
    let a = c.self.inside in
    let changes = a.accepted.items in
    let can : CanFollow changes c.args.change = subst (λ (r : Records). CanFollow r.accepted c.args.change) (sym c.self.view_is) c.requires in
    let found = track_found a c.args.change c.id-id.result c.copied.result c.self.invariant can c.id-id.ensures (c.copied.ensures ∙ c.get.ensures.value) in
    let is = c.unwrap_or-before.ensures ∙ found in
    rw (c.reached-reached.ensures, is, events-reached) (few_events changes (id_of c.args.change) (sound changes c.self.invariant.legal _))

pub invariant_of-self : goal.invariant_of-self
invariant_of-self c =
    let a = c.self.inside in
    let e = c.in_err-count.ensures in
    let within : c.lane-lane.result < a.lanes = rw c.lane-lane.ensures (mod-lt c.id-id.result c.self.invariant.some_lane) in
    let was = slice_get_read a.logs.items a.lanes c.lane-lane.result _ (sym c.self.invariant.rows) within c.index_mut-log.ensures.value in
    let log = log_of a.lanes a.accepted.items c.lane-lane.result in
    let tail = tail_same log c.index_mut-log.result.now c.write.new.log (c.self.invariant.logs c.lane-lane.result _ was) c.write.ensures.first e.same_log in
    kept_same a c.write.new.accepted c.lane-lane.result c.index_mut-log.result.now c.write.new.log c.write.new.tracks c.write.new.ended a.bytes c.self.invariant e.same_list was tail e.same_tracks e.same_ended

pub invariant_of-self-2 : goal.invariant_of-self-2
invariant_of-self-2 c =
    let a = c.self.inside in
    let changes = a.accepted.items in
    let change = c.args.change in
    let e = c.in_ok-count.ensures in
    let s = sound changes c.self.invariant.legal (id_of change) in
    let can : CanFollow changes change = subst (λ (r : Records). CanFollow r.accepted change) (sym c.self.view_is) c.requires in
    let found = track_found a c.args.change c.id-id.result c.copied.result c.self.invariant can c.id-id.ensures (c.copied.ensures ∙ c.get.ensures.value) in
    let is : c.reached-reached.result ≡ reached (track_of changes (id_of change)) change =
    c.reached-reached.ensures ∙ ap (λ t. reached t change) (c.unwrap_or-before.ensures ∙ found) in
    let lane : c.lane-lane.result ≡ id_of change % a.lanes = c.lane-lane.ensures ∙ ap (λ u. u % a.lanes) c.id-id.ensures in
    let within : c.lane-lane.result < a.lanes = rw c.lane-lane.ensures (mod-lt c.id-id.result c.self.invariant.some_lane) in
    let was = slice_get_read a.logs.items a.lanes c.lane-lane.result _ (sym c.self.invariant.rows) within c.index_mut-log.ensures.value in
    rw lane (kept_after a change c.write.new.accepted c.index_mut-log.result.now c.write.new.log c.write.new.tracks c.write.new.ended _ _ c.self.invariant can e.accepted
    (rw lane at was)
    c.write.ensures.first
    (e.log ∙ ap (λ l. c.index_mut-log.result.now.events ++ l) (step_events changes change c.reached-reached.result s can is))
    e.tracks
    (step_track changes change c.reached-reached.result c.in_ok-count.count s can is e.count)
    e.ended)

pub returns-clause-places : goal.returns-clause-places
returns-clause-places c =
    let a = c.self.inside in
    let changes = a.accepted.items in
    let change = c.args.change in
    let e = c.in_ok-count.ensures in
    let s = sound changes c.self.invariant.legal (id_of change) in
    let can : CanFollow changes change = subst (λ (r : Records). CanFollow r.accepted change) (sym c.self.view_is) c.requires in
    let found = track_found a c.args.change c.id-id.result c.copied.result c.self.invariant can c.id-id.ensures (c.copied.ensures ∙ c.get.ensures.value) in
    let is : c.reached-reached.result ≡ reached (track_of changes (id_of change)) change =
    c.reached-reached.ensures ∙ ap (λ t. reached t change) (c.unwrap_or-before.ensures ∙ found) in
    let lane : c.lane-lane.result ≡ id_of change % a.lanes = c.lane-lane.ensures ∙ ap (λ u. u % a.lanes) c.id-id.ensures in
    let within : c.lane-lane.result < a.lanes = rw c.lane-lane.ensures (mod-lt c.id-id.result c.self.invariant.some_lane) in
    let was = slice_get_read a.logs.items a.lanes c.lane-lane.result _ (sym c.self.invariant.rows) within c.index_mut-log.ensures.value in
    let log = c.self.invariant.logs c.lane-lane.result c.index_mut-log.result.now was in
    let steps : c.in_ok-count.count ≡ length (steps_of changes change) =
    e.count ∙ ap (λ (t : Track). length (steps_at change t.offset t.length)) is ∙ ap length (sym (steps_of-reached changes change s can)) in
    subst (λ (r : Records). ArePlaces r change c.lane-lane.result c.len-first.result c.in_ok-count.count) c.self.view_is
    (step_places a.lanes changes change c.lane-lane.result c.len-first.result c.in_ok-count.count lane (c.len-first.ensures ∙ tail_length (log_of a.lanes changes c.lane-lane.result) c.index_mut-log.result.now log) steps a.accepted.keeps (firsts_of a.logs.items))

pub returns-in_err-count-clause-err : goal.returns-in_err-count-clause-err
returns-in_err-count-clause-err c =
    let a = c.self.inside in
    let within : c.lane-lane.result < a.lanes = rw c.lane-lane.ensures (mod-lt c.id-id.result c.self.invariant.some_lane) in
    let was = slice_get_read a.logs.items a.lanes c.lane-lane.result _ (sym c.self.invariant.rows) within c.index_mut-log.ensures.value in
    let same : the_view (record { lanes = a.lanes; accepted = c.write.new.accepted; logs = with_item a.logs c.lane-lane.result c.write.new.log; tracks = c.write.new.tracks; ended = c.write.new.ended; bytes = a.bytes }) ≡ c.args.self.now =
    records_same a c.write.new.accepted c.lane-lane.result c.index_mut-log.result.now c.write.new.log c.write.new.tracks c.write.new.ended a.bytes c.in_err-count.ensures.same_list c.write.ensures.keeps was c.write.ensures.first ∙ c.self.view_is in
    search (rules, same)

pub returns-clause-ok : goal.returns-clause-ok
returns-clause-ok c =
    let a = c.self.inside in
    let within : c.lane-lane.result < a.lanes = rw c.lane-lane.ensures (mod-lt c.id-id.result c.self.invariant.some_lane) in
    let was = slice_get_read a.logs.items a.lanes c.lane-lane.result _ (sym c.self.invariant.rows) within c.index_mut-log.ensures.value in
    records_after a c.args.change c.write.new.accepted c.lane-lane.result c.index_mut-log.result.now c.write.new.log c.write.new.tracks c.write.new.ended a.bytes c.in_ok-count.ensures.accepted c.write.ensures.keeps was c.write.ensures.first ∙ ap (λ r. noted r c.args.change) c.self.view_is
