use Rattle.std.proofs.Common.{◌%◌, ap, refl, ◌∙◌}
use Rattle.up_events.specs.Ascending.{has}
use Rattle.up_events.proofs.EndedLemmas.{bucket_read}
use Rattle.up_events.proofs.ended.Ended.contains.Goals as goal

pub returns : goal.returns
returns c =
    let a = c.self.inside in
    let id = c.args.id in
    let bucket = c.index.result.now in
    let is = c.self.invariant.each (id % 4096) bucket (bucket_read a.all.items a.buckets.items id _ bucket c.self.invariant c.modulo.ensures c.index.ensures) in
    c.contains.ensures ∙ is id refl ∙ ap (λ ids. has ids id) c.self.view_is
