use Rattle.std.proofs.Common.{sym, ◌∙◌, ap}
use Rattle.up_history.proofs.Adding.{moves, adds_tell}
use Rattle.up_history.proofs.front.Front.add_by.Goals as goal

pub compare_exchange-found-requires : goal.compare_exchange-found-requires
compare_exchange-found-requires g c =
    let is = c.args.history.now.word_is in
    let offer = c.plain-offer.ensures in
    let pen = c.no_pen-pen.ensures in
    let book = c.self.invariant.1 ∙ sym (ap (λ w. w.book) is) in
    let one = c.requires.one in (
      ap (λ w. w.tracked) is,
      book,
      pen.0 ∙ book,
      offer.0,
      rw (ap (λ w. w.key) is, pen.1, offer.1 ∙ one.1, offer.3 ∙ c.requires.plain) (moves c.self.inside.seen.log one.0 c.self.inside.count (sym c.self.invariant.0)),
    )

pub returns : goal.returns
returns g c =
    let step = c.compare_exchange-found in
    rw (← c.self.view_is) (λ entry is. adds_tell c.self.inside.seen.log step.new.seen.log c.plain-offer.result.ask entry step.result c.self.inside.count (sym c.self.invariant.0) (c.plain-offer.ensures.1 ∙ is) step.ensures.6 step.ensures.7)
