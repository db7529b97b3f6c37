use Rattle.std.proofs.Common.{◌≡◌, ◌+◌, ◌^◌, ◌<◌, ◌++◌, List, ℕ, length, take, arith, rules, subst, sym, ap, ◌∙◌}
use Rattle.up_bodies.specs.Blocks.{EndAfterWhole, EndBy, HoldsSpot, block, block_len}
use Rattle.up_places.specs.Places.{Spot}
use Rattle.up_bodies.proofs.Held.{are_whole, end_after_whole, end_by, put_fits, spot_left, spot_stays, taken_block}
use Rattle.up_bodies.proofs.data_file.DataFile.put.Goals as goal

pub returns-in_err-put-clause-others : goal.returns-in_err-put-clause-others
returns-in_err-put-clause-others g c spot ends holds =
    spot_stays c.args.self.now.file.seed c.args.self.now.file.end (g.D.Disk.seen c.args.self.now.file.device) (g.D.Disk.seen c.put.new.self.device)
    c.put.ensures.others spot ends holds

pub returns-in_err-put-clause-crash : goal.returns-in_err-put-clause-crash
returns-in_err-put-clause-crash g c spot ends leaves =
    spot_left c.args.self.now.file.seed c.args.self.now.file.end (g.D.Disk.may_leave c.args.self.now.file.device) (g.D.Disk.may_leave c.put.new.self.device)
    c.put.ensures.crash spot ends leaves

pub returns-clause-others : goal.returns-clause-others
returns-clause-others g c spot ends holds =
    spot_stays c.args.self.now.file.seed c.args.self.now.file.end (g.D.Disk.seen c.args.self.now.file.device) (g.D.Disk.seen c.put.new.self.device)
    c.put.ensures.others spot ends holds

pub returns-clause-crash : goal.returns-clause-crash
returns-clause-crash g c spot ends leaves =
    spot_left c.args.self.now.file.seed c.args.self.now.file.end (g.D.Disk.may_leave c.args.self.now.file.device) (g.D.Disk.may_leave c.put.new.self.device)
    c.put.ensures.crash spot ends leaves

pub invariant_of-self : goal.invariant_of-self
invariant_of-self g c =
    let same = c.in_err-put.ensures.same in
    let held = spot_stays c.args.self.now.file.seed c.args.self.now.file.end (g.D.Disk.seen c.args.self.now.file.device) (g.D.Disk.seen c.put.new.self.device)
    c.put.ensures.others c.args.self.now.place c.args.self.now.before c.args.self.now.held in
    record {
      whole = λ even. same ∙ c.args.self.now.whole even;
      before = λ i lt. omega (arith, c.args.self.now.before i lt, same);
      held = subst (λ (s : ℕ × ℕ). HoldsSpot (g.D.Disk.seen c.put.new.self.device) s c.args.self.now.place) (sym c.put.ensures.seed) held;
    }

pub extend-requires : goal.extend-requires
extend-requires g c =
    let more = c.args.bytes.now.items in
    let len : c.len-len.result ≡ length more = search rules in
    let kept : c.truncate.new.self.items ≡ more =
    c.truncate.ensures.items ∙ ap (λ (l : List ℕ). take c.len-len.result l) c.in_ok-put.ensures.made
    ∙ ap (λ (n : ℕ). take n (block c.args.self.now.file.seed c.args.self.now.file.end more)) len
    ∙ taken_block c.args.self.now.file.seed c.args.self.now.file.end more in
    let place = c.args.self.now.place in
    let some : 0 < length more = search rules in
    let small : c.args.self.now.file.end + block_len (length more) < 2 ^ 64 = omega (arith, c.in_ok-put.ensures.small, c.in_ok-put.ensures.end) in
    record {
      small = omega (arith, ap length (c.as_slice.ensures.value ∙ kept), put_fits place.at c.args.self.now.file.end place.bytes c.args.self.now.whole c.requires.whole more some c.requires.few small);
    }

pub invariant_of-self-2 : goal.invariant_of-self-2
invariant_of-self-2 g c =
    let more = c.args.bytes.now.items in
    let place = c.args.self.now.place in
    let file = c.args.self.now.file in
    let len : c.len-len.result ≡ length more = search rules in
    let kept : c.truncate.new.self.items ≡ more =
    c.truncate.ensures.items ∙ ap (λ (l : List ℕ). take c.len-len.result l) c.in_ok-put.ensures.made
    ∙ ap (λ (n : ℕ). take n (block file.seed file.end more)) len
    ∙ taken_block file.seed file.end more in
    let some : 0 < length more = search rules in
    let grown = c.in_ok-put.ensures.grows place.at place.bytes c.args.self.now.held (are_whole place.at file.end place.bytes c.args.self.now.whole c.requires.whole) in
    let next : Spot = record place { bytes = place.bytes ++ more } in
    let is : c.extend.new.self ≡ next =
    c.extend.ensures ∙ ap (λ (l : List ℕ). record place { bytes = place.bytes ++ l }) (c.as_slice.ensures.value ∙ kept) in
    let end = c.in_ok-put.ensures.end in
    record {
      whole = subst (λ (s : Spot). EndAfterWhole s.at s.bytes c.put.new.self.end) (sym is)
          (subst (λ (n : ℕ). EndAfterWhole place.at (place.bytes ++ more) n) (sym end)
          (end_after_whole place.at file.end place.bytes c.args.self.now.whole c.requires.whole more some c.requires.few));
      before = subst (λ (s : Spot). EndBy s.at s.bytes c.put.new.self.end) (sym is)
          (subst (λ (n : ℕ). EndBy place.at (place.bytes ++ more) n) (sym end)
          (end_by place.at file.end place.bytes c.args.self.now.whole c.requires.whole more some c.requires.few));
      held = subst (λ (s : Spot). HoldsSpot (g.D.Disk.seen c.put.new.self.device) c.put.new.self.seed s) (sym is)
          (subst (λ (k : ℕ × ℕ). HoldsSpot (g.D.Disk.seen c.put.new.self.device) k next) (sym c.put.ensures.seed) grown);
    }
