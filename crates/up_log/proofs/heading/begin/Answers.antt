use Rattle.std.proofs.Common.{◌≡◌, ◌∙◌, refl, sym, ap, subst, inl, inr, take, get_or, length, List, ℕ}
use Rattle.std.specs.Prelude.{IsTrue}
use Rattle.sqlite_disk.specs.Disk.{Only}
use Rattle.up_log.specs.declared.entry.Entry.{Entry}
use Rattle.up_log.specs.Blocks.{IsFileOf, IsLog, IsUnfinished}
use Rattle.up_log.proofs.Headings.{begins_ours, front_whole, log_by, none_yet, new_len, new_log, opened_is, closed_is}
use Rattle.up_log.proofs.heading.begin.Goals as goal

pub returns-then-begins_with-clause-ours : goal.returns-then-begins_with-clause-ours
returns-then-begins_with-clause-ours g c = λ clean.
    let seen = g.D.Disk.seen c.args.disk.now in
    let same : g.D.Disk.seen c.front_of.new.disk ≡ seen = c.front_of.ensures.seen ∙ c.len_of.ensures.seen in
    let len : c.in_ok-len.len ≡ length seen = c.in_ok-len.ensures.len (c.front_of.ensures.clean clean) in
    let front : c.in_ok-front.front.items ≡ take 35 seen = c.in_ok-front.ensures.bytes clean (len ∙ ap length (sym c.len_of.ensures.seen)) ∙ ap (λ (l : List ℕ). take 35 l) c.len_of.ensures.seen in
    let opened = opened_is c.args.setup c.deref.result.now c.split_at.result.0.now (c.deref.ensures.value ∙ c.in_ok-whole.ensures.bytes) c.split_at.ensures.front in
    let ours = begins_ours c.args.setup seen c.deref-then-not-is_unfinished.result.now c.split_at.result.0.now (c.deref-then-not-is_unfinished.ensures.value ∙ front) (c.if-begins_with.ensures refl) opened in
    inl ours

pub returns-then-begins_with-clause-reads : goal.returns-then-begins_with-clause-reads
returns-then-begins_with-clause-reads g c = λ batches is only clean.
    let seen = g.D.Disk.seen c.args.disk.now in
    let same : g.D.Disk.seen c.front_of.new.disk ≡ seen = c.front_of.ensures.seen ∙ c.len_of.ensures.seen in
    let len : c.in_ok-len.len ≡ length seen = c.in_ok-len.ensures.len (c.front_of.ensures.clean clean) in
    let front : c.in_ok-front.front.items ≡ take 35 seen = c.in_ok-front.ensures.bytes clean (len ∙ ap length (sym c.len_of.ensures.seen)) ∙ ap (λ (l : List ℕ). take 35 l) c.len_of.ensures.seen in
    let opened = opened_is c.args.setup c.deref.result.now c.split_at.result.0.now (c.deref.ensures.value ∙ c.in_ok-whole.ensures.bytes) c.split_at.ensures.front in
    let ours = begins_ours c.args.setup seen c.deref-then-not-is_unfinished.result.now c.split_at.result.0.now (c.deref-then-not-is_unfinished.ensures.value ∙ front) (c.if-begins_with.ensures refl) opened in
    (subst (λ (f : List ℕ). IsLog c.args.setup f batches) (sym same) (log_by c.args.setup batches seen ours.0 ours.1 is), len ∙ ap length (sym same), λ d now. only d (c.len_of.ensures.crash d (c.front_of.ensures.crash d now)) ∙ sym same)

pub returns-in_err-begin_anew-clause-crash : goal.returns-in_err-begin_anew-clause-crash
returns-in_err-begin_anew-clause-crash g c = λ batches is only clean_now left now.
    let clean = subst IsTrue c.begin_anew.ensures.calm clean_now in
    let seen = g.D.Disk.seen c.args.disk.now in
    let same : g.D.Disk.seen c.front_of.new.disk ≡ seen = c.front_of.ensures.seen ∙ c.len_of.ensures.seen in
    let len : c.in_ok-len.len ≡ length seen = c.in_ok-len.ensures.len (c.front_of.ensures.clean clean) in
    let front : c.in_ok-front.front.items ≡ take 35 seen = c.in_ok-front.ensures.bytes clean (len ∙ ap length (sym c.len_of.ensures.seen)) ∙ ap (λ (l : List ℕ). take 35 l) c.len_of.ensures.seen in
    let closed = closed_is c.args.setup c.deref-2.result.now c.split_at-2.result.1.now (c.deref-2.ensures.value ∙ c.in_ok-whole.ensures.bytes) c.split_at-2.ensures.back in
    let unfinished = c.if-not-is_unfinished.ensures c.args.setup closed refl in
    let all : c.deref-3.result.now ≡ seen = front_whole seen c.deref-3.result.now (c.deref-3.ensures.value ∙ front) unfinished.1 in
    let is_now = subst (IsUnfinished c.args.setup) (all ∙ sym same) unfinished.0 in
    let first : c.first_of.result ≡ get_or (g.D.Disk.seen c.front_of.new.disk) 0 1 = c.first_of.ensures ∙ ap (λ (l : List ℕ). get_or l 0 1) (c.deref-4.ensures.value ∙ sym c.deref-3.ensures.value ∙ all ∙ sym same) in
    let only_now : Only (g.D.Disk.seen c.front_of.new.disk) (g.D.Disk.may_leave c.front_of.new.disk) = λ d now. only d (c.len_of.ensures.crash d (c.front_of.ensures.crash d now)) ∙ sym same in
    let none = none_yet c.args.setup batches seen (subst (IsUnfinished c.args.setup) all unfinished.0) is in
    subst (λ (b : List (List Entry)). IsFileOf c.args.setup b left) (sym none) (c.begin_anew.ensures.crash c.args.setup closed is_now first only_now left now)

pub returns-clause-ours : goal.returns-clause-ours
returns-clause-ours g c = λ clean_now.
    let clean = subst IsTrue c.begin_anew.ensures.calm clean_now in
    let seen = g.D.Disk.seen c.args.disk.now in
    let same : g.D.Disk.seen c.front_of.new.disk ≡ seen = c.front_of.ensures.seen ∙ c.len_of.ensures.seen in
    let len : c.in_ok-len.len ≡ length seen = c.in_ok-len.ensures.len (c.front_of.ensures.clean clean) in
    let front : c.in_ok-front.front.items ≡ take 35 seen = c.in_ok-front.ensures.bytes clean (len ∙ ap length (sym c.len_of.ensures.seen)) ∙ ap (λ (l : List ℕ). take 35 l) c.len_of.ensures.seen in
    let closed = closed_is c.args.setup c.deref-2.result.now c.split_at-2.result.1.now (c.deref-2.ensures.value ∙ c.in_ok-whole.ensures.bytes) c.split_at-2.ensures.back in
    let unfinished = c.if-not-is_unfinished.ensures c.args.setup closed refl in
    let all : c.deref-3.result.now ≡ seen = front_whole seen c.deref-3.result.now (c.deref-3.ensures.value ∙ front) unfinished.1 in
    inr (subst (IsUnfinished c.args.setup) all unfinished.0)

pub returns-clause-reads : goal.returns-clause-reads
returns-clause-reads g c = λ batches is only clean_now.
    let clean = subst IsTrue c.begin_anew.ensures.calm clean_now in
    let seen = g.D.Disk.seen c.args.disk.now in
    let same : g.D.Disk.seen c.front_of.new.disk ≡ seen = c.front_of.ensures.seen ∙ c.len_of.ensures.seen in
    let len : c.in_ok-len.len ≡ length seen = c.in_ok-len.ensures.len (c.front_of.ensures.clean clean) in
    let front : c.in_ok-front.front.items ≡ take 35 seen = c.in_ok-front.ensures.bytes clean (len ∙ ap length (sym c.len_of.ensures.seen)) ∙ ap (λ (l : List ℕ). take 35 l) c.len_of.ensures.seen in
    let closed = closed_is c.args.setup c.deref-2.result.now c.split_at-2.result.1.now (c.deref-2.ensures.value ∙ c.in_ok-whole.ensures.bytes) c.split_at-2.ensures.back in
    let unfinished = c.if-not-is_unfinished.ensures c.args.setup closed refl in
    let all : c.deref-3.result.now ≡ seen = front_whole seen c.deref-3.result.now (c.deref-3.ensures.value ∙ front) unfinished.1 in
    let is_now = subst (IsUnfinished c.args.setup) (all ∙ sym same) unfinished.0 in
    let first : c.first_of.result ≡ get_or (g.D.Disk.seen c.front_of.new.disk) 0 1 = c.first_of.ensures ∙ ap (λ (l : List ℕ). get_or l 0 1) (c.deref-4.ensures.value ∙ sym c.deref-3.ensures.value ∙ all ∙ sym same) in
    let only_now : Only (g.D.Disk.seen c.front_of.new.disk) (g.D.Disk.may_leave c.front_of.new.disk) = λ d now. only d (c.len_of.ensures.crash d (c.front_of.ensures.crash d now)) ∙ sym same in
    let none = none_yet c.args.setup batches seen (subst (IsUnfinished c.args.setup) all unfinished.0) is in
    let opened = c.in_ok-begin_anew.ensures.opened c.args.setup closed is_now first only_now in
    (new_log c.args.setup batches (g.D.Disk.seen c.begin_anew.new.disk) none opened.0, new_len c.args.setup (g.D.Disk.seen c.begin_anew.new.disk) c.len.result opened.0 (c.len.ensures ∙ c.in_ok-whole.ensures.len), opened.1)

pub returns-clause-crash : goal.returns-clause-crash
returns-clause-crash g c = λ batches is only clean_now left now.
    let clean = subst IsTrue c.begin_anew.ensures.calm clean_now in
    let seen = g.D.Disk.seen c.args.disk.now in
    let same : g.D.Disk.seen c.front_of.new.disk ≡ seen = c.front_of.ensures.seen ∙ c.len_of.ensures.seen in
    let len : c.in_ok-len.len ≡ length seen = c.in_ok-len.ensures.len (c.front_of.ensures.clean clean) in
    let front : c.in_ok-front.front.items ≡ take 35 seen = c.in_ok-front.ensures.bytes clean (len ∙ ap length (sym c.len_of.ensures.seen)) ∙ ap (λ (l : List ℕ). take 35 l) c.len_of.ensures.seen in
    let closed = closed_is c.args.setup c.deref-2.result.now c.split_at-2.result.1.now (c.deref-2.ensures.value ∙ c.in_ok-whole.ensures.bytes) c.split_at-2.ensures.back in
    let unfinished = c.if-not-is_unfinished.ensures c.args.setup closed refl in
    let all : c.deref-3.result.now ≡ seen = front_whole seen c.deref-3.result.now (c.deref-3.ensures.value ∙ front) unfinished.1 in
    let is_now = subst (IsUnfinished c.args.setup) (all ∙ sym same) unfinished.0 in
    let first : c.first_of.result ≡ get_or (g.D.Disk.seen c.front_of.new.disk) 0 1 = c.first_of.ensures ∙ ap (λ (l : List ℕ). get_or l 0 1) (c.deref-4.ensures.value ∙ sym c.deref-3.ensures.value ∙ all ∙ sym same) in
    let only_now : Only (g.D.Disk.seen c.front_of.new.disk) (g.D.Disk.may_leave c.front_of.new.disk) = λ d now. only d (c.len_of.ensures.crash d (c.front_of.ensures.crash d now)) ∙ sym same in
    let none = none_yet c.args.setup batches seen (subst (IsUnfinished c.args.setup) all unfinished.0) is in
    subst (λ (b : List (List Entry)). IsFileOf c.args.setup b left) (sym none) (c.begin_anew.ensures.crash c.args.setup closed is_now first only_now left now)
