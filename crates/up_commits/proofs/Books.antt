-- Books that follow a log.
use Rattle.std.proofs.Common.{◌≡◌, Bool, true, false, List, [], ◌∷◌, ◌++◌, length, Option, Some, None, Result, Ok, Err, refl, ap, sym, ◌∙◌, arith}
use Rattle.up_log.specs.declared.entry.Entry.{Entry}
use Rattle.up_events.specs.declared.event.Accepted.{Accepted}
use Rattle.up_machine.specs.Decision.{decide}
use Rattle.up_machine.specs.State.{State, after}
use Rattle.up_machine.specs.declared.plan.Done.{Done}
use Rattle.up_machine.specs.declared.refusal.Refusal.{Refusal}
use Rattle.up_replay.specs.Replay.{asked_of, carried, replayed, replayed_one, ReplaysGoOn}
use Rattle.up_commits.specs.Follows.{carried_of, new_book, NewBooksFollow, ClosedBooksFollow, BooksFollow, BooksPassOver}

-- entries close no book
after_closed : (s : State) (entry : Entry) (change : Option Accepted) → (after s entry.request entry.id change).closed ≡ s.closed
after_closed s entry None = refl
after_closed s entry (Some change) = refl

carried_closed : (s : State) (entry : Entry) (decision : Result Done Refusal) → (carried s entry decision).closed ≡ s.closed
carried_closed s entry (Ok done) = after_closed s entry done.change
carried_closed s entry (Err refused) = refl

one_closed : (s : State) (entry : Entry) → (replayed_one s entry).closed ≡ s.closed
one_closed s entry = carried_closed s entry (decide s entry.request entry.id (asked_of entry.consent))

replayed_closed : (s : State) (entries : List Entry) → (replayed s entries).closed ≡ s.closed
unfolding replayed
replayed_closed s [] = refl
replayed_closed s (entry ∷ entries) = replayed_closed (replayed_one s entry) entries ∙ one_closed s entry

-- one entry more
carried-push : (entries : List Entry) (flags : List Bool) (entry : Entry) → length flags ≡ length entries
    → carried_of (flags ++ true ∷ []) (entries ++ entry ∷ []) ≡ carried_of flags entries ++ entry ∷ []
unfolding carried_of
carried-push [] [] entry same = refl
carried-push [] (c ∷ flags) entry same = absurd (omega (arith, same))
carried-push (e ∷ entries) [] entry same = absurd (omega (arith, same))
carried-push (e ∷ entries) (true ∷ flags) entry same = ap (λ l. e ∷ l) (carried-push entries flags entry (omega (arith, same)))
carried-push (e ∷ entries) (false ∷ flags) entry same = carried-push entries flags entry (omega (arith, same))

passed-push : (entries : List Entry) (flags : List Bool) (entry : Entry) → length flags ≡ length entries
    → carried_of (flags ++ false ∷ []) (entries ++ entry ∷ []) ≡ carried_of flags entries
unfolding carried_of
passed-push [] [] entry same = refl
passed-push [] (c ∷ flags) entry same = absurd (omega (arith, same))
passed-push (e ∷ entries) [] entry same = absurd (omega (arith, same))
passed-push (e ∷ entries) (true ∷ flags) entry same = ap (λ l. e ∷ l) (passed-push entries flags entry (omega (arith, same)))
passed-push (e ∷ entries) (false ∷ flags) entry same = passed-push entries flags entry (omega (arith, same))

-- a book that isn't closed
open_as : (s : State) (closed : Bool) → closed ≡ false → s.closed ≡ false → record s { closed = closed } ≡ s
open_as s closed isnt is_open = ap (λ (c : Bool). record s { closed = c }) (isnt ∙ sym is_open)

pub new_follow : NewBooksFollow
unfolding replayed carried_of
new_follow keeps lanes max_size = (keeps, false, refl)

pub closed_follow : ClosedBooksFollow
closed_follow lanes max_size f s is = (is.0, true, ap (λ (t : State). record t { closed = true }) is.2)

pub follow : ReplaysGoOn → BooksFollow
unfolding replayed
follow go_on lanes max_size f entry s t same is is_open one =
    let start = new_book is.0 lanes max_size in
    let book = replayed start (carried_of f.carried f.entries) in
    let book_open : book.closed ≡ false = replayed_closed start (carried_of f.carried f.entries) in
    let not_closed : is.1 ≡ false = sym (ap (λ (x : State). x.closed) is.2) ∙ is_open in
    let so_far : s ≡ book = is.2 ∙ open_as book is.1 not_closed book_open in
    let all : t ≡ replayed start (carried_of (f.carried ++ true ∷ []) (f.entries ++ entry ∷ [])) =
    one ∙ (ap (λ (x : State). replayed_one x entry) so_far
    ∙ (sym (go_on start (carried_of f.carried f.entries) (entry ∷ [])) ∙ sym (ap (replayed start) (carried-push f.entries f.carried entry same)))) in
    let after_open = replayed_closed start (carried_of (f.carried ++ true ∷ []) (f.entries ++ entry ∷ [])) in
    (is.0, false, all ∙ sym (open_as (replayed start (carried_of (f.carried ++ true ∷ []) (f.entries ++ entry ∷ []))) false refl after_open))

pub pass_over : BooksPassOver
pass_over lanes max_size f entry s same is =
    (is.0, is.1, is.2 ∙ sym (ap (λ (l : List Entry). record (replayed (new_book is.0 lanes max_size) l) { closed = is.1 }) (passed-push f.entries f.carried entry same)))
