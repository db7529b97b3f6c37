use Rattle.std.proofs.Common.{[], ◌∷◌, ◌++◌, sym, subst, arith}
use Rattle.std.proofs.lemmas.Bool.Decides.{nat_tests}
use Rattle.up_headers.specs.Places.{IsAt}
use Rattle.up_headers.specs.Concat.{NameUploads, ReadsParts}
use Rattle.up_headers.proofs.WordLemmas.{no_word}
use Rattle.up_headers.proofs.ConcatLemmas.{word_begins, shorter, starts, continues, names_more, elsewhere, list_read, list_empty, list_bad}
use Rattle.up_headers.proofs.concat.parts_of.Goals as goal

pub loop-url-init : goal.loop-url-init
loop-url-init c = ([], starts c.args.list.now, subst (NameUploads []) (sym c.new-parts.ensures.items) tt)

pub returns-in_default-2 : goal.returns-in_default-2
returns-in_default-2 c =
    let i = c.loop-url.invariant in
    let begins = word_begins c.loop-url.rest.now c.in-Some.url.now c.in-Some.behind.now c.in-Some.ensures.0 c.in-Some.ensures.1 c.in-Some.ensures.2 in
    list_bad c.args.list.now i.0 c.loop-url.rest.now c.in-Some.url.now c.in-Some.behind.now c.in_ok-id.field-0 i.1 begins c.in_ok-id.ensures (elsewhere c.in_ok-id.field-0 c.in_default-2.not-Upload)

pub loop-url-smaller : goal.loop-url-smaller
loop-url-smaller c =
    shorter c.loop-url.rest.now c.in-Some.url.now c.in-Some.behind.now (word_begins c.loop-url.rest.now c.in-Some.url.now c.in-Some.behind.now c.in-Some.ensures.0 c.in-Some.ensures.1 c.in-Some.ensures.2)

pub loop-url-preserved : goal.loop-url-preserved
loop-url-preserved c =
    let i = c.loop-url.invariant in
    let begins = word_begins c.loop-url.rest.now c.in-Some.url.now c.in-Some.behind.now c.in-Some.ensures.0 c.in-Some.ensures.1 c.in-Some.ensures.2 in (
      i.0 ++ c.in-Some.url.now ∷ [],
      continues c.args.list.now i.0 c.loop-url.rest.now c.in-Some.url.now c.in-Some.behind.now i.1 begins,
      subst (NameUploads (i.0 ++ c.in-Some.url.now ∷ [])) (sym c.in_ok-push.ensures.items) (names_more i.0 c.loop-url.parts.items c.in-Some.url.now c.in-Upload.id i.2 (subst (IsAt c.in-Some.url.now) c.in-Upload.is c.in_ok-id.ensures)),
    )

pub returns-then-is_empty : goal.returns-then-is_empty
returns-then-is_empty c =
    let i = c.loop-url.invariant in
    list_empty c.args.list.now i.0 c.loop-url.rest.now c.loop-url.parts.items i.1 (no_word c.loop-url.rest.now c.in_default.ensures) i.2 (grind (arith, nat_tests, c.if-is_empty.ensures))

pub returns-else-is_empty : goal.returns-else-is_empty
returns-else-is_empty c =
    let i = c.loop-url.invariant in
    subst (ReadsParts c.args.list.now) (sym c.from_vec.ensures) (list_read c.args.list.now i.0 c.loop-url.rest.now c.loop-url.parts.items i.1 (no_word c.loop-url.rest.now c.in_default.ensures) i.2 (grind (arith, nat_tests, c.if-is_empty.ensures)))
