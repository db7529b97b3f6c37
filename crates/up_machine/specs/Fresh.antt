-- What uploads were created with, on its way to the lanes of their events.
use Rattle.std.specs.Prelude.{List, Option, All, IfSome}
use Rattle.up_events.specs.declared.event.Accepted.{Accepted}
use Rattle.up_machine.specs.State.{Contents}
use Rattle.up_machine.specs.Details.{IsOfUpload}
use Rattle.up_machine.specs.declared.fresh.Fresh.{Fresh}

-- all lists are of uploads that were created
abbrev pub AreListed : Contents → List Accepted → Fresh → Type 0
AreListed content changes fresh = All (λ list. All (IsOfUpload content changes) list.items) fresh.lists.items

-- the same of the lists that a book has, if any
abbrev pub AreFresh : Contents → List Accepted → Option Fresh → Type 0
AreFresh content changes fresh = IfSome fresh (AreListed content changes)
