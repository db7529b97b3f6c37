-- Whether the file of a log has to be opened again.
use Rattle.std.specs.Prelude.{Bool, true, false}
use Rattle.up_store.specs.declared.held.State.{State}
use Rattle.up_store.specs.declared.held.State.TheVariants.{Unread, Open, Closed}

-- a call on the log failed
abbrev pub is_failed : {D J : Type 0} → State D J → Bool
is_failed Unread = false
is_failed (Open written) = written.log.is_broken
is_failed (Closed history place) = true
