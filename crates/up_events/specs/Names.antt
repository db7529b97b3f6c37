-- The names of the hooks.
use Rattle.std.specs.Prelude.{ℕ, List, codes}
use Rattle.up_events.specs.declared.event.Hook.{Hook}
use Rattle.up_events.specs.declared.event.Hook.TheVariants.{Create, Receive, Finish, Terminate}

-- the name of a hook
abbrev pub name_of : Hook → List ℕ
name_of Create = codes "post-create"
name_of Receive = codes "post-receive"
name_of Finish = codes "post-finish"
name_of Terminate = codes "post-terminate"
