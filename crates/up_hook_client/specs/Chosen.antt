-- Which hooks a hook server is asked or told of.
use Rattle.std.specs.Prelude.{Bool}
use Rattle.up_events.specs.declared.event.Hook.{Hook}
use Rattle.up_events.specs.declared.event.Hook.TheVariants.{Create as HookCreate, Receive, Finish as HookFinish, Terminate as HookTerminate}
use Rattle.up_machine.specs.declared.ask.Point.{Point}
use Rattle.up_machine.specs.declared.ask.Point.TheVariants.{Create, Finish, Terminate}
use Rattle.up_hook_client.specs.declared.enabled.Enabled.{Enabled}

-- the server is asked at this point
abbrev pub is_asked_at : Enabled → Point → Bool
is_asked_at enabled Create = enabled.pre_create
is_asked_at enabled Finish = enabled.pre_finish
is_asked_at enabled Terminate = enabled.pre_terminate

-- the server is told of the events of this hook
abbrev pub is_told_of : Enabled → Hook → Bool
is_told_of enabled HookCreate = enabled.post_create
is_told_of enabled Receive = enabled.post_receive
is_told_of enabled HookFinish = enabled.post_finish
is_told_of enabled HookTerminate = enabled.post_terminate
