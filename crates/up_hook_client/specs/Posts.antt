-- Events on their way to a hook server, as contracts describe it.
use Rattle.std.specs.Prelude.{List}
use Rattle.up_events.specs.declared.event.Event.{Event}
use Rattle.up_hook_client.specs.declared.acknowledged.Acknowledged.{Acknowledged}
use Rattle.up_hook_client.specs.declared.enabled.Enabled.{Enabled}
use Rattle.up_hook_client.specs.declared.post.Post.{Post}

-- the events, in order
abbrev pub events_of : Acknowledged → List Event
events_of acknowledged = acknowledged.events.items

-- the hooks of whose events the server is told
abbrev pub enabled_of : Acknowledged → Enabled
enabled_of acknowledged = acknowledged.enabled

-- the events that the server acknowledged, in order
abbrev pub acknowledged_by : {R : Type 0} → Post R → List Event
acknowledged_by post = post.acknowledged.events.items

-- the hooks of whose events the server is told
abbrev pub enabled_by : {R : Type 0} → Post R → Enabled
enabled_by post = post.acknowledged.enabled
