-- The receipt for a line, as contracts describe it.
use Rattle.up_events.specs.declared.event.Event.{Event}
use Rattle.up_server.specs.declared.event_lines.Written.{Written}

-- the event whose line was written
abbrev pub written_of : Written → Event
written_of written = written.event.value
