-- What a hook server says of a request, as contracts describe it.
use Rattle.std.specs.Prelude.{Option}
use Rattle.up_machine.specs.declared.ask.Point.{Point}
use Rattle.up_machine.specs.declared.ask.Verdict.{Verdict}
use Rattle.up_hook_client.specs.declared.connection.Answer.{Answer}
use Rattle.up_hook_client.specs.declared.enabled.Enabled.{Enabled}
use Rattle.up_hook_client.specs.declared.heard.Judged.{Judged}

-- at which point it was asked
abbrev pub point_of : Judged → Point
point_of judged = judged.point

-- at which points the server is asked
abbrev pub asked_by : Judged → Enabled
asked_by judged = judged.enabled

-- the verdict
abbrev pub said_by : Judged → Verdict
said_by judged = judged.verdict

-- the answer that it comes from; none if the server gave none
abbrev pub answer_of : Judged → Option Answer
answer_of judged = judged.answer
