-- An answer of a hook server, as contracts describe it.
use Rattle.std.specs.Prelude.{ℕ, List, string_bytes}
use Rattle.up_hook_client.specs.declared.connection.Answer.{Answer}

-- its status
abbrev pub status_of : Answer → ℕ
status_of answer = answer.status

-- its body
abbrev pub body_of : Answer → List ℕ
body_of answer = answer.body.items

-- the body of the request that it answers
abbrev pub asked_of : Answer → List ℕ
asked_of answer = string_bytes answer.asked.value
