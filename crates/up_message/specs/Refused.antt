-- Responses that refuse a request.
use Rattle.std.specs.Prelude.{ℕ, List, [], ◌∷◌, codes}
use Rattle.up_message.specs.Fields.{Field}
use Rattle.up_message.specs.declared.response.Response.{Response}

abbrev pub answered : ℕ → List Field → List ℕ → Response
answered status fields body = record { status = status; fields = fields; body = body }

-- the type of every plain text in a response
abbrev pub plain_text : Field
plain_text = (codes "Content-Type", codes "text/plain")

-- a request was refused for the reason in this text
abbrev pub refused_with : ℕ → List ℕ → Response
refused_with status text = answered status (plain_text ∷ []) text

-- memory ran out
abbrev pub out_of_memory : Response
out_of_memory = answered 503 [] []
