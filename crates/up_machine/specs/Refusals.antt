-- The responses to requests that are refused.
use Rattle.std.specs.Prelude.{◌++◌, codes}
use Rattle.up_machine.specs.declared.refusal.Refusal.{Refusal}
use Rattle.up_machine.specs.declared.refusal.Refusal.TheVariants as refusal
use Rattle.up_message.specs.Refused.{out_of_memory, refused_with}
use Rattle.up_message.specs.declared.response.Response.{Response}

-- the response to each refusal: its status, and a line with its number and name, or with the reason of a closure
abbrev pub response_of : Refusal → Response
response_of refusal.Closed = refused_with 503 (codes "20 Closed\n")
response_of refusal.NotFound = refused_with 404 (codes "21 NotFound\n")
response_of refusal.FinalUpload = refused_with 403 (codes "22 FinalUpload\n")
response_of refusal.MediaType = refused_with 415 (codes "23 MediaType\n")
response_of refusal.BadOffset = refused_with 400 (codes "24 BadOffset\n")
response_of refusal.WrongOffset = refused_with 409 (codes "25 WrongOffset\n")
response_of refusal.BadDeclared = refused_with 400 (codes "36 BadDeclared\n")
response_of refusal.DeclaredTooLong = refused_with 413 (codes "37 DeclaredTooLong\n")
response_of refusal.TooMuch = refused_with 413 (codes "26 TooMuch\n")
response_of refusal.PartUnknown = refused_with 400 (codes "27 PartUnknown\n")
response_of refusal.PartNotPartial = refused_with 400 (codes "28 PartNotPartial\n")
response_of refusal.PartUnfinished = refused_with 400 (codes "29 PartUnfinished\n")
response_of refusal.SumTooLong = refused_with 413 (codes "30 SumTooLong\n")
response_of refusal.NotAsked = refused_with 409 (codes "35 NotAsked\n")
response_of (refusal.ByHook status reason) = refused_with status (reason ++ codes "\n")
response_of refusal.IdTaken = refused_with 500 (codes "32 IdTaken\n")
response_of refusal.Unfinished = refused_with 409 (codes "33 Unfinished\n")
response_of refusal.NoMemory = out_of_memory
