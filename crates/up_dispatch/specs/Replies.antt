-- The answers to messages that are refused.
use Rattle.std.specs.Prelude.{◌≡◌, ◌⊎◌, ℕ, Bool, true, false, List, [], ◌∷◌, Option, Some, None, codes}
use Rattle.up_headers.specs.HeaderFaults.{header_fault_line, header_fault_status}
use Rattle.up_headers.specs.declared.header_fault.HeaderFault.{HeaderFault}
use Rattle.up_headers.specs.declared.header_fault.HeaderFault.TheVariants as fault
use Rattle.up_machine.specs.Responses.{version}
use Rattle.up_message.specs.Refused.{answered, out_of_memory, plain_text, refused_with}
use Rattle.up_wire.specs.WireFaults.{wire_fault_line, wire_fault_status}
use Rattle.up_message.specs.declared.response.Response.{Response}
use Rattle.up_wire.specs.declared.wire_fault.WireFault.{WireFault}
use Rattle.up_wire.specs.declared.wire_fault.WireFault.TheVariants as unread

-- the answer that refuses another version
abbrev pub version_refused_with : ℕ → List ℕ → Response
version_refused_with status text = answered status (version ∷ plain_text ∷ []) text

-- the methods at an upload, or at the creation URL
abbrev pub methods : Bool → List ℕ
methods true = codes "OPTIONS, HEAD, GET, PATCH, DELETE"
methods false = codes "OPTIONS, POST"

-- the answer that refuses a method, at an upload or at the creation URL
abbrev pub method_refused_with : ℕ → List ℕ → Bool → Response
method_refused_with status text of_upload = answered status ((codes "Allow", methods of_upload) ∷ plain_text ∷ []) text

-- the answer with this status and text; an empty 503 if there is no status
abbrev pub reply_with : Option ℕ → List ℕ → Response
reply_with None text = out_of_memory
reply_with (Some status) text = refused_with status text

-- the answer to a message that can't be read
abbrev pub reply_to_wire_fault : WireFault → Response
reply_to_wire_fault unread.NoMemory = out_of_memory
reply_to_wire_fault other = reply_with (wire_fault_status other) (wire_fault_line other)

-- the answer to a message that is not a request
abbrev pub reply_to_header_fault : HeaderFault → Response
reply_to_header_fault fault.Version = version_refused_with (header_fault_status fault.Version) (header_fault_line fault.Version)
reply_to_header_fault (fault.Method of_upload) =
    method_refused_with (header_fault_status (fault.Method of_upload)) (header_fault_line (fault.Method of_upload)) of_upload
reply_to_header_fault fault.NoMemory = out_of_memory
reply_to_header_fault other = refused_with (header_fault_status other) (header_fault_line other)

-- it is this response, or the answer that memory ran out
abbrev pub IsReply : Response → Response → Type 0
IsReply expected response = (response ≡ expected) ⊎ (response ≡ out_of_memory)
