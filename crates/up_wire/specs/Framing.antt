-- Where the body of a message ends, according to the head (RFC 9112, section 6.3).
use Rattle.std.specs.Prelude.{ℕ, Bool, true, false, ◌&&◌, ◌||◌, List, [], ◌∷◌, Result, Ok, Err, if◌then◌else◌, nat_lt, nat_le, ◌==◌, codes}
use Rattle.std.specs.List.{list_any}
use Rattle.std.specs.Str.Parse.{digits_value}
use Rattle.httparse.specs.Grammar.{trim_ows}
use Rattle.up_wire.specs.declared.wire_fault.WireFault.{WireFault}
use Rattle.up_wire.specs.declared.wire_fault.WireFault.TheVariants as Fault
use Rattle.up_wire.specs.declared.framing.Framing.{Framing}
use Rattle.up_wire.specs.declared.framing.Framing.TheVariants.{NoBody, Sized, Chunked}
use Rattle.up_message.specs.Digits.{is_digits}
use Rattle.up_message.specs.Fields.{Field, values, same_name, split_commas}

-- `Content-Length` is the only field about the length
abbrev pub sized : ℕ → List ℕ → Result Framing WireFault
sized limit value =
    if is_digits value
    then (if nat_le (digits_value 10 value) limit then Ok (Sized (digits_value 10 value)) else Err Fault.BodyTooLarge)
    else Err Fault.BadFraming

-- `Transfer-Encoding` is the only field about the length; HTTP/1.0 does not have it
abbrev pub coded : ℕ → List ℕ → Result Framing WireFault
coded minor value =
    if minor == 0 then Err Fault.BadFraming
    else (if same_name value (codes "chunked") then Ok Chunked else Err Fault.UnknownCoding)

-- from the values of both fields: at most one of the fields may be there, and only once
abbrev pub framed : ℕ → ℕ → List (List ℕ) → List (List ℕ) → Result Framing WireFault
framed limit minor [] [] = Ok NoBody
framed limit minor (size ∷ []) [] = sized limit size
framed limit minor [] (coding ∷ []) = coded minor coding
framed limit minor sizes codings = Err Fault.BadFraming

-- how the body is framed, or the fault
abbrev pub framing : ℕ → ℕ → List Field → Result Framing WireFault
framing limit minor fields =
    framed limit minor (values (codes "content-length") fields) (values (codes "transfer-encoding") fields)

-- a body is expected
abbrev pub has_body : Framing → Bool
has_body NoBody = false
has_body (Sized size) = nat_lt 0 size
has_body Chunked = true

-- a value that asks for `100 Continue`
unfoldable pub is_continue : List ℕ → Bool
is_continue value = same_name value (codes "100-continue")

-- the client waits for `100 Continue`
abbrev pub asks_to_continue : ℕ → List Field → Bool
asks_to_continue minor fields = (minor == 1) && list_any is_continue (values (codes "expect") fields)

-- whether one of the tokens of a value is this one, ignoring case
abbrev pub has_token : List ℕ → List ℕ → Bool
has_token token value = list_any (λ piece. same_name (trim_ows piece) token) (split_commas value)

-- whether a field says that the connection closes (RFC 9112, section 9.3)
abbrev pub says_close : List Field → Bool
says_close fields = list_any (has_token (codes "close")) (values (codes "connection") fields)

-- the connection closes after the message
abbrev pub closes : ℕ → List Field → Bool
closes minor fields = (minor == 0) || says_close fields

-- what is written before the body is read
abbrev pub interim : Framing → ℕ → List Field → List ℕ
interim framing minor fields =
    if has_body framing && asks_to_continue minor fields then codes "HTTP/1.1 100 Continue\r\n\r\n" else []
