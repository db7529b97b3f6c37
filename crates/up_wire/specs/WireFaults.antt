-- The responses to the faults of the wire.
use Rattle.std.specs.Prelude.{ℕ, List, Option, Some, None, codes}
use Rattle.up_wire.specs.declared.wire_fault.WireFault.{WireFault}
use Rattle.up_wire.specs.declared.wire_fault.WireFault.TheVariants.{BadHead, HeadTooLarge, BadFraming, UnknownCoding, BodyTooLarge, ReadFailed, NoMemory, WriteFailed}

-- the status code of each fault that gets a response
abbrev pub wire_fault_status : WireFault → Option ℕ
wire_fault_status BadHead = Some 400
wire_fault_status HeadTooLarge = Some 431
wire_fault_status BadFraming = Some 400
wire_fault_status UnknownCoding = Some 501
wire_fault_status BodyTooLarge = Some 413
wire_fault_status ReadFailed = None
wire_fault_status NoMemory = Some 503
wire_fault_status WriteFailed = None

-- the line with the number and the name of each fault
abbrev pub wire_fault_line : WireFault → List ℕ
wire_fault_line BadHead = codes "1 BadHead\n"
wire_fault_line HeadTooLarge = codes "2 HeadTooLarge\n"
wire_fault_line BadFraming = codes "3 BadFraming\n"
wire_fault_line UnknownCoding = codes "4 UnknownCoding\n"
wire_fault_line BodyTooLarge = codes "5 BodyTooLarge\n"
wire_fault_line ReadFailed = codes "6 ReadFailed\n"
wire_fault_line NoMemory = codes "7 NoMemory\n"
wire_fault_line WriteFailed = codes "8 WriteFailed\n"
