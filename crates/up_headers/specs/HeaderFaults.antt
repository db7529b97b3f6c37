-- The responses to a message that the checks of its head refuse.
use Rattle.std.specs.Prelude.{ℕ, List, codes}
use Rattle.up_headers.specs.declared.header_fault.HeaderFault.{HeaderFault}
use Rattle.up_headers.specs.declared.header_fault.HeaderFault.TheVariants.{Version, NoSuchPath, Method, Repeated, BadLength, TooLong, BadConcat, BadMetadata, NoMemory}

-- the status code of each fault
abbrev pub header_fault_status : HeaderFault → ℕ
header_fault_status Version = 412
header_fault_status NoSuchPath = 404
header_fault_status (Method of_upload) = 405
header_fault_status Repeated = 400
header_fault_status BadLength = 400
header_fault_status TooLong = 413
header_fault_status BadConcat = 400
header_fault_status BadMetadata = 400
header_fault_status NoMemory = 503

-- the line with the number and the name of each fault
abbrev pub header_fault_line : HeaderFault → List ℕ
header_fault_line Version = codes "10 Version\n"
header_fault_line NoSuchPath = codes "11 NoSuchPath\n"
header_fault_line (Method of_upload) = codes "12 Method\n"
header_fault_line Repeated = codes "13 Repeated\n"
header_fault_line BadLength = codes "14 BadLength\n"
header_fault_line TooLong = codes "15 TooLong\n"
header_fault_line BadConcat = codes "16 BadConcat\n"
header_fault_line BadMetadata = codes "17 BadMetadata\n"
header_fault_line NoMemory = codes "18 NoMemory\n"
