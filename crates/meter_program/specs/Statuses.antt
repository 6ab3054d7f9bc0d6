-- The exit status and the line of each way in which a run ends.
use Rattle.std.specs.Prelude.{ℕ, Bool, true, false, List, [], ◌++◌, codes, decimal}
use Rattle.ipfix_reader.specs.FaultTexts.{stream_fault_text}
use Rattle.meter_program.specs.declared.status.Status.{Status}
use Rattle.meter_program.specs.declared.status.Status.TheVariants.{Done, ReadFault, Usage, WriteFault, NotCapture}
use Rattle.meter_program.specs.declared.status.Status.TheVariants.{LinkUnknown, Damaged, TooLarge, NoMemory, NotStream}
use Rattle.meter_program.specs.declared.status.Status.TheVariants.{BadSchedule}

-- The exit status.
abbrev pub exit_status : Status → ℕ
exit_status Done = 0
exit_status ReadFault = 1
exit_status Usage = 2
exit_status WriteFault = 3
exit_status NotCapture = 4
exit_status (LinkUnknown link) = 5
exit_status (Damaged at) = 6
exit_status TooLarge = 7
exit_status NoMemory = 8
exit_status (NotStream fault) = 9
exit_status (BadSchedule line) = 10

-- Whether nothing was done: all statuses but that of a run that is done, and of one whose write failed.
abbrev pub is_refusal : Status → Bool
is_refusal Done = false
is_refusal WriteFault = false
is_refusal ReadFault = true
is_refusal Usage = true
is_refusal NotCapture = true
is_refusal (LinkUnknown link) = true
is_refusal (Damaged at) = true
is_refusal TooLarge = true
is_refusal NoMemory = true
is_refusal (NotStream fault) = true
is_refusal (BadSchedule line) = true

-- What is said of a status, without the end of the line; nothing where all was done or a write failed.
abbrev pub fault_text : Status → List ℕ
fault_text Done = []
fault_text WriteFault = []
fault_text ReadFault = codes "read fault"
fault_text Usage = codes "usage: meter, show, make, schedule or selftest"
fault_text NotCapture = codes "not a capture"
fault_text (LinkUnknown link) = codes "link type " ++ decimal link
fault_text (Damaged at) = codes "damaged at " ++ decimal at
fault_text TooLarge = codes "too large"
fault_text NoMemory = codes "no memory"
fault_text (NotStream fault) = codes "not a stream: " ++ stream_fault_text fault
fault_text (BadSchedule line) = codes "bad schedule line " ++ decimal line

-- The line of a status on standard error.
abbrev pub fault_line : Status → List ℕ
fault_line status = fault_text status ++ codes "\n"
