-- The exit status for each way in which a run ends, and the line that reports a refused file.
use Rattle.std.specs.Prelude.{ℕ, List, ◌++◌, codes, decimal}
use Rattle.ipfix_reader.specs.FaultTexts.{stream_fault_text}
use Rattle.join_program.specs.declared.status.FileFault.{FileFault}
use Rattle.join_program.specs.declared.status.FileFault.TheVariants.{ReadFault, TooLarge, NotStream, NotFlows, TooMany}
use Rattle.join_program.specs.declared.status.JoinStatus.{JoinStatus}
use Rattle.join_program.specs.declared.status.JoinStatus.TheVariants.{Done, Usage, WriteFault, NoMemory, Refused}

abbrev pub fault_status : FileFault → ℕ
fault_status ReadFault = 1
fault_status TooLarge = 7
fault_status (NotStream fault) = 9
fault_status (NotFlows place) = 12
fault_status TooMany = 13

abbrev pub exit_status : JoinStatus → ℕ
exit_status Done = 0
exit_status Usage = 2
exit_status WriteFault = 3
exit_status NoMemory = 8
exit_status (Refused file fault) = fault_status fault

-- What is wrong with a file.
abbrev pub fault_text : FileFault → List ℕ
fault_text ReadFault = codes "read fault"
fault_text TooLarge = codes "too large"
fault_text (NotStream fault) = codes "not a stream: " ++ stream_fault_text fault
fault_text (NotFlows place) = codes "not flow records: " ++ decimal place
fault_text TooMany = codes "too many"

-- The line that reports a refused file.
abbrev pub fault_line : List ℕ → FileFault → List ℕ
fault_line name fault = name ++ (codes ": " ++ (fault_text fault ++ codes "\n"))
