-- The line of each way in which a run ends.
use Rattle.std.specs.Prelude.{ℕ, List, codes}
use Rattle.meter_program.specs.declared.status.Status.{Status}
use Rattle.meter_program.specs.declared.status.Status.TheVariants.{Done, ReadFault, Usage, WriteFault, NotCapture}
use Rattle.meter_program.specs.declared.status.Status.TheVariants.{LinkUnknown, Damaged, TooLarge, NoMemory, NotStream}
use Rattle.meter_program.specs.declared.status.Status.TheVariants.{BadSchedule}
use Rattle.meter_program.specs.Statuses.{fault_line}

-- The line of a status on standard error: that of `meter`, but for the words that this program takes.
abbrev pub pipe_line : Status → List ℕ
pipe_line Usage = codes "usage: pipe\n"
pipe_line Done = fault_line Done
pipe_line WriteFault = fault_line WriteFault
pipe_line ReadFault = fault_line ReadFault
pipe_line NotCapture = fault_line NotCapture
pipe_line (LinkUnknown link) = fault_line (LinkUnknown link)
pipe_line (Damaged at) = fault_line (Damaged at)
pipe_line TooLarge = fault_line TooLarge
pipe_line NoMemory = fault_line NoMemory
pipe_line (NotStream fault) = fault_line (NotStream fault)
pipe_line (BadSchedule line) = fault_line (BadSchedule line)
