-- The exit status of each way in which a run ends.
use Rattle.std.specs.Prelude.{ℕ}
use Rattle.watch_program.specs.declared.status.WatchStatus.{WatchStatus}
use Rattle.watch_program.specs.declared.status.WatchStatus.TheVariants.{Done, ReadFault, Usage, WriteFault, NotCapture}
use Rattle.watch_program.specs.declared.status.WatchStatus.TheVariants.{LinkUnknown, Damaged, TooLarge, NoMemory}

abbrev pub exit_status : WatchStatus → ℕ
exit_status Done = 0
exit_status ReadFault = 1
exit_status Usage = 2
exit_status WriteFault = 3
exit_status NotCapture = 4
exit_status (LinkUnknown link) = 5
exit_status (Damaged at) = 6
exit_status TooLarge = 7
exit_status NoMemory = 8
