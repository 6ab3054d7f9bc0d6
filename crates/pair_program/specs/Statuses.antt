-- The exit status of each way in which a run ends.
use Rattle.std.specs.Prelude.{ℕ}
use Rattle.pair_program.specs.declared.status.PairStatus.{PairStatus}
use Rattle.pair_program.specs.declared.status.PairStatus.TheVariants.{Done, ReadFault, Usage, WriteFault, TooLarge}
use Rattle.pair_program.specs.declared.status.PairStatus.TheVariants.{NoMemory, NotStream, NotFlows}

abbrev pub exit_status : PairStatus → ℕ
exit_status Done = 0
exit_status ReadFault = 1
exit_status Usage = 2
exit_status WriteFault = 3
exit_status TooLarge = 7
exit_status NoMemory = 8
exit_status (NotStream fault) = 9
exit_status (NotFlows place) = 12
