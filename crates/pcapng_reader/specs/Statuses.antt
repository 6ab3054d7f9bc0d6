-- The exit status of each way in which a run ends.
use Rattle.std.specs.Prelude.{ℕ}
use Rattle.pcapng_reader.specs.declared.status.PngStatus.{PngStatus}
use Rattle.pcapng_reader.specs.declared.status.PngStatus.TheVariants.{Done, ReadFault, Usage, WriteFault, NotPcapng}
use Rattle.pcapng_reader.specs.declared.status.PngStatus.TheVariants.{BadBlock, TooLarge, NoMemory}

abbrev pub exit_status : PngStatus → ℕ
exit_status Done = 0
exit_status ReadFault = 1
exit_status Usage = 2
exit_status WriteFault = 3
exit_status NotPcapng = 4
exit_status (BadBlock at) = 6
exit_status TooLarge = 7
exit_status NoMemory = 8
