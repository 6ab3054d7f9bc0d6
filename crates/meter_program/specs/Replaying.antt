-- The code's own: why a text isn't replayed.
use Rattle.std.specs.Prelude.{◌≡◌, ℕ, List, Some, ⊤}
use Rattle.meter_program.specs.declared.status.Status.{Status}
use Rattle.meter_program.specs.declared.status.Status.TheVariants.{Done, ReadFault, WriteFault, NotCapture, LinkUnknown}
use Rattle.meter_program.specs.declared.status.Status.TheVariants.{Damaged, TooLarge, NoMemory, Usage, NotStream}
use Rattle.meter_program.specs.declared.status.Status.TheVariants.{BadSchedule}
use Rattle.meter_program.specs.Replays.{bad_line}

abbrev pub TextRefuses : List ℕ → Status → Type 0
TextRefuses bytes (BadSchedule line) = bad_line bytes ≡ Some line
TextRefuses bytes NoMemory = ⊤
TextRefuses bytes Done = ⊥
TextRefuses bytes ReadFault = ⊥
TextRefuses bytes WriteFault = ⊥
TextRefuses bytes Usage = ⊥
TextRefuses bytes NotCapture = ⊥
TextRefuses bytes (LinkUnknown link) = ⊥
TextRefuses bytes (Damaged at) = ⊥
TextRefuses bytes TooLarge = ⊥
TextRefuses bytes (NotStream fault) = ⊥
