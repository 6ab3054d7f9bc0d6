-- Why an input is refused, and what its source counted then.
use Rattle.std.specs.Prelude.{◌≡◌, ℕ, ◌+◌, Some, None, Result, Ok, Err}
use Rattle.meter_io.specs.Reading.{TakesAtMost}
use Rattle.meter_io.specs.Sides.{Side, HasFailed, IsTooLarge, IsBroken, IsWrong}
use Rattle.pcap_reader.specs.File.{IsCaptureOf, capture_file, IsKnownLink}
use Rattle.pcap_reader.specs.Records.{damage_of}
use Rattle.capture_input.specs.declared.fault.MeterFault.{MeterFault}
use Rattle.capture_input.specs.declared.fault.MeterFault.TheVariants.{Failed, TooLarge, NotCapture, LinkUnknown}
use Rattle.capture_input.specs.declared.fault.MeterFault.TheVariants.{Damaged, NoMemory}

-- Why an input is refused. The place of damage counts from the beginning of the input.
abbrev pub IsRefused : Side → ℕ → MeterFault → Type 0
IsRefused source limit Failed = IsBroken source limit
IsRefused source limit TooLarge = IsTooLarge source limit
IsRefused source limit NotCapture = IsWrong source limit (λ bytes. capture_file bytes ≡ None)
IsRefused source limit (LinkUnknown link) =
    IsWrong source limit (IsCaptureOf (λ file. (file.link ≡ link) × ¬ IsKnownLink link))
IsRefused source limit (Damaged at) = IsWrong source limit
    (IsCaptureOf (λ file. IsKnownLink file.link × (damage_of file ≡ Some at)))
IsRefused source limit NoMemory = TakesAtMost (limit + 1) source.before source.after

-- The source's count of faults rose where the fault is that it failed, and else stayed.
abbrev pub FaultsOf : Side → MeterFault → Type 0
FaultsOf source Failed = HasFailed source
FaultsOf source TooLarge = source.faults_after ≡ source.faults_before
FaultsOf source NotCapture = source.faults_after ≡ source.faults_before
FaultsOf source (LinkUnknown link) = source.faults_after ≡ source.faults_before
FaultsOf source (Damaged at) = source.faults_after ≡ source.faults_before
FaultsOf source NoMemory = source.faults_after ≡ source.faults_before

abbrev pub HasFaults : {T : Type 0} → Side → Result T MeterFault → Type 0
HasFaults source (Ok metered) = source.faults_after ≡ source.faults_before
HasFaults source (Err fault) = FaultsOf source fault
