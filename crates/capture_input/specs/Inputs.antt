-- What reading an input in windows does.
use Rattle.std.specs.Prelude.{◌≡◌, ◌⊎◌, ℕ, ◌+◌, ◌-◌, ◌≤◌, List, [], ◌++◌, length, true, false, Some, Result, OnOk}
use Rattle.std.specs.Prelude.{IfErr}
use Rattle.std.specs.declared.option.Option.{Option}
use Rattle.std.specs.Io.KnownBytes.{Consumes, IsAtEnd}
use Rattle.meter_io.specs.Sides.{Side, HasFailed}
use Rattle.pcap_reader.specs.File.{capture_file}
use Rattle.pcap_reader.specs.Views.{headed_by}
use Rattle.pcap_reader.specs.declared.head.Head.{Head}
use Rattle.pcap_reader.specs.declared.head.CaptureError.{CaptureError}
use Rattle.pcap_reader.specs.declared.head.CaptureError.TheVariants.{NotCapture as NoHeader, LinkUnknown as OtherLink}
use Rattle.pcap_reader.specs.declared.index.IndexError.{IndexError}
use Rattle.pcap_reader.specs.declared.index.IndexError.TheVariants.{Damaged as DamagedPart, NoMemory as NoIndex}
use Rattle.capture_input.specs.declared.input.CaptureInput.{CaptureInput}
use Rattle.capture_input.specs.declared.fault.MeterFault.{MeterFault}
use Rattle.capture_input.specs.declared.fault.MeterFault.TheVariants.{Failed, TooLarge, NotCapture, LinkUnknown}
use Rattle.capture_input.specs.declared.fault.MeterFault.TheVariants.{Damaged, NoMemory}

-- A source as it was seen from an earlier call on, when it had `first` left.
abbrev pub side_from : Option (List ℕ) → Side → Side
side_from first source =
    record {
      before = first;
      after = source.after;
      faults_before = source.faults_before;
      faults_after =
          source.faults_after;
    }

-- The source's count of faults stayed.
abbrev pub IsQuiet : Side → Type 0
IsQuiet source = source.faults_after ≡ source.faults_before

-- `count` more bytes were taken, and the source is at its end or the window is full.
pub record IsMore (source : Side) (taken count : ℕ) (new : CaptureInput) : Type 0 where
  pub taken_is : new.taken ≡ taken + count
  pub within : new.taken ≤ new.limit
  pub quiet : IsQuiet source
  pub ended : new.ended ≡ true → IsAtEnd source.after
  pub full : new.ended ≡ false → length new.window.bytes ≡ new.window.size
  pub fits : length new.window.bytes ≤ new.window.size

-- Why reading ended early, when `count` bytes had come.
abbrev pub IsCut : Side → ℕ → ℕ → MeterFault → Type 0
IsCut source count limit Failed = HasFailed source × (count ≤ limit)
IsCut source count limit TooLarge = IsQuiet source × (count ≡ limit + 1)
IsCut source count limit NotCapture = ⊥
IsCut source count limit (LinkUnknown link) = ⊥
IsCut source count limit (Damaged at) = ⊥
IsCut source count limit NoMemory = ⊥

-- The window grew by what the source gave.
pub record TookMore (source : Side) (old new : CaptureInput) (result : Result (Unit {0}) MeterFault) : Type 0 where
  pub got : List ℕ
  pub given : Consumes source.before source.after got
  pub bytes : new.window.bytes ≡ old.window.bytes ++ got
  pub size : new.window.size ≡ old.window.size
  pub limit : new.limit ≡ old.limit
  pub more : OnOk result (IsMore source old.taken (length got) new)
  pub cut : IfErr result (λ fault. IsCut source (old.taken + length got) old.limit fault)

-- The first window was read, and begins with this file header.
pub record HasBegun (source : Side) (old new : CaptureInput) (head : Head) : Type 0 where
  pub given : Consumes source.before source.after new.window.bytes
  pub header : capture_file new.window.bytes ≡ Some (headed_by head new.window.bytes)
  pub long : 24 ≤ length new.window.bytes
  pub size : new.window.size ≡ old.window.size
  pub limit : new.limit ≡ old.limit
  pub more : IsMore source 0 (length new.window.bytes) new

-- The source was read to its end.
pub record IsReadOut (source : Side) (count limit : ℕ) : Type 0 where
  pub quiet : IsQuiet source
  pub ended : IsAtEnd source.after
  pub within : count ≤ limit

-- The source was read on: the answer is this fault where the source came to its end, and else why reading ended early.
pub record ReadsOn (source : Side) (input : CaptureInput) (fault result : MeterFault) : Type 0 where
  pub got : List ℕ
  pub given : Consumes source.before source.after got
  pub still : input.ended ≡ true → got ≡ []
  pub ends : ((result ≡ fault) × IsReadOut source (input.taken + length got) input.limit)
      ⊎ IsCut source (input.taken + length got) input.limit result

-- Why reading ended at a part of `count` bytes: memory was out, or the part is damaged, at a place within it.
abbrev pub EndsFor : Side → CaptureInput → ℕ → IndexError → MeterFault → Type 0
EndsFor source input count NoIndex result = (result ≡ NoMemory) × (source.after ≡ source.before) × IsQuiet source
EndsFor source input count (DamagedPart at) result = ReadsOn source input (Damaged (input.taken - count + at)) result

-- The fault for bytes that are not a capture that can be read.
abbrev pub fault_for : CaptureError → MeterFault
fault_for NoHeader = NotCapture
fault_for (OtherLink link) = LinkUnknown link
