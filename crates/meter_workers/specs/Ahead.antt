-- What reading a part while the one before it is metered means; `the` is what the type of the cache means.
use Rattle.std.specs.Prelude.{◌≡◌, ℕ, ◌+◌, ◌<◌, ◌^◌, List, ◌++◌, length, Some, None, Result, IfOk, IfErr}
use Rattle.std.specs.declared.option.Option.{Option}
use Rattle.meter_io.specs.Sides.{Side}
use Rattle.pcap_reader.specs.Index.{IsIndexOf}
use Rattle.pcap_reader.specs.declared.index.RecordIndex.{RecordIndex}
use Rattle.cache_face.specs.declared.caches.FlowCache.{Ghosts}
use Rattle.capture_input.specs.declared.fault.MeterFault.{MeterFault}
use Rattle.capture_input.specs.declared.reading.Reading.{Reading}
use Rattle.capture_input.specs.Refusals.{IsRefused, HasFaults}
use Rattle.capture_input.specs.Inputs.{side_from}
use Rattle.capture_input.specs.Parts.{Answer, answers_from}
use Rattle.capture_input.specs.Giving.{HasGiven, IsLast, part_in, base_in, size_in, left_in}
use Rattle.work_pieces.specs.Doing.{HaveDone}
use Rattle.meter_workers.specs.declared.ahead.Standing.{Standing}
use Rattle.meter_workers.specs.Shares.{IsShareOf}

-- ---- reading on

-- The part that was read last isn't the last one, and the source has this left.
pub record IsToReadOn (left : Option (List ℕ)) (was : Reading) : Type 0 where
  pub more : ¬ IsLast was
  pub given : (before : Option (List ℕ)) × (limit : ℕ) × (answers : List Answer) × HasGiven before left limit was answers

-- The part behind the one that was read last was read, or refused.
pub record HasReadOn (source : Side) (was : Reading) (result : Result (Reading × RecordIndex) MeterFault) : Type 0 where
  pub part : IfOk result (λ r. IsIndexOf r.1 (part_in r.0))
  pub few : IfOk result (λ r. base_in r.0 + length r.1.offsets < 2 ^ 32)
  pub same : IfOk result (λ r. size_in r.0 ≡ size_in was)
  pub less : IfOk result (λ r. left_in r.0 < left_in was)
  pub given : (before : Option (List ℕ)) (limit : ℕ) (answers : List Answer)
      → HasGiven before source.before limit was answers
      → IfOk result (λ r. (base_in r.0 ≡ length answers) × HasGiven before source.after limit r.0
      (answers ++ answers_from (base_in r.0) (part_in r.0)))
  pub refused : (before : Option (List ℕ)) (limit : ℕ) (answers : List Answer)
      → HasGiven before source.before limit was answers
      → IfErr result (λ fault. IsRefused (side_from before source) limit fault)
  pub faults : HasFaults source result

-- The same of what is there to read on from, where there is something.
abbrev pub CanReadOn : Option (List ℕ) → Option (Reading × RecordIndex) → Type 0
CanReadOn left None = ⊥
CanReadOn left (Some was) = IsToReadOn left was.0

abbrev pub HasReadFrom : Side → Option (Reading × RecordIndex) → Result (Reading × RecordIndex) MeterFault → Type 0
HasReadFrom source None result = ⊥
HasReadFrom source (Some was) result = HasReadOn source was.0 result

-- ---- between two parts

-- The source gave a beginning of a capture in windows of `size` bytes; `before` is what it had left at first. The
-- shares have metered the answers to all records that stand before the part that was read last.
pub record IsUnderWay {X P : Type 0} (the : Ghosts X P) (cache : X) (before left : Option (List ℕ)) (limit size : ℕ)
    (standing : Standing X P) : Type 0 where
  pub part : IsIndexOf standing.index (part_in standing.reading)
  pub few : base_in standing.reading + length standing.index.offsets < 2 ^ 32
  pub size_is : size_in standing.reading ≡ size
  pub spare : length standing.spare.bytes.items ≡ size
  pub answers : List Answer
  pub base : base_in standing.reading ≡ length answers
  pub given : HasGiven before left limit standing.reading
      (answers ++ answers_from (base_in standing.reading) (part_in standing.reading))
  pub done : HaveDone (IsShareOf the cache) answers standing.shares.items
