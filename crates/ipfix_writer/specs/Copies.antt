-- Copies of the records of a list, in runs and parts.
use Rattle.std.specs.Prelude.{◌≡◌, ℕ, ◌+◌, ◌*◌, ◌<◌, List, length, take, drop, flat_map, slice_index_or}
use Rattle.std.specs.declared.vec.Vec.{Vec}
use Rattle.std.specs.declared.alloc.Global.{Global}
use Rattle.record_ledger.specs.declared.record.FlowRecord.{FlowRecord}
use Rattle.ipfix_writer.specs.Layout.{together}

-- A part: runs of records.
abbrev pub Part : Type 0
Part = Vec (List FlowRecord) Global

-- The part has as many runs as each has.
abbrev pub IsWhole : Part → Type 0
IsWhole part = length part.items ≡ 256

-- The records of some parts, those of one part after the other's.
abbrev pub records_of : List Part → List FlowRecord
records_of parts = flat_map (λ (part : Part). together part.items) parts

-- The part has copies of the records from a place of a list on: of 4,096, or of those that there are.
pub record HasCopies (records : List FlowRecord) (from : ℕ) (part : Part) : Type 0 where
  pub whole : IsWhole part
  pub copies : together part.items ≡ take 4096 (drop from records)

-- The parts have copies of the records from a place of a list on, each of those behind the part before it.
abbrev pub HaveCopies : List FlowRecord → ℕ → List Part → Type 0
HaveCopies records from parts = (number : ℕ) (d : Part) → number < length parts
    → HasCopies records (from + number * 4096) (slice_index_or parts number d)
