-- Data records that aren't flow records.
use Rattle.std.specs.Prelude.{◌≡◌, ◌≢◌, ℕ, ◌<◌, List, length, None, Ok, Err, ⊤, slice_index_or}
use Rattle.ipfix_model.specs.declared.values.DataRecord.{DataRecord}
use Rattle.ipfix_reader.specs.declared.flows.FlowsError.{FlowsError}
use Rattle.ipfix_reader.specs.declared.flows.FlowsError.TheVariants.{NotStream, NotFlows, NoMemory}
use Rattle.ipfix_reader.specs.Messages.{decode}
use Rattle.ipfix_reader.specs.Flows.{flow}

-- The record at this place is the first that isn't a flow record.
pub record IsFirstOther (records : List DataRecord) (place : ℕ) : Type 0 where
  pub inside : place < length records
  pub other : (d : DataRecord) → flow (slice_index_or records place d) ≡ None
  pub before : (k : ℕ) (d : DataRecord) → k < place → flow (slice_index_or records k d) ≢ None

-- The bytes are a stream whose record at this place is the first that isn't a flow record.
abbrev pub HasOther : ℕ → List ℕ → Type 0
HasOther place bytes = (records : List DataRecord) × (decode bytes ≡ Ok records) × IsFirstOther records place

-- Why bytes aren't a stream of flow records: they have this fault; or they have none, and the record at this place is
-- the first that isn't a flow record; or memory is out.
abbrev pub FlowsFail : List ℕ → FlowsError → Type 0
FlowsFail bytes (NotStream fault) = decode bytes ≡ Err fault
FlowsFail bytes (NotFlows place) = HasOther place bytes
FlowsFail bytes NoMemory = ⊤
