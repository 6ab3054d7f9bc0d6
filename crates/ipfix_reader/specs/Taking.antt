-- The code's own: what was taken of a part of a stream, as the definitions of reading speak of it.
use Rattle.std.specs.Prelude.{◌≡◌, ◌+◌, ℕ, Bool, true, false, List, ◌∷◌, ◌++◌, length, Some, None, Result}
use Rattle.record_ledger.specs.declared.record.FlowRecord.{FlowRecord}
use Rattle.ipfix_model.specs.declared.values.DataRecord.{DataRecord}
use Rattle.ipfix_reader.specs.declared.fault.StreamFault.{StreamFault}
use Rattle.ipfix_reader.specs.Known.{Templates, Sequences}
use Rattle.ipfix_reader.specs.Sets.{Contents}
use Rattle.ipfix_reader.specs.Messages.{Progress}
use Rattle.ipfix_reader.specs.Flows.{flow, flows_in}

abbrev pub contents_of : Templates → List DataRecord → Contents
contents_of table records = record { templates = table; records = records }

abbrev pub progress_of : Templates → List DataRecord → Sequences → Progress
progress_of table records sequences = record { contents = contents_of table records; sequences = sequences }

-- So many records were taken behind those before, and a reading gives what is told of all of them.
pub record IsTaken {S : Type 0} (has : List DataRecord → Type 0) (before : List DataRecord) (count : ℕ)
    (reading : Result S StreamFault) (gives : List DataRecord → Result S StreamFault) : Type 0 where
  pub after : List DataRecord
  pub taken : has after
  pub counted : length after ≡ length before + count
  pub reads : reading ≡ gives after

-- Records of which the first ones are these flow records, and the one behind them, where there is another, is none.
pub record HasBegun (records : List DataRecord) (flows : List FlowRecord) : Type 0 where
  pub front : List DataRecord
  pub one : DataRecord
  pub behind : List DataRecord
  pub whole : records ≡ front ++ one ∷ behind
  pub flows_are : flows_in front ≡ Some flows
  pub other : flow one ≡ None

-- These are the flow records that records are, up to the first other one, where there is one.
abbrev pub HasFlows : List FlowRecord → Bool → List DataRecord → Type 0
HasFlows flows false records = flows_in records ≡ Some flows
HasFlows flows true records = HasBegun records flows
