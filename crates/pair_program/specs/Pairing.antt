-- The stream of biflows that a stream of flow records becomes.
use Rattle.std.specs.Prelude.{◌≡◌, ℕ, ◌/◌, ◌%◌, ◌^◌, max, List, [], ◌∷◌, Some, Err, IsPermutation}
use Rattle.record_ledger.specs.declared.record.FlowRecord.{FlowRecord}
use Rattle.ipfix_reader.specs.Messages.{decode}
use Rattle.ipfix_reader.specs.Flows.{flows_of}
use Rattle.ipfix_reader.specs.Others.{HasOther}
use Rattle.pair_program.specs.declared.biflow.Biflow.{Biflow}
use Rattle.pair_program.specs.declared.stream.PairError.{PairError}
use Rattle.pair_program.specs.declared.stream.PairError.TheVariants.{NotStream, NotFlows, NoMemory}
use Rattle.pair_program.specs.Pairs.{ArePairs, members}
use Rattle.pair_program.specs.BiLayout.{IsBiLayout}
use Rattle.pair_program.specs.BiFlows.{biflows_of}

-- The greatest last time of some flow records, in milliseconds; 0 where there are none.
abbrev pub greatest_last : List FlowRecord → ℕ
greatest_last [] = 0
greatest_last (flow ∷ flows) = max flow.part.last (greatest_last flows)

-- The export time: the greatest last time in whole seconds, modulo 2^32.
abbrev pub bi_export_time : List FlowRecord → ℕ
bi_export_time flows = greatest_last flows / 1000 % 2 ^ 32

-- The stream has these flow records, and each of them is the forward or the reverse one of exactly one pair. What is
-- written is the layout of these pairs, and it reads back as them.
pub record IsPaired (idle size : ℕ) (stream written : List ℕ) : Type 0 where
  pub flows : List FlowRecord
  pub read : flows_of stream ≡ Some flows
  pub pairs : List Biflow
  pub are_pairs : ArePairs idle flows pairs
  pub each_once : IsPermutation flows (members pairs)
  pub layout : IsBiLayout size (bi_export_time flows) pairs written
  pub decoded : biflows_of written ≡ Some pairs

-- Why a stream isn't paired: it has this fault; or it has no fault, and the record at this place, counted from 0, is
-- the first that isn't a flow record; or memory ran out.
abbrev pub PairingFails : List ℕ → PairError → Type 0
PairingFails stream (NotStream fault) = decode stream ≡ Err fault
PairingFails stream (NotFlows place) = HasOther place stream
PairingFails stream NoMemory = Unit {0}
