-- The biflows of flow records. The choice of mates and of direction is this program's own.
use Rattle.std.specs.Prelude.{◌≡◌, ℕ, List, [], ◌∷◌, ◌++◌, Option, Some, None, if◌then◌else◌, IsPermutation, IsSorted}
use Rattle.std.specs.List.Sorted.{IsStable}
use Rattle.std.specs.Ordering.{nat_cmp, ordering_then}
use Rattle.std.specs.declared.cmp.Ordering.{Ordering}
use Rattle.flow_key.specs.Key.{key_order}
use Rattle.record_ledger.specs.declared.record.FlowRecord.{FlowRecord}
use Rattle.pair_program.specs.declared.biflow.Biflow.{Biflow}
use Rattle.pair_program.specs.Mates.{are_mates}

-- The order of records by their first time, then last time, then key.
abbrev pub by_start : FlowRecord → FlowRecord → Ordering
by_start one other =
    ordering_then (nat_cmp one.part.first other.part.first)
    (ordering_then (nat_cmp one.part.last other.part.last) (key_order one.part.key other.part.key))

-- The first mate of a record among others.
abbrev pub first_mate : ℕ → FlowRecord → List FlowRecord → Option FlowRecord
first_mate idle forward [] = None
first_mate idle forward (other ∷ others) =
    if are_mates idle forward other then Some other else first_mate idle forward others

-- The others without that mate.
abbrev pub without_mate : ℕ → FlowRecord → List FlowRecord → List FlowRecord
without_mate idle forward [] = []
without_mate idle forward (other ∷ others) =
    if are_mates idle forward other then others else other ∷ without_mate idle forward others

-- The first of some records is a forward record. Its reverse is the first of the others that is its mate, or none. Both
-- are taken out, and the rest is left.
pub record IsFirstPair (idle : ℕ) (records : List FlowRecord) (pair : Biflow) (rest : List FlowRecord) : Type 0 where
  pub others : List FlowRecord
  pub forward : records ≡ pair.forward ∷ others
  pub reverse : pair.reverse ≡ first_mate idle pair.forward others
  pub left : rest ≡ without_mate idle pair.forward others

-- The first pair is taken out of the records, then the first pair of the rest, and so on until no record is left.
abbrev pub ArePaired : ℕ → List FlowRecord → List Biflow → Type 0
ArePaired idle records [] = records ≡ []
ArePaired idle records (pair ∷ pairs) = (rest : List FlowRecord) × IsFirstPair idle records pair rest
    × ArePaired idle rest pairs

-- The pairs of some records: those of the records in the order of first time, last time and key, where ties keep their
-- order.
pub record ArePairs (idle : ℕ) (records : List FlowRecord) (pairs : List Biflow) : Type 0 where
  pub ordered : List FlowRecord
  pub permutation : IsPermutation records ordered
  pub sorted : IsSorted by_start ordered
  pub stable : IsStable by_start records ordered
  pub paired : ArePaired idle ordered pairs

-- The records of a pair, and of pairs in their order: each forward record, and behind it its reverse.
abbrev pub records_of : FlowRecord → Option FlowRecord → List FlowRecord
records_of forward None = forward ∷ []
records_of forward (Some reverse) = forward ∷ (reverse ∷ [])

abbrev pub members : List Biflow → List FlowRecord
members [] = []
members (pair ∷ pairs) = records_of pair.forward pair.reverse ++ members pairs
