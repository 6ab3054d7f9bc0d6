-- The copies so far have the fragments of the records.
use Rattle.std.proofs.Common.{◌≡◌, ℕ, ◌<◌, Some, get_or, option_map}
use Rattle.record_ledger.specs.declared.record.FlowRecord.{FlowRecord}
use Rattle.record_ledger.specs.declared.place.Place.{Place}
use Rattle.record_ledger.specs.Buckets.{record_at}
use Rattle.record_ledger.proofs.record_list.copy_parts.Given as goal

abbrev pub invariant-loop-at : goal.invariant-loop-at
invariant-loop-at l = (k : ℕ) (d : FlowRecord) → k < l.at → (p : Place)
    → option_map (λ (r : FlowRecord). r.part) (record_at l.store (get_or l.places k p)) ≡ Some (get_or l.run k d).part
