-- The copies so far are the records, and all have the fragments of these.
use Rattle.std.proofs.Common.{◌≡◌, ℕ, ◌<◌, Some, length, get_or, option_map}
use Rattle.record_ledger.specs.declared.record.FlowRecord.{FlowRecord}
use Rattle.record_ledger.specs.declared.place.Place.{Place}
use Rattle.record_ledger.specs.Buckets.{record_at}
use Rattle.record_ledger.proofs.record_list.give_reasons.Given as goal

abbrev pub invariant-loop-at : goal.invariant-loop-at
invariant-loop-at l = record {
  parts : (k : ℕ) (d : FlowRecord) → k < length l.run → (p : Place)
      → option_map (λ (r : FlowRecord). r.part) (record_at l.store (get_or l.places k p)) ≡ Some (get_or l.run k d).part;
  records : (k : ℕ) (d : FlowRecord) → k < l.at → (p : Place)
      → record_at l.store (get_or l.places k p) ≡ Some (get_or l.run k d);
}
