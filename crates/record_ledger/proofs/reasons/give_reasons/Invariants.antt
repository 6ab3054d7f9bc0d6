-- The parts stay, and the records so far have their reasons.
use Rattle.std.proofs.Common.{◌≡◌, ℕ, ◌+◌, ◌<◌, drop, length, get_or}
use Rattle.record_ledger.specs.declared.record.FlowRecord.{FlowRecord}
use Rattle.record_ledger.specs.Lawful.{parts_of, reason_of}
use Rattle.record_ledger.specs.Steps.{next_of_key}
use Rattle.record_ledger.proofs.reasons.give_reasons.Given as goal

abbrev pub invariant-loop-place : goal.invariant-loop-place
invariant-loop-place l = record {
  long : l.place-end ≡ length l.records;
  parts : parts_of l.records ≡ parts_of l.fn.records;
  reasons : (k : ℕ) (d : FlowRecord) → k < l.place → (get_or l.records k d).reason
      ≡ reason_of l.timeouts l.clock (get_or l.records k d).part
      (next_of_key (get_or l.records k d).part (drop (k + 1) (parts_of l.records)));
}
