-- The runs so far are copied.
use Rattle.std.proofs.Common.{◌≡◌, ℕ, ◌+◌, ◌*◌, ◌<◌, List, length, take, drop, get_or}
use Rattle.record_ledger.specs.declared.record.FlowRecord.{FlowRecord}
use Rattle.ipfix_writer.proofs.rounds.copy_part.Given as goal

abbrev pub invariant-loop-number : goal.invariant-loop-number
invariant-loop-number l = record {
  many : length l.part.items ≡ 256;
  copied : (k : ℕ) (d : List FlowRecord) → k < l.number
      → get_or l.part.items k d ≡ take 16 (drop (l.from + k * 16) l.records);
}
