-- The fragments so far are counted and marked.
use Rattle.std.proofs.Common.{◌≡◌, ◌++◌, List, length, take}
use Rattle.flow_parts.specs.declared.fragment.Fragment.{Fragment}
use Rattle.record_ledger.specs.Buckets.{CountsSlots, marks_of}
use Rattle.record_ledger.proofs.dealing.count_piece.Given as goal

abbrev pub invariant-loop-part : goal.invariant-loop-part
invariant-loop-part l = record {
  counted : (before : List Fragment) → CountsSlots before l.fn.counts
      → CountsSlots (before ++ take l.part-index l.piece) l.counts;
  many : length l.counts ≡ length l.fn.counts;
  marked : l.marks.items ≡ marks_of l.shares (take l.part-index l.piece);
}
