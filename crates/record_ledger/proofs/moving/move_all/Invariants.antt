-- The fragments of the pieces that are left, and those of the records, are all of them.
use Rattle.std.proofs.Common.{◌≤◌, ◌++◌, length, vec_len, IsPermutation}
use Rattle.flow_parts.specs.Pieces.{items_of}
use Rattle.record_ledger.specs.Lawful.{parts_of}
use Rattle.record_ledger.specs.Buckets.{records_of, AreByKey}
use Rattle.record_ledger.proofs.moving.move_all.Given as goal

abbrev pub invariant-loop-piece : goal.invariant-loop-piece
invariant-loop-piece l = record {
  some : 1 ≤ length l.buckets.items;
  whole : IsPermutation (items_of l.fn.pieces.items) (items_of l.pieces.items ++ parts_of (records_of l.buckets.items));
  by_key : AreByKey l.buckets.items;
}

abbrev pub decreases-loop-piece : goal.decreases-loop-piece
decreases-loop-piece l = vec_len l.pieces
