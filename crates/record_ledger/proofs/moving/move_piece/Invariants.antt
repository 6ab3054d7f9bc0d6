-- The fragments that are left in the piece, and those that are moved, are all of them.
use Rattle.std.proofs.Common.{◌≡◌, ◌++◌, length, vec_len, IsPermutation}
use Rattle.record_ledger.specs.Lawful.{parts_of}
use Rattle.record_ledger.specs.Buckets.{records_of, AreByKey}
use Rattle.record_ledger.proofs.moving.move_piece.Given as goal

abbrev pub invariant-loop-piece : goal.invariant-loop-piece
invariant-loop-piece l = record {
  many : length l.buckets ≡ length l.fn.buckets;
  whole : IsPermutation (l.fn.piece.items ++ parts_of (records_of l.fn.buckets))
      (l.piece.items ++ parts_of (records_of l.buckets));
  by_key : AreByKey l.fn.buckets → AreByKey l.buckets;
}

abbrev pub decreases-loop-piece : goal.decreases-loop-piece
decreases-loop-piece l = vec_len l.piece
