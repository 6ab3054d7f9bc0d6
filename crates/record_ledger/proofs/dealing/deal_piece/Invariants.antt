-- The fragments of the piece so far are dealt.
use Rattle.std.proofs.Common.{◌≡◌, ◌≤◌, ◌-◌, ◌++◌, ℕ, List, Some, length, take}
use Rattle.std.specs.Prelude.{slice_get}
use Rattle.flow_parts.specs.declared.fragment.Fragment.{Fragment}
use Rattle.record_ledger.specs.Buckets.{Piece, AreDealtTo, marks_of, share_of}
use Rattle.record_ledger.proofs.dealing.deal_piece.Given as goal

abbrev pub invariant-loop-from : goal.invariant-loop-from
invariant-loop-from l = record {
  within : l.from ≤ length l.piece;
  dealt : (ends : List ℕ) (pieces : List Piece) (p : Piece) (before : List Fragment)
      → l.marks ≡ marks_of ends l.piece → slice_get pieces l.number ≡ Some p → p.items ≡ l.piece
      → AreDealtTo l.counts pieces (share_of ends l.share before) l.initial.dealing
      → AreDealtTo l.counts pieces (share_of ends l.share (before ++ take l.from l.piece)) l.dealing;
}

abbrev pub decreases-loop-from : goal.decreases-loop-from
decreases-loop-from l = length l.piece - l.from
