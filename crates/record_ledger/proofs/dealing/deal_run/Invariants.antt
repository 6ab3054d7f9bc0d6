-- The fragments of the run so far are dealt.
use Rattle.std.proofs.Common.{◌≡◌, ◌≤◌, ◌++◌, ℕ, List, Some, take}
use Rattle.std.specs.Prelude.{slice_get}
use Rattle.flow_parts.specs.declared.fragment.Fragment.{Fragment}
use Rattle.record_ledger.specs.Buckets.{Piece, AreDealtTo, marks_of, share_of}
use Rattle.record_ledger.proofs.dealing.deal_run.Given as goal

abbrev pub invariant-loop-at : goal.invariant-loop-at
invariant-loop-at l = record {
  low : l.from ≤ l.at;
  high : l.at ≤ l.end;
  dealt : (ends : List ℕ) (pieces : List Piece) (p : Piece) (before : List Fragment)
      → l.marks ≡ marks_of ends l.piece → slice_get pieces l.number ≡ Some p → p.items ≡ l.piece
      → AreDealtTo l.counts pieces (share_of ends l.share (before ++ take l.from l.piece)) l.initial.dealing
      → AreDealtTo l.counts pieces (share_of ends l.share (before ++ take l.at l.piece)) l.dealing;
}
