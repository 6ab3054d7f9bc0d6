-- The pieces so far are dealt.
use Rattle.std.proofs.Common.{ℕ, List, take}
use Rattle.flow_parts.specs.Pieces.{items_of}
use Rattle.record_ledger.specs.Buckets.{AreDealtTo, AreMarked, share_of}
use Rattle.record_ledger.proofs.dealing.deal_share.Given as goal

abbrev pub invariant-loop-number : goal.invariant-loop-number
invariant-loop-number l = record {
  dealt : (ends : List ℕ) → AreMarked ends l.pieces l.counted.marks.items
      → AreDealtTo l.counted.counts l.pieces (share_of ends l.share (items_of (take l.number l.pieces))) l.dealing;
}
