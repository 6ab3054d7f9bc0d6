-- The fragments of the pieces so far are counted and marked.
use Rattle.std.proofs.Common.{◌≡◌, length, take}
use Rattle.flow_parts.specs.Pieces.{items_of}
use Rattle.record_ledger.specs.Buckets.{AreMarked, CountsSlots, slots_for}
use Rattle.record_ledger.proofs.dealing.count_pieces.Given as goal

abbrev pub invariant-loop-piece : goal.invariant-loop-piece
invariant-loop-piece l = record {
  counted : CountsSlots (items_of (take l.piece-index l.pieces)) l.counts;
  many : length l.counts ≡ slots_for l.fragments;
  marked : AreMarked l.shares (take l.piece-index l.pieces) l.marks.items;
}
