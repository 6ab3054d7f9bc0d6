-- The shares so far are dealt, and the dealings of the others are left.
use Rattle.std.proofs.Common.{◌≡◌, ℕ, ◌<◌, ◌++◌, List, length, get_or, Result, IfOk}
use Rattle.std.specs.Vec.Iter.{into_iter_items}
use Rattle.no_memory.specs.declared.NoMemory.{NoMemory}
use Rattle.flow_parts.specs.Pieces.{items_of}
use Rattle.record_ledger.specs.declared.dealing.Dealing.{Dealing}
use Rattle.record_ledger.specs.Buckets.{AreDealings, AreDealtTo, Piece, share_of}
use Rattle.record_ledger.proofs.dealing.parted.Given as goal

abbrev pub invariant-loop-dealing : goal.invariant-loop-dealing
invariant-loop-dealing l = record {
  left : l.fn.dealings.items ≡ l.yielded ++ into_iter_items l.dealing-iterator;
  dealt : (counts ends : List ℕ) (pieces : List Piece)
      → ((share : ℕ) (d : Result Dealing NoMemory) → share < length l.fn.dealings.items
      → IfOk (get_or l.fn.dealings.items share d) (AreDealtTo counts pieces (share_of ends share (items_of pieces))))
      → AreDealings counts ends pieces (length l.yielded) l.alone.items l.moved.items;
}
