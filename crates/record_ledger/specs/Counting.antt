-- The code's own: what one pass over pieces finds.
use Rattle.std.specs.Prelude.{◌≡◌, ℕ, List, length}
use Rattle.flow_parts.specs.Pieces.{items_of}
use Rattle.record_ledger.specs.declared.dealing.Counted.{Counted}
use Rattle.record_ledger.specs.Buckets.{AreMarked, CountsSlots, Piece, slots_for}

-- How many fragments each slot has, of slots for so many fragments, and the marks of the fragments.
pub record IsCounted (ends : List ℕ) (pieces : List Piece) (fragments : ℕ) (counted : Counted) : Type 0 where
  pub counts : CountsSlots (items_of pieces) counted.counts
  pub many : length counted.counts ≡ slots_for fragments
  pub marked : AreMarked ends pieces counted.marks.items
