-- The stack at the front and the records that are left.
use Rattle.std.proofs.Common.{◌≡◌, length}
use Rattle.record_ledger.specs.Lawful.{parts_of}
use Rattle.record_ledger.proofs.Stacking.{IsStacked}
use Rattle.record_ledger.proofs.joining.join_neighbours.Given as goal

abbrev pub invariant-loop-place : goal.invariant-loop-place
invariant-loop-place l = record {
  long : l.place-end ≡ length l.records.items;
  stacked : IsStacked l.timeouts (parts_of l.fn.records.items) l.records.items l.apart l.place;
}
