-- So many lists, all of them empty.
use Rattle.std.proofs.Common.{◌≡◌, [], length}
use Rattle.record_ledger.specs.Buckets.{SharedFrom, places_of}
use Rattle.record_ledger.proofs.dealing.no_places.Given as goal

abbrev pub invariant-loop-made : goal.invariant-loop-made
invariant-loop-made l = record {
  many : length l.lists.items ≡ l._made;
  shared : SharedFrom l.shares 0 l.lists.items;
  none : places_of l.lists.items ≡ [];
}
