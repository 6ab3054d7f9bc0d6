-- The copies so far are the places.
use Rattle.std.proofs.Common.{◌≡◌, ℕ, ◌+◌, ◌<◌, get_or}
use Rattle.record_ledger.specs.declared.place.Place.{Place}
use Rattle.record_ledger.specs.Buckets.{places_of}
use Rattle.record_ledger.proofs.record_list.copy_each_place.Given as goal

abbrev pub invariant-loop-at : goal.invariant-loop-at
invariant-loop-at l = (k : ℕ) (d : Place) → k < l.at
    → get_or l.copies k d ≡ get_or (places_of l.order) (l.number + k) d
