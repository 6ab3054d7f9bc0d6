-- The places of the lists so far are counted, as far as 64 bits count.
use Rattle.std.proofs.Common.{◌≡◌, ◌-◌, ◌^◌, length, take, min}
use Rattle.record_ledger.specs.Buckets.{places_of}
use Rattle.record_ledger.proofs.record_list.count_of.Given as goal

abbrev pub invariant-loop-places : goal.invariant-loop-places
invariant-loop-places l = l.count ≡ min (length (places_of (take l.places-index l.order))) (2 ^ 64 - 1)
