-- The place lies behind the lists so far.
use Rattle.record_ledger.proofs.Listed.{IsBehind}
use Rattle.record_ledger.proofs.record_list.place_at.Given as goal

abbrev pub invariant-loop-places : goal.invariant-loop-places
invariant-loop-places l = IsBehind l.order l.number l.places-index l.left
