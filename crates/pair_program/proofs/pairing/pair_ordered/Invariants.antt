-- What is left gives what all of the records give.
use Rattle.std.proofs.Common.{◌≤◌, ◌-◌, ◌++◌, List, length, drop}
use Rattle.pair_program.specs.declared.biflow.Biflow.{Biflow}
use Rattle.pair_program.specs.Pairs.{ArePaired}
use Rattle.pair_program.specs.Chains.{ArePlaces, untaken_records, place_of}
use Rattle.pair_program.proofs.pairing.pair_ordered.Given as goal

abbrev pub invariant-loop-place : goal.invariant-loop-place
invariant-loop-place l = record {
  within : l.place ≤ length l.records;
  places : ArePlaces l.records l.place (place_of l.heads);
  goes_on : (rest : List Biflow)
      → ArePaired l.idle (untaken_records (place_of l.heads) l.place (drop l.place l.records)) rest
      → ArePaired l.idle l.records (l.pairs.items ++ rest);
}

abbrev pub decreases-loop-place : goal.decreases-loop-place
decreases-loop-place l = length l.records - l.place
