-- The links and the first places of the records from a place on.
use Rattle.std.proofs.Common.{◌≡◌, ◌≤◌, length}
use Rattle.flow_key.specs.declared.key.FlowKey.{FlowKey}
use Rattle.pair_program.specs.Chains.{IsFirstPlace, AreLinks, place_of}
use Rattle.pair_program.proofs.pairing.link_all.Given as goal

abbrev pub invariant-loop-place : goal.invariant-loop-place
invariant-loop-place l = record {
  inside : l.place ≤ length l.records;
  count : length l.links.items ≡ length l.records;
  links : AreLinks l.records l.links.items l.place;
  heads : (key : FlowKey) → IsFirstPlace l.records l.place key (place_of l.heads key);
}

abbrev pub decreases-loop-place : goal.decreases-loop-place
decreases-loop-place l = l.place
