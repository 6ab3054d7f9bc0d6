-- The sums so far, which fit.
use Rattle.std.proofs.Common.{◌≡◌, ◌<◌, ◌^◌, sum_by, take}
use Rattle.flow_parts.specs.declared.fragment.Fragment.{Fragment}
use Rattle.trial_flows.proofs.parts.are_few.Given as goal

abbrev pub invariant-loop-part : goal.invariant-loop-part
invariant-loop-part l = record {
  packets : l.packets ≡ sum_by (λ (f : Fragment). f.packets) (take l.part-index l.parts);
  octets : l.octets ≡ sum_by (λ (f : Fragment). f.octets) (take l.part-index l.parts);
  packets_fit : l.packets < 2 ^ 64;
  octets_fit : l.octets < 2 ^ 64;
}
