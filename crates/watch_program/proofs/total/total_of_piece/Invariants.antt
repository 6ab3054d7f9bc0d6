use Rattle.std.proofs.Common.{◌≡◌, sum_by, take}
use Rattle.flow_parts.specs.declared.fragment.Fragment.{Fragment}
use Rattle.watch_program.proofs.total.total_of_piece.Given as goal

abbrev pub invariant-loop-part : goal.invariant-loop-part
invariant-loop-part l = record {
  packets : l.packets ≡ sum_by (λ (f : Fragment). f.packets) (take l.part-index l.parts);
  octets : l.octets ≡ sum_by (λ (f : Fragment). f.octets) (take l.part-index l.parts);
}
