use Rattle.std.proofs.Common.{◌≡◌, ◌+◌, sum_by, vec_len}
use Rattle.flow_parts.specs.declared.fragment.Fragment.{Fragment}
use Rattle.flow_parts.specs.Pieces.{items_of}
use Rattle.watch_program.proofs.total.total_of.Given as goal

abbrev pub invariant-loop-piece : goal.invariant-loop-piece
invariant-loop-piece l = record {
  packets : l.packets + sum_by (λ (f : Fragment). f.packets) (items_of l.pieces.items)
      ≡ sum_by (λ (f : Fragment). f.packets) l.fn.parts;
  octets : l.octets + sum_by (λ (f : Fragment). f.octets) (items_of l.pieces.items)
      ≡ sum_by (λ (f : Fragment). f.octets) l.fn.parts;
}

abbrev pub decreases-loop-piece : goal.decreases-loop-piece
decreases-loop-piece l = vec_len l.pieces
