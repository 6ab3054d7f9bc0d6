-- The part and the stack have become the fragment and what is left of the stack.
use Rattle.std.proofs.Common.{◌≡◌, ◌≤◌, ◌∷◌, List, reverse, take, length}
use Rattle.flow_parts.specs.declared.fragment.Fragment.{Fragment}
use Rattle.record_ledger.specs.Gathered.{ComesTo}
use Rattle.record_ledger.specs.Lawful.{parts_of}
use Rattle.flow_parts.specs.Reaching.{Reaches}
use Rattle.record_ledger.proofs.joining.settle.Given as goal

abbrev pub invariant-loop-top : goal.invariant-loop-top
invariant-loop-top l = record {
  few : l.left ≤ length l.stack;
  reached : Reaches l.timeouts (l.fn.part ∷ parts_of l.stack) (l.whole ∷ take l.left (parts_of l.stack));
  key : l.whole.key ≡ l.fn.part.key;
  last : l.whole.last ≡ l.fn.part.last;
  comes : (after : List Fragment) → ComesTo l.timeouts (reverse (take l.left (parts_of l.stack))) l.whole after
      → ComesTo l.timeouts (reverse (parts_of l.stack)) l.fn.part after;
}

abbrev pub decreases-loop-top : goal.decreases-loop-top
decreases-loop-top l = l.left
