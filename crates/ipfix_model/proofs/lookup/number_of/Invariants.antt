-- The first value of the element is among those that are left.
use Rattle.std.proofs.Common.{◌≡◌, drop}
use Rattle.ipfix_model.specs.Values.{number_of}
use Rattle.ipfix_model.proofs.lookup.number_of.Given as goal

abbrev pub invariant-loop-value : goal.invariant-loop-value
invariant-loop-value l = number_of l.enterprise l.element (drop l.value-index l.values)
    ≡ number_of l.enterprise l.element l.values
