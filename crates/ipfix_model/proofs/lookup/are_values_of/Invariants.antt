-- The values that are left are those of the fields that are left where all of them are.
use Rattle.std.proofs.Common.{◌≡◌, drop}
use Rattle.ipfix_model.specs.Values.{are_values_of}
use Rattle.ipfix_model.proofs.lookup.are_values_of.Given as goal

abbrev pub invariant-loop-i : goal.invariant-loop-i
invariant-loop-i l = are_values_of (drop l.i l.fields) (drop l.i l.values) ≡ are_values_of l.fields l.values
