-- The values so far have one to sixteen octets each.
use Rattle.std.proofs.Common.{◌≤◌, ◌<◌, ℕ, length, get_or}
use Rattle.ipfix_model.specs.declared.values.FieldValue.{FieldValue}
use Rattle.trial_messages.proofs.tests.model.are_numbers.Given as goal

abbrev pub invariant-loop-at : goal.invariant-loop-at
invariant-loop-at l = (k : ℕ) (d : FieldValue) → k < l.at
    → (1 ≤ length (get_or l.values k d).value) × (length (get_or l.values k d).value ≤ 16)
