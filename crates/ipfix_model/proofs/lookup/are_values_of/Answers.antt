-- Values that are fewer or more.
use Rattle.std.proofs.Common.{sym}
use Rattle.ipfix_model.proofs.FieldValues.{are_values_of-unequal}
use Rattle.ipfix_model.proofs.lookup.are_values_of.Goals as goal

pub returns-then-values-fields : goal.returns-then-values-fields
returns-then-values-fields c =
    sym (are_values_of-unequal c.args.fields.now c.args.values.now (λ is. c.if-values-fields.true (sym is)))
