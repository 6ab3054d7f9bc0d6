-- The flow record by the template whose fields the values have.
use Rattle.std.proofs.Common.{refl, sym, ◌∙◌}
use Rattle.ipfix_model.specs.Templates.{v4_fields, v6_fields}
use Rattle.ipfix_model.proofs.FieldValues.{are_numbers}
use Rattle.ipfix_reader.proofs.FlowFields.{flow-v4, flow-v6}
use Rattle.ipfix_reader.proofs.flow.flow_of.Goals as goal

pub numbers_in-numbers-requires : goal.numbers_in-numbers-requires
numbers_in-numbers-requires c = are_numbers v4_fields c.items-values.result.now refl
    (sym c.are_values_of.ensures ∙ c.if-are_values_of.true)

pub returns-then-are_values_of : goal.returns-then-are_values_of
returns-then-are_values_of c =
    flow-v4 c.args.rec.now c.items-values.result.now _ c.flow_with.result c.items-values.ensures
    (sym c.are_values_of.ensures ∙ c.if-are_values_of.true) (c.numbers_in-numbers.ensures 4) c.flow_with.ensures

pub numbers_in-numbers-requires-then-are_values_of-2 : goal.numbers_in-numbers-requires-then-are_values_of-2
numbers_in-numbers-requires-then-are_values_of-2 c =
    are_numbers v6_fields c.items-values.result.now refl (sym c.are_values_of-2.ensures ∙ c.if-are_values_of-2.true)

pub returns-then-are_values_of-2 : goal.returns-then-are_values_of-2
returns-then-are_values_of-2 c =
    flow-v6 c.args.rec.now c.items-values.result.now _ c.flow_with-then-are_values_of-2.result c.items-values.ensures
    (sym c.are_values_of.ensures ∙ c.if-are_values_of.false) (sym c.are_values_of-2.ensures ∙ c.if-are_values_of-2.true)
    (c.numbers_in-numbers-then-are_values_of-2.ensures 6) c.flow_with-then-are_values_of-2.ensures
