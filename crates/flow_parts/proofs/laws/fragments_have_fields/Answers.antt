use Rattle.flow_parts.specs.PartWith.{part_with}
use Rattle.flow_parts.proofs.PartFields.{same_part_fields, part_fields_fit, part_with-is, one_part, part_with-part}
use Rattle.flow_parts.proofs.PartFields.{part_with-none}
use Rattle.flow_parts.proofs.laws.fragments_have_fields.Goals as goal

pub returns-clause-tell : goal.returns-clause-tell
returns-clause-tell c = same_part_fields

pub returns-clause-fit : goal.returns-clause-fit
returns-clause-fit c = part_fields_fit

pub returns-clause-once : goal.returns-clause-once
returns-clause-once c =
    λ fields. (part_with-is fields, λ answer is. one_part fields answer (part_with fields) is (part_with-is fields))

pub returns-clause-part : goal.returns-clause-part
returns-clause-part c = part_with-part

pub returns-clause-none : goal.returns-clause-none
returns-clause-none c = part_with-none
