use Rattle.flow_key.specs.KeyWith.{key_with}
use Rattle.flow_key.proofs.KeyFields.{same_fields, fields_fit, key_with-is, one_answer, key_with-key, key_with-none}
use Rattle.flow_key.proofs.laws.keys_have_fields.Goals as goal

pub returns-clause-tell : goal.returns-clause-tell
returns-clause-tell c = same_fields

pub returns-clause-fit : goal.returns-clause-fit
returns-clause-fit c = fields_fit

pub returns-clause-once : goal.returns-clause-once
returns-clause-once c =
    λ fields. (key_with-is fields, λ answer is. one_answer fields answer (key_with fields) is (key_with-is fields))

pub returns-clause-key : goal.returns-clause-key
returns-clause-key c = key_with-key

pub returns-clause-none : goal.returns-clause-none
returns-clause-none c = key_with-none
