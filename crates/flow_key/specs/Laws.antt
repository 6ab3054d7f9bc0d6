-- Laws about keys.
use Rattle.std.specs.Prelude.{◌≡◌, Option, Some, None}
use Rattle.std.specs.Cmp.{IsTotalOrder}
use Rattle.std.specs.declared.cmp.Ordering.TheVariants.{Equal}
use Rattle.flow_key.specs.declared.key.FlowKey.{FlowKey}
use Rattle.flow_key.specs.Key.{words_of, key_order}
use Rattle.flow_key.specs.Fields.{KeyFields, fields_of, AreFit, IsKeyOf}
use Rattle.flow_key.specs.KeyWith.{key_with}

-- The order of keys is total.
abbrev pub OrdersTotally : Type 0
OrdersTotally = IsTotalOrder key_order

-- A key ties with itself alone.
abbrev pub TiesOnlyItself : Type 0
TiesOnlyItself = (one other : FlowKey) → key_order one other ≡ Equal → one ≡ other

-- Two keys with the same words are one key.
abbrev pub WordsTell : Type 0
WordsTell = (one other : FlowKey) → words_of one ≡ words_of other → one ≡ other

-- Two keys with the same fields are one key.
abbrev pub FieldsTell : Type 0
FieldsTell = (one other : FlowKey) → fields_of one ≡ fields_of other → one ≡ other

-- The fields of a key fit.
abbrev pub KeysFit : Type 0
KeysFit = (key : FlowKey) → AreFit (fields_of key)

-- Six numbers have one answer, a key or none, and `key_with` gives it.
abbrev pub AnswersOnce : Type 0
AnswersOnce = (fields : KeyFields) → IsKeyOf fields (key_with fields)
    × ((answer : Option FlowKey) → IsKeyOf fields answer → answer ≡ key_with fields)

-- So a key is the key with its fields.
abbrev pub KeyOfItsFields : Type 0
KeyOfItsFields = (key : FlowKey) → key_with (fields_of key) ≡ Some key

-- And where six numbers don't fit there is none.
abbrev pub NoneWhereUnfit : Type 0
NoneWhereUnfit = (fields : KeyFields) → ¬ AreFit fields → key_with fields ≡ None
