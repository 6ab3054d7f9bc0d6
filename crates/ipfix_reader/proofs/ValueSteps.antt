-- The values of a record, one field at a time.
use Rattle.std.proofs.Common.{◌≡◌, false, List, [], ◌∷◌, ◌++◌, length, refl, nat_lt}
use Rattle.ipfix_model.specs.declared.fields.FieldSpec.{FieldSpec}
use Rattle.ipfix_model.specs.declared.values.FieldValue.{FieldValue}
use Rattle.ipfix_reader.specs.declared.fault.StreamFault.{StreamFault}
use Rattle.ipfix_reader.specs.Part.{Part, behind}
use Rattle.ipfix_reader.specs.Values.{coded_length, value_of, values_of}

-- a field whose value fits, and the fields behind it
pub values_of-next : (beyond : StreamFault) (fields : List FieldSpec) (field : FieldSpec) (before : List FieldValue)
    (part : Part)
    → nat_lt (length part.bytes) (coded_length field part.bytes) ≡ false
    → values_of beyond (field ∷ fields) before part
    ≡ values_of beyond fields (before ++ value_of field part.bytes ∷ []) (behind (coded_length field part.bytes) part)
values_of-next beyond fields field before part fits = rw fits refl
