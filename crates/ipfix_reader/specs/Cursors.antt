-- The code's own: what its walk over the bytes keeps, as the definitions of reading speak of it.
use Rattle.std.specs.Prelude.{◌≡◌, true, false, OnOk, IfErr, Result}
use Rattle.std.specs.Global.{Vec}
use Rattle.ipfix_model.specs.declared.values.FieldValue.{FieldValue}
use Rattle.ipfix_reader.specs.declared.fault.StreamFault.TheVariants.{BadPadding}
use Rattle.ipfix_reader.specs.declared.fault.StreamError.{StreamError}
use Rattle.ipfix_reader.specs.declared.fault.StreamError.TheVariants.{Fault}
use Rattle.ipfix_reader.specs.declared.cursor.Cursor.{Cursor}
use Rattle.ipfix_reader.specs.Part.{Part, are_zeros}
use Rattle.ipfix_reader.specs.Values.{Values}
use Rattle.ipfix_reader.specs.Specifiers.{Fields}
use Rattle.ipfix_model.specs.declared.fields.FieldSpec.{FieldSpec}
use Rattle.ipfix_model.specs.declared.templates.Template.{Template}

abbrev pub part_of : Cursor → Part
part_of cursor = record { at = cursor.at; bytes = cursor.bytes.now }

abbrev pub values_shown : Vec FieldValue × Cursor → Values
values_shown read = record { values = (read.0).items; rest = part_of read.1 }

abbrev pub fields_shown : Vec FieldSpec × Cursor → Fields
fields_shown read = record { fields = (read.0).items; rest = part_of read.1 }

abbrev pub template_shown : Template × Cursor → Fields
template_shown read = record { fields = (read.0).fields; rest = part_of read.1 }

-- What the check of the padding says.
pub record IsPaddingChecked (part : Part) (result : Result (Unit {0}) StreamError) : Type 0 where
  pub ok : OnOk result (are_zeros part.bytes ≡ true)
  pub fault : IfErr result (λ (error : StreamError). (are_zeros part.bytes ≡ false)
      × (error ≡ Fault (BadPadding part.at)))
