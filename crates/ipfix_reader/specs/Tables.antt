-- The code's own: its table of templates, as the definitions of reading speak of it.
use Rattle.std.specs.Prelude.{ℕ, List, map}
use Rattle.ipfix_model.specs.declared.fields.FieldSpec.{FieldSpec}
use Rattle.ipfix_reader.specs.declared.known.Known.{Known}
use Rattle.ipfix_reader.specs.Known.{Templates}

-- an entry without all but the fields of its template
abbrev pub entry_shown : (ℕ × ℕ) × Known → (ℕ × ℕ) × List FieldSpec
entry_shown entry = (entry.0, (entry.1).template.fields)

abbrev pub templates_shown : List ((ℕ × ℕ) × Known) → Templates
templates_shown entries = map entry_shown entries
