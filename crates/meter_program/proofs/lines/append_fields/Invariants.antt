use Rattle.std.proofs.Common.{◌≡◌, ◌++◌, flat_map, drop}
use Rattle.meter_program.specs.Shows.{field_text}
use Rattle.meter_program.proofs.lines.append_fields.Given as goal

abbrev pub invariant-loop-field : goal.invariant-loop-field
invariant-loop-field l =
    l.text.items ++ flat_map field_text (drop l.field-index l.fields) ≡ l.initial.text.items
    ++ flat_map field_text l.fields
