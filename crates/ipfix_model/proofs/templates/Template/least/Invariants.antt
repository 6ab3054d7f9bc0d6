use Rattle.std.proofs.Common.{◌≡◌, ◌≤◌, ◌*◌, sum_by, take}
use Rattle.ipfix_model.specs.Fields.{field_least}
use Rattle.ipfix_model.proofs.templates.Template.least.Given as goal

abbrev pub invariant-loop-field : goal.invariant-loop-field
invariant-loop-field l = record {
  summed : l.least ≡ sum_by field_least (take l.field-index l.field-items);
  small : l.least ≤ 65535 * l.field-index;
}
