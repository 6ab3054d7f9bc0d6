-- The values of the fields of the template, which the octets have.
use Rattle.std.proofs.Common.{◌∙◌}
use Rattle.ipfix_reader.specs.declared.fault.StreamFault.TheVariants.{BadLength}
use Rattle.ipfix_reader.specs.Cursors.{values_shown}
use Rattle.ipfix_reader.proofs.FlowPlaces.{octets-no_fault, record_of-read}
use Rattle.ipfix_reader.proofs.flow_octets.FlowOctets.to_record.Goals as goal

pub unreachable-requires : goal.unreachable-requires
unreachable-requires c = octets-no_fault _ c.args.self _ _ _ _ (c.as_slice.ensures ∙ c.fields.ensures)
    c.in-Err-Fault.field-0-is c.in-Err-Fault.ensures.fault

pub returns-in-Ok : goal.returns-in-Ok
returns-in-Ok c = record_of-read (BadLength 0) c.args.self c.as_slice.result.now 0
    (values_shown (c.in-Ok.values, c.in-Ok.field-0-1)) c.of.result (c.as_slice.ensures ∙ c.fields.ensures)
    c.in-Ok.ensures.ok c.of.ensures
