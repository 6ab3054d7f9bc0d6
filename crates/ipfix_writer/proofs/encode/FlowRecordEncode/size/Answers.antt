-- The length that the fields of the template give.
use Rattle.std.proofs.Common.{◌∙◌, sym, ap, Bool, if◌then◌else◌, eq-eqb}
use Rattle.std.proofs.lemmas.Bool.{ne_eqb}
use Rattle.ipfix_writer.specs.DataSizes.{length-data_record}
use Rattle.ipfix_writer.proofs.Sizes.{record_size-is}
use Rattle.ipfix_writer.proofs.encode.FlowRecordEncode.size.Goals as goal
use Rattle.ipfix_model.specs.Sizes.{v4_record_length, v6_record_length}

pub returns-then-self-eq4 : goal.returns-then-self-eq4
returns-then-self-eq4 c =
    let flow = c.args.self.now in
    sym (length-data_record flow ∙ record_size-is flow
    ∙ ap (λ (v4 : Bool). if v4 then v4_record_length else v6_record_length)
    (eq-eqb flow.part.key.version 4 c.if-self-eq4.true))

pub returns-else-self-eq4 : goal.returns-else-self-eq4
returns-else-self-eq4 c =
    let flow = c.args.self.now in
    sym (length-data_record flow ∙ record_size-is flow
    ∙ ap (λ (v4 : Bool). if v4 then v4_record_length else v6_record_length)
    (ne_eqb flow.part.key.version 4 c.if-self-eq4.false))
