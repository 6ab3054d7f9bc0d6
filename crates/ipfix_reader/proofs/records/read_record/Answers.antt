-- A record's step.
use Rattle.std.proofs.Common.{◌≤◌, ◌+◌, ◌∙◌, ap, length, arith}
use Rattle.std.proofs.lemmas.Result.{err_from_is_err_and}
use Rattle.ipfix_model.specs.Fields.{least_length}
use Rattle.ipfix_reader.specs.Cursors.{part_of, values_shown}
use Rattle.ipfix_reader.proofs.FixedPlaces.{flow_fields-least}
use Rattle.ipfix_reader.proofs.RecordSteps.{values_of-takes, data_records-next, data_records-fault}
use Rattle.ipfix_reader.proofs.Takings.{taken-one, weaken-err}
use Rattle.ipfix_reader.proofs.records.read_record.Goals as goal

pub read_flow-requires : goal.read_flow-requires
read_flow-requires g c =
    let same = c.args.known.now.of_flows c.in-Some.flow c.in-Some.is in
    let least = ap least_length same ∙ flow_fields-least c.in-Some.flow in
    omega (arith, least)

pub returns-in-Some-clause-ok : goal.returns-in-Some-clause-ok
returns-in-Some-clause-ok g c =
    rw (c.args.known.now.of_flows c.in-Some.flow c.in-Some.is) c.read_flow.ensures.ok

pub returns-in-Some-clause-fault : goal.returns-in-Some-clause-fault
returns-in-Some-clause-fault g c =
    weaken-err c.read_flow.result _ _ c.read_flow.ensures.memory (λ error is before taken. rw is tt)

pub returns-in_err-values-clause-fault : goal.returns-in_err-values-clause-fault
returns-in_err-values-clause-fault g c =
    let p = err_from_is_err_and c.from_residual.result c.from_residual.ensures.1 in
    rw (p.1, p.2)
    (λ before taken. data_records-fault _ _ _ before (part_of c.args.part) _ c.args.known.now.takes_bytes c.requires
    (rw c.items.ensures at c.in_err-values.ensures.fault))

pub returns-clause-ok : goal.returns-clause-ok
returns-clause-ok g c = λ before taken.
    taken-one _ before _ _ _ (c.in_ok-take.ensures before taken)
    (rw c.of.ensures
    (data_records-next _ _ _ before (part_of c.args.part) _ c.args.known.now.takes_bytes c.requires
    (rw c.items.ensures at c.in_ok-values.ensures.ok)))

pub returns-clause-shorter : goal.returns-clause-shorter
returns-clause-shorter g c =
    let read = rw c.items.ensures at c.in_ok-values.ensures.ok in
    let takes : length c.in_ok-values.rest.bytes.now + least_length c.args.known.now.template.fields
    ≤ length c.args.part.bytes.now =
    values_of-takes _ _ _ _ (values_shown (c.in_ok-values.values, c.in_ok-values.rest)) read in
    omega (arith, takes, c.args.known.now.takes_bytes)
