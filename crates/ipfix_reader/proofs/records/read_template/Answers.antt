-- A record's step.
use Rattle.std.proofs.lemmas.Result.{err_from_is_err_and}
use Rattle.ipfix_reader.proofs.RecordSteps.{template_fields-takes, template_records-next, template_records-fault}
use Rattle.ipfix_reader.proofs.records.read_template.Goals as goal

pub returns-in_err-template-clause-fault : goal.returns-in_err-template-clause-fault
returns-in_err-template-clause-fault c =
    let p = err_from_is_err_and c.from_residual.result c.from_residual.ensures.1 in
    rw (p.1, p.2) (template_records-fault _ _ _ _ _ c.requires c.in_err-template.ensures.fault)

pub returns-clause-ok : goal.returns-clause-ok
returns-clause-ok c = rw (c.in_ok-insert.ensures, c.in_ok-template.ensures.number)
    (template_records-next _ _ _ _ _ c.requires c.in_ok-template.ensures.ok)

pub returns-clause-shorter : goal.returns-clause-shorter
returns-clause-shorter c = template_fields-takes _ _ _ c.requires c.in_ok-template.ensures.ok
