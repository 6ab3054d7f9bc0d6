-- What is in a set, by its number.
use Rattle.std.proofs.Common.{◌∙◌, Ok, List, sym, ap, arith}
use Rattle.ipfix_model.specs.declared.values.DataRecord.{DataRecord}
use Rattle.octets.specs.Outcome.{◌>>=◌}
use Rattle.ipfix_reader.specs.Known.{Templates}
use Rattle.ipfix_reader.specs.Cursors.{part_of}
use Rattle.ipfix_reader.specs.Taking.{contents_of}
use Rattle.ipfix_reader.proofs.Items.{fault_of-same, fault_behind}
use Rattle.ipfix_reader.proofs.SetSteps.{set_contents-templates, set_contents-options, set_contents-reserved}
use Rattle.ipfix_reader.proofs.SetSteps.{set_contents-data}
use Rattle.ipfix_reader.proofs.Takings.{taken-nothing, weaken-ok, weaken-err}
use Rattle.ipfix_reader.proofs.sets.read_content.Goals as goal

pub returns-in-2-clause-ok : goal.returns-in-2-clause-ok
returns-in-2-clause-ok g c =
    weaken-ok c.read_template_set.result _ _ c.read_template_set.ensures.ok (λ count read before taken.
    rw read.0
    (taken-nothing _ before _ _ taken
    (set_contents-templates _ _ _ _ (part_of c.args.content) (omega arith)
    ∙ ap (λ r. r >>= λ (templates : Templates). Ok (contents_of templates before)) read.1)))

pub returns-in-2-clause-few : goal.returns-in-2-clause-few
returns-in-2-clause-few g c =
    weaken-ok c.read_template_set.result _ _ c.read_template_set.ensures.ok (λ count read. omega (arith, read.0))

pub returns-in-2-clause-fault : goal.returns-in-2-clause-fault
returns-in-2-clause-fault g c =
    weaken-err c.read_template_set.result _ _ c.read_template_set.ensures.fault (λ error fault before taken.
    fault_of-same _ _ error (set_contents-templates _ _ _ _ (part_of c.args.content) (omega arith))
    (fault_behind _ (λ (templates : Templates). Ok (contents_of templates before)) error fault))

pub returns-in-3-clause-ok : goal.returns-in-3-clause-ok
returns-in-3-clause-ok g c =
    weaken-ok c.read_template_set-in-3.result _ _ c.read_template_set-in-3.ensures.ok (λ count read before taken.
    rw read.0
    (taken-nothing _ before _ _ taken
    (set_contents-options _ _ _ _ (part_of c.args.content) (omega arith)
    ∙ ap (λ r. r >>= λ (templates : Templates). Ok (contents_of templates before)) read.1)))

pub returns-in-3-clause-few : goal.returns-in-3-clause-few
returns-in-3-clause-few g c =
    weaken-ok c.read_template_set-in-3.result _ _ c.read_template_set-in-3.ensures.ok
    (λ count read. omega (arith, read.0))

pub returns-in-3-clause-fault : goal.returns-in-3-clause-fault
returns-in-3-clause-fault g c =
    weaken-err c.read_template_set-in-3.result _ _ c.read_template_set-in-3.ensures.fault (λ error fault before taken.
    fault_of-same _ _ error (set_contents-options _ _ _ _ (part_of c.args.content) (omega arith))
    (fault_behind _ (λ (templates : Templates). Ok (contents_of templates before)) error fault))

pub returns-in-0-to-255-clause-ok : goal.returns-in-0-to-255-clause-ok
returns-in-0-to-255-clause-ok g c = λ before taken.
    taken-nothing _ before _ _ taken
    (set_contents-reserved _ _ _ _ _ (λ e. omega (arith, e)) (λ e. omega (arith, e)) (omega arith))

pub returns-in-Some-clause-ok : goal.returns-in-Some-clause-ok
returns-in-Some-clause-ok g c =
    weaken-ok c.read_data.result _ _ c.read_data.ensures.ok (λ count read before taken.
    let way = read before taken in
    record {
      after = way.after;
      taken = way.taken;
      counted = way.counted;
      reads = set_contents-data _ _ _ _ (part_of c.args.content) _ (omega arith) (sym c.in-Some.ensures)
          ∙ ap (λ r. r >>= λ (records : List DataRecord). Ok (contents_of c.args.table.now records)) way.reads;
    })

pub returns-in-Some-clause-fault : goal.returns-in-Some-clause-fault
returns-in-Some-clause-fault g c =
    weaken-err c.read_data.result _ _ c.read_data.ensures.fault (λ error fault before taken.
    fault_of-same _ _ error
    (set_contents-data _ _ _ _ (part_of c.args.content) _ (omega arith) (sym c.in-Some.ensures))
    (fault_behind _ (λ (records : List DataRecord). Ok (contents_of c.args.table.now records)) error
    (fault before taken)))

pub returns-in-None-clause-fault : goal.returns-in-None-clause-fault
returns-in-None-clause-fault g c = λ before taken.
    set_contents-data _ _ _ _ (part_of c.args.content) _ (omega arith) (sym c.in-None.ensures)
