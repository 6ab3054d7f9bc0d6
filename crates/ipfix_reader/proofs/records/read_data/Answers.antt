-- Record by record, and the padding behind the last one.
use Rattle.std.proofs.Common.{◌∙◌, ◌+◌, refl, arith}
use Rattle.ipfix_reader.specs.Cursors.{part_of}
use Rattle.ipfix_reader.proofs.Items.{fault_of-same}
use Rattle.ipfix_reader.proofs.RecordSteps.{data_records-end, ends-fault}
use Rattle.ipfix_reader.proofs.Takings.{taken-nothing, taken-then, taken-same, padded}
use Rattle.ipfix_reader.proofs.records.read_data.Goals as goal

pub records-init : goal.records-init
records-init g c = record {
  left = λ before taken. taken-nothing _ before _ _ taken refl;
  counted = omega arith;
}

pub records-preserved : goal.records-preserved
records-preserved g c = record {
  left = λ before taken.
      taken-then _ _ before c.records.count 1 (c.records.count + 1) _ _ _ refl (c.records.invariant.left before taken)
      (λ after has. c.in-Ok.ensures.ok after has);
  counted = omega (arith, c.records.invariant.counted, c.in-Ok.ensures.shorter);
}

pub returns-in-Err-clause-fault : goal.returns-in-Err-clause-fault
returns-in-Err-clause-fault g c = λ before taken.
    let way = c.records.invariant.left before taken in
    fault_of-same _ _ _ way.reads (c.in-Err.ensures.fault way.after way.taken)

pub returns-in-Ok-check_padding-clause-ok : goal.returns-in-Ok-check_padding-clause-ok
returns-in-Ok-check_padding-clause-ok g c = λ before taken.
    taken-same _ before _ _ _ _
    (λ after. data_records-end _ _ _ after (part_of c.records.rest) c.args.known.now.takes_bytes (omega arith)
    ∙ padded after (part_of c.records.rest) c.in-Ok-check_padding.ensures.ok)
    (c.records.invariant.left before taken)

pub returns-in-Err-check_padding-clause-fault : goal.returns-in-Err-check_padding-clause-fault
returns-in-Err-check_padding-clause-fault g c = λ before taken.
    let way = c.records.invariant.left before taken in
    ends-fault _ way.after (part_of c.records.rest) _
    (way.reads
    ∙ data_records-end _ _ _ way.after (part_of c.records.rest) c.args.known.now.takes_bytes (omega arith))
    c.in-Err-check_padding.ensures
