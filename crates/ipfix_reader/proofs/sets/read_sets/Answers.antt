-- Set by set, to the end.
use Rattle.std.proofs.Common.{refl, arith}
use Rattle.ipfix_reader.specs.Cursors.{part_of}
use Rattle.ipfix_reader.proofs.Items.{fault_of-same}
use Rattle.ipfix_reader.proofs.SetSteps.{message_sets-end}
use Rattle.ipfix_reader.proofs.Takings.{taken-nothing, taken-then, taken-same}
use Rattle.ipfix_reader.proofs.sets.read_sets.Goals as goal

pub sets-init : goal.sets-init
sets-init g c = record {
  left = λ before taken. taken-nothing _ before _ _ taken refl;
  counted = omega arith;
}

pub sets-preserved : goal.sets-preserved
sets-preserved g c = record {
  left = λ before taken.
      taken-then _ _ before c.sets.count _ _ _ _ _ refl (c.sets.invariant.left before taken)
      (λ after has. c.in-Ok.ensures.ok after has);
  counted = omega (arith, c.sets.invariant.counted, c.in-Ok.ensures.few);
}

pub returns-in-Err-clause-fault : goal.returns-in-Err-clause-fault
returns-in-Err-clause-fault g c = λ before taken.
    let way = c.sets.invariant.left before taken in
    fault_of-same _ _ _ way.reads (c.in-Err.ensures.fault way.after way.taken)

pub returns-clause-ok : goal.returns-clause-ok
returns-clause-ok g c = λ before taken.
    taken-same _ before _ _ _ _ (λ after. message_sets-end _ _ (part_of c.sets.rest) (omega arith))
    (c.sets.invariant.left before taken)
