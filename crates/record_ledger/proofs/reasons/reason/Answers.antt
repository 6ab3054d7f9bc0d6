-- No record of the key follows.
use Rattle.std.proofs.Common.{arith, ◌≡◌, None}
use Rattle.std.proofs.lemmas.Grind.{common_steps}
use Rattle.record_ledger.specs.Lawful.{parts_of}
use Rattle.record_ledger.specs.Steps.{next_of_key}
use Rattle.record_ledger.proofs.reasons.reason.Goals as goal

pub returns-in-None : goal.returns-in-None
returns-in-None c =
    let none : next_of_key c.args.part.now (parts_of c.args.rest.now) ≡ None = grind (arith, common_steps) in
    grind (arith, common_steps)

pub returns-in-None-2 : goal.returns-in-None-2
returns-in-None-2 c =
    let none : next_of_key c.args.part.now (parts_of c.args.rest.now) ≡ None = grind (arith, common_steps) in
    grind (arith, common_steps)
