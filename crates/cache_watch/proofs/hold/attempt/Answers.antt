use Rattle.std.proofs.Common.{arith}
use Rattle.pebr_roots.specs.Passes.{operations_by}
use Rattle.pebr_roots.proofs.Counts.{made_in, made_on}
use Rattle.cache_watch.proofs.hold.attempt.Goals as goal

pub returns-in-Some-clause-few : goal.returns-in-Some-clause-few
returns-in-Some-clause-few c =
    made_on 11 45 (operations_by c.args.seat.now) (operations_by c.protect.new.pass) (operations_by c.keep.new.seat)
    c.protect.ensures.few c.keep.ensures.few

pub returns-in-None-clause-few : goal.returns-in-None-clause-few
returns-in-None-clause-few c =
    made_on 11 45 (operations_by c.args.seat.now) (operations_by c.protect.new.pass) (operations_by c.keep.new.seat)
    c.protect.ensures.few c.keep.ensures.few

pub returns-in-Ejected-clause-few : goal.returns-in-Ejected-clause-few
returns-in-Ejected-clause-few c =
    let x = operations_by c.args.seat.now in
    let z = operations_by c.leave.new.seat in
    made_in 16 56 x z (omega arith)
    (made_on 11 5 x (operations_by c.protect.new.pass) z c.protect.ensures.few c.leave.ensures.few)
