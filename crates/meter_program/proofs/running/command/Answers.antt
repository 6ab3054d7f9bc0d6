use Rattle.std.proofs.Common.{refl}
use Rattle.meter_io.specs.Sides.{side}
use Rattle.meter_program.proofs.running.command.Goals as goal

pub returns-in-Show-clause-ends : goal.returns-in-Show-clause-ends
returns-in-Show-clause-ends g c = rw c.in-Show.is (c.show.ensures (g.M.Caches.metered c.args.caches.now))

pub returns-in-Make-clause-ends : goal.returns-in-Make-clause-ends
returns-in-Make-clause-ends g c =
    rw c.in-Make.is
    (c.make.ensures (side g.S.Source.left g.S.Source.faults c.args.input.now c.args.input.now)
    (g.M.Caches.metered c.args.caches.now)
    (record { bytes = refl; faults = refl }))

pub returns-in-Schedule-clause-ends : goal.returns-in-Schedule-clause-ends
returns-in-Schedule-clause-ends g c = rw c.in-Schedule.is (c.schedule.ensures (g.M.Caches.metered c.args.caches.now))

pub returns-in-Selftest-clause-ends : goal.returns-in-Selftest-clause-ends
returns-in-Selftest-clause-ends g c =
    rw c.in-Selftest.is (c.selftest.ensures.ends (side g.S.Source.left g.S.Source.faults c.args.input.now c.args.input.now)
    (side g.E.Sink.held g.E.Sink.faults c.args.stderr.now c.args.stderr.now) (record { bytes = refl; faults = refl })
    (record { bytes = refl; faults = refl }))
