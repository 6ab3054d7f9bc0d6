use Rattle.std.proofs.Common.{arith}
use Rattle.meter_program.proofs.Metered.{counts-are, gathered}
use Rattle.meter_program.proofs.metering.gathered_of.Goals as goal

pub gather-requires-clause-packets : goal.gather-requires-clause-packets
gather-requires-clause-packets g c κs within =
    let counts = counts-are c.args.limits c.requires.kept.0 c.args.parts c.args.counted.tally
    c.args.counted.tail c.sharing_out_counts.ensures.counts c.requires.kept.1 in
    omega (arith, counts.0)

pub gather-requires-clause-octets : goal.gather-requires-clause-octets
gather-requires-clause-octets g c κs within =
    let counts = counts-are c.args.limits c.requires.kept.0 c.args.parts c.args.counted.tally
    c.args.counted.tail c.sharing_out_counts.ensures.counts c.requires.kept.1 in
    omega (arith, counts.1)

pub returns : goal.returns
returns g c = λ idle active capture idle_is active_is kept.
    gathered idle active c.args.limits capture
    c.args.parts c.in_ok-records.records c.args.counted.tally c.args.counted.tail
    idle_is active_is kept (record {
      regroups = c.in_ok-records.ensures.regroups;
      lawful = c.in_ok-records.ensures.lawful;
      sessions = c.in_ok-records.ensures.sessions;
    })
