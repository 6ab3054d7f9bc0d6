-- One more record of the run.
use Rattle.std.proofs.Common.{[], ◌∷◌, take, drop, ◌+◌}
use Rattle.ipfix_writer.proofs.UnderWay.{taken-one, records-split, all-taken}
use Rattle.ipfix_writer.proofs.TakenIn.{none-in, more-in, whole-in, broken-in}
use Rattle.ipfix_writer.proofs.stream.emit_run.Goals as goal

pub loop-flow-init : goal.loop-flow-init
loop-flow-init g c = none-in c.args.emitter.now _ _ c.requires

pub returns-in-Err : goal.returns-in-Err
returns-in-Err g c =
    let run = c.args.run.now in
    let i = c.loop-flow.flow-index in
    let flow = c.flow-item.result in
    let next = c.in-Err.ensures in
    broken-in c.in-Err.field-0 c.args.emitter.now c.loop-flow.emitter c.record.new.self (take i run) (flow ∷ [])
    (drop (i + 1) run) run _ _ _ _ _ _ c.loop-flow.invariant
    (record {
      taken = next.taken;
      broken = next.broken;
      size = next.settings.0;
      export_time = next.settings.1;
      started = next.started;
      phase = next.phase;
      cause = next.cause;
    })
    (records-split run i flow c.loop-flow-test.true c.flow-item.is)

pub loop-flow-preserved : goal.loop-flow-preserved
loop-flow-preserved g c =
    let run = c.args.run.now in
    let i = c.loop-flow.flow-index in
    let flow = c.flow-item.result in
    let next = c.in-Ok.ensures in
    more-in tt c.args.emitter.now c.loop-flow.emitter c.record.new.self (take i run) (flow ∷ []) (take (i + 1) run)
    _ _ _ _ _ _ c.loop-flow.invariant
    (record {
      taken = next.taken;
      broken = next.broken;
      size = next.settings.0;
      export_time = next.settings.1;
      started = next.started;
      phase = next.phase;
      cause = next.cause;
    })
    (taken-one run i flow c.loop-flow-test.true c.flow-item.is)

pub returns : goal.returns
returns g c =
    let run = c.args.run.now in
    let i = c.loop-flow.flow-index in
    whole-in tt c.args.emitter.now c.loop-flow.emitter (take i run) run _ _ _ _ c.loop-flow.invariant
    (all-taken run i c.loop-flow-test.false)
