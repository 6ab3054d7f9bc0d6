use Rattle.std.proofs.Common.{refl}
use Rattle.meter_io.specs.Sides.{side}
use Rattle.meter_program.proofs.Streams.{wrote-both, wrote-first, wrote-some}
use Rattle.meter_program.proofs.meter.write_stream.Goals as goal

pub returns-in-Err : goal.returns-in-Err
returns-in-Err g c =
    let h = c.in-Err.ensures.begun in
    wrote-some c.in-Ok.emitter.size c.args.size c.args.gathered.now.records c.args.gathered.now.tally
    c.args.gathered.now.tail h.1 h.0
    (side g.K.Sink.held g.K.Sink.faults c.args.output.now c.emit.new.sink)
    (side g.E.Sink.held g.E.Sink.faults c.args.stderr.now c.args.stderr.now) c.in-Ok.ensures.size h.3 h.2
    c.in-Err.ensures.cause.failed refl

pub returns-in-Ok-summary : goal.returns-in-Ok-summary
returns-in-Ok-summary g c =
    let h = c.in-Ok-emit.ensures.written in
    wrote-both c.in-Ok.emitter.size c.args.size c.args.gathered.now.records c.args.gathered.now.tally
    c.args.gathered.now.tail
    c.len-flows.result c.in-Ok-emit.messages h.0
    (side g.K.Sink.held g.K.Sink.faults c.args.output.now c.emit.new.sink)
    (side g.E.Sink.held g.E.Sink.faults c.args.stderr.now c.summary.new.stderr)
    c.len-flows.ensures c.in-Ok.ensures.size
    h.2 h.1 c.in-Ok-summary.ensures.whole

pub returns-in-Err-summary : goal.returns-in-Err-summary
returns-in-Err-summary g c =
    let h = c.in-Ok-emit.ensures.written in
    wrote-first c.in-Ok.emitter.size c.args.size c.args.gathered.now.records c.args.gathered.now.tally
    c.args.gathered.now.tail
    c.len-flows.result c.in-Ok-emit.messages h.0
    (side g.K.Sink.held g.K.Sink.faults c.args.output.now c.emit.new.sink)
    (side g.E.Sink.held g.E.Sink.faults c.args.stderr.now c.summary.new.stderr)
    c.len-flows.ensures c.in-Ok.ensures.size
    h.2 h.1 c.in-Err-summary.ensures.begun c.in-Err-summary.ensures.cause.failed
