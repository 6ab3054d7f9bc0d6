use Rattle.meter_io.specs.Sides.{side}
use Rattle.ipfix_writer.proofs.UnderWay.{on_ok, on_err}
use Rattle.meter_program.proofs.Streams.{written-of, begun-of}
use Rattle.std.proofs.Common.{refl}
use Rattle.meter_program.proofs.meter.emit.Goals as goal

pub returns-clause-written : goal.returns-clause-written
returns-clause-written g c =
    on_ok c.emit_all.result c.emit_all.ensures.written (λ messages h. (
      h.0,
      h.1,
      written-of c.args.emitter.size c.args.emitter.size c.args.emitter.export_time c.args.gathered.now.records
          c.args.gathered.now.records c.args.gathered.now.tally h.0 messages c.layout_law.ensures c.requires.size
          refl c.requires.time refl h.2,
    ))

pub returns-clause-begun : goal.returns-clause-begun
returns-clause-begun g c =
    on_err c.emit_all.result c.emit_all.ensures.broken (λ h.
    let begun = begun-of c.args.emitter.size c.args.emitter.export_time c.args.gathered.now.records
    c.args.gathered.now.records c.args.gathered.now.tally h.0
    (side g.K.Sink.held g.K.Sink.faults c.args.sink.now c.emit_all.new.sink) c.layout_law.ensures c.requires.size
    c.requires.time refl h.2 h.1 in
    (begun.bytes, begun.messages, begun.begun, begun.is_written))
