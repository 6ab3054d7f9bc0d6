-- The first message, one more, and what is held in the end.
use Rattle.std.proofs.Common.{◌∙◌, arith, ap, length, length-drop}
use Rattle.ipfix_writer.proofs.Through.{goes-on-first, cut-first, goes-on-more, cut-more, out-whole, cut-last, when_ok}
use Rattle.ipfix_writer.proofs.UnderWay.{on_err}
use Rattle.ipfix_writer.proofs.messages.write_messages.Goals as goal

pub returns-in-Err-clause-begun : goal.returns-in-Err-clause-begun
returns-in-Err-clause-begun g c =
    let h = c.in-Err.ensures.cut in
    let begun = cut-first g.R.Encode.encode c.args.form.size c.args.form.export_time c.args.first.now c.args.records.now
    (g.K.Sink.held c.args.sink.now) (g.K.Sink.held c.put.new.sink) c.args.out h.0 c.requires.alone c.requires.empty
    h.1 in
    (begun.bytes, begun.count, begun.appended, begun.stream)

pub loop-done-init : goal.loop-done-init
loop-done-init g c = record {
  within = omega arith;
  room = c.requires.room;
  way = goes-on-first g.R.Encode.encode c.args.form.size c.args.form.export_time c.args.first.now c.args.records.now
      (g.K.Sink.held c.args.sink.now) (g.K.Sink.held c.put.new.sink) c.args.out c.put.new.self c.requires.empty
      c.in-Ok.ensures.passed;
  quiet = c.in-Ok.ensures.cause.quiet;
}

pub loop-done-preserved : goal.loop-done-preserved
loop-done-preserved g c =
    let records = c.args.records.now in
    let h = c.in-Ok-put_message.ensures.passed in
    let long = ap length c.split_at.ensures.back ∙ length-drop c.loop-done.done records in
    record {
      within = omega (arith, long, h.0.within);
      room = omega (arith, c.in-Ok-put_message.ensures.room, c.loop-done.invariant.room);
      way = goes-on-more g.R.Encode.encode c.args.form.size c.args.form.export_time c.args.first.now records
          c.split_at.result.1.now c.loop-done.done c.in-Ok-put_message.count (g.K.Sink.held c.args.sink.now)
          (g.K.Sink.held c.loop-done.sink) (g.K.Sink.held c.put_message.new.sink) c.loop-done.out
          c.put_message.new.out c.split_at.ensures.back c.loop-done.invariant.way h.0 h.1;
      quiet = c.in-Ok-put_message.ensures.cause.quiet ∙ c.loop-done.invariant.quiet;
    }

pub returns-in-Err-put_message-clause-begun : goal.returns-in-Err-put_message-clause-begun
returns-in-Err-put_message-clause-begun g c =
    let h = c.in-Err-put_message.ensures.cut in
    let begun = cut-more g.R.Encode.encode c.args.form.size c.args.form.export_time c.args.first.now c.args.records.now
    c.split_at.result.1.now c.loop-done.done h.0 (g.K.Sink.held c.args.sink.now) (g.K.Sink.held c.loop-done.sink)
    (g.K.Sink.held c.put_message.new.sink) c.loop-done.out h.1 c.requires.alone c.split_at.ensures.back
    c.loop-done.invariant.way h.2 h.3 in
    (begun.bytes, begun.count, begun.appended, begun.stream)

pub returns-clause-written : goal.returns-clause-written
returns-clause-written g c =
    let out = out-whole g.R.Encode.encode c.args.form.size c.args.form.export_time c.args.first.now c.args.records.now
    c.loop-done.done (g.K.Sink.held c.args.sink.now) (g.K.Sink.held c.loop-done.sink)
    (g.K.Sink.held c.write_out.new.sink) c.loop-done.out c.loop-done-test.false c.loop-done.invariant.way in
    when_ok c.write_out.result c.write_out.ensures.whole (λ taken.
    ((out taken).bytes, (out taken).appended, (out taken).stream))

pub returns-clause-begun : goal.returns-clause-begun
returns-clause-begun g c =
    on_err c.write_out.result c.write_out.ensures.prefix (λ h.
    let begun = cut-last g.R.Encode.encode c.args.form.size c.args.form.export_time c.args.first.now c.args.records.now
    c.loop-done.done h.0 (g.K.Sink.held c.args.sink.now) (g.K.Sink.held c.loop-done.sink)
    (g.K.Sink.held c.write_out.new.sink) c.loop-done.out c.loop-done-test.false c.loop-done.invariant.way h.1 in
    (begun.bytes, begun.count, begun.appended, begun.stream))
