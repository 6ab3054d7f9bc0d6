-- Piece by piece, to the end or to a fault.
use Rattle.std.proofs.Common.{◌≡◌, ◌∙◌, ◌++◌, [], Err, length, drop, sym, ap, subst, arith, length-drop}
use Rattle.ipfix_reader.proofs.Takings.{when-ok, weaken-err}
use Rattle.meter_io.specs.Sides.{side, IsWrong}
use Rattle.ipfix_reader.specs.Messages.{decode}
use Rattle.ipfix_reader.specs.Outcome.{IsFaultOf}
use Rattle.stream_input.proofs.Windows.{IsPieced, pieced_on, pieced_read, pieced_all, pieced_stop, pieced_fault}
use Rattle.stream_input.proofs.Windows.{end_fails}
use Rattle.stream_input.proofs.reading.read_through.Goals as goal

pub returns-in-Ok-true-clause-taken : goal.returns-in-Ok-true-clause-taken
returns-in-Ok-true-clause-taken g c =
    let on = pieced_on c.args.limit (g.T.RecordTaker.has_taken c.args.taker.now)
    (g.T.RecordTaker.has_taken c.pieces.taker) (g.S.Source.left c.args.source.now)
    (g.S.Source.left c.pieces.source) c.pieces.walk c.pieces.window.bytes c.pieces.left c.pieces.invariant.pieced
    c.read_on.new.window.bytes c.read_on.new.left (g.S.Source.left c.read_on.new.source)
    c.in-Ok-true.ensures.read in
    when-ok c.read_end.result _ _ c.read_end.ensures.taken (λ read none.
    let one = on.taken none in
    let way = read on.front one.0 one.2 one.1 in (
      _,
      pieced_all c.args.limit (g.T.RecordTaker.has_taken c.args.taker.now) (g.T.RecordTaker.has_taken c.pieces.taker)
          (g.S.Source.left c.args.source.now) (g.S.Source.left c.read_on.new.source) c.pieces.walk
          c.read_on.new.window.bytes c.read_on.new.left on c.in-Ok-true.ensures.read.some
          (c.in-Ok-true.ensures.ended c.in-Ok-true.field-0-test) _ _ c.bytes.result.now c.bytes.ensures,
      way,
    ))

pub returns-in-Ok-true-clause-wrong : goal.returns-in-Ok-true-clause-wrong
returns-in-Ok-true-clause-wrong g c =
    let on = pieced_on c.args.limit (g.T.RecordTaker.has_taken c.args.taker.now)
    (g.T.RecordTaker.has_taken c.pieces.taker) (g.S.Source.left c.args.source.now)
    (g.S.Source.left c.pieces.source) c.pieces.walk c.pieces.window.bytes c.pieces.left c.pieces.invariant.pieced
    c.read_on.new.window.bytes c.read_on.new.left (g.S.Source.left c.read_on.new.source)
    c.in-Ok-true.ensures.read in
    weaken-err c.read_end.result _ _ c.read_end.ensures.wrong (λ error wrong none.
    let one = on.taken none in
    end_fails c.args.limit _ _ error
    (pieced_all c.args.limit (g.T.RecordTaker.has_taken c.args.taker.now) (g.T.RecordTaker.has_taken c.pieces.taker)
    (g.S.Source.left c.args.source.now) (g.S.Source.left c.read_on.new.source) c.pieces.walk
    c.read_on.new.window.bytes c.read_on.new.left on c.in-Ok-true.ensures.read.some
    (c.in-Ok-true.ensures.ended c.in-Ok-true.field-0-test) _ _ c.bytes.result.now c.bytes.ensures)
    (wrong on.front one.0 one.2 one.1))

pub returns-in-Ok-true-clause-cause : goal.returns-in-Ok-true-clause-cause
returns-in-Ok-true-clause-cause g c = λ is. absurd (c.read_end.ensures.read is)

pub returns-in-Err-clause-wrong : goal.returns-in-Err-clause-wrong
returns-in-Err-clause-wrong g c = λ none.
    pieced_stop c.args.limit (g.T.RecordTaker.has_taken c.args.taker.now) (g.T.RecordTaker.has_taken c.pieces.taker)
    (g.S.Source.left c.args.source.now) (g.S.Source.left c.pieces.source) c.pieces.walk c.pieces.window.bytes
    c.pieces.left c.pieces.invariant.pieced (g.S.Source.left c.read_on.new.source) c.in-Err.fault _ _
    c.in-Err.ensures.stopped

pub pieces-preserved : goal.pieces-preserved
pieces-preserved g c =
    let had = g.T.RecordTaker.has_taken c.args.taker.now in
    let has = g.T.RecordTaker.has_taken c.pieces.taker in
    let before = g.S.Source.left c.args.source.now in
    let now = g.S.Source.left c.read_on.new.source in
    let piece = c.bytes-in-pieces.result.now in
    let on : IsPieced c.args.limit had has before now c.pieces.walk piece c.read_on.new.left =
    subst (λ l. IsPieced c.args.limit had has before now c.pieces.walk l c.read_on.new.left)
    (sym c.bytes-in-pieces.ensures)
    (pieced_on c.args.limit had has before (g.S.Source.left c.pieces.source) c.pieces.walk c.pieces.window.bytes
    c.pieces.left c.pieces.invariant.pieced c.read_on.new.window.bytes c.read_on.new.left now
    c.in-Ok-false.ensures.read) in
    let kept : c.keep.new.self.bytes ≡ drop c.in-Ok.count piece =
    ap (λ w. w.bytes) c.keep.ensures ∙ ap (drop c.in-Ok.count) (sym c.bytes-in-pieces.ensures) in
    record {
      pieced = subst (λ l. IsPieced c.args.limit had (g.T.RecordTaker.has_taken c.read_whole.new.taker) before now
          c.read_whole.new.self l c.read_on.new.left) (sym kept)
          (pieced_read c.args.limit had has before now c.pieces.walk piece c.read_on.new.left on
          (g.T.RecordTaker.has_taken c.read_whole.new.taker) c.read_whole.new.self c.in-Ok.count
          c.in-Ok.ensures.within c.in-Ok.ensures.place c.in-Ok.ensures.taken);
      some = c.in-Ok-false.ensures.read.some;
      size = ap (λ w. w.size) c.keep.ensures ∙ c.in-Ok-false.ensures.size ∙ c.pieces.invariant.size;
      room =
          let few = c.in-Ok.ensures.left in
          let all = ap length kept in
          let some = length-drop c.in-Ok.count piece in
          omega arith;
      later = (let one = c.pieces.invariant.later in let two = c.in-Ok-false.ensures.later in omega arith);
    }

pub returns-in-Ok-drop_rest-clause-wrong : goal.returns-in-Ok-drop_rest-clause-wrong
returns-in-Ok-drop_rest-clause-wrong g c =
    let had = g.T.RecordTaker.has_taken c.args.taker.now in
    let has = g.T.RecordTaker.has_taken c.pieces.taker in
    let before = g.S.Source.left c.args.source.now in
    let now = g.S.Source.left c.read_on.new.source in
    let piece = c.bytes-in-pieces.result.now in
    let on : IsPieced c.args.limit had has before now c.pieces.walk piece c.read_on.new.left =
    subst (λ l. IsPieced c.args.limit had has before now c.pieces.walk l c.read_on.new.left)
    (sym c.bytes-in-pieces.ensures)
    (pieced_on c.args.limit had has before (g.S.Source.left c.pieces.source) c.pieces.walk c.pieces.window.bytes
    c.pieces.left c.pieces.invariant.pieced c.read_on.new.window.bytes c.read_on.new.left now
    c.in-Ok-false.ensures.read) in
    subst (λ fault. had [] → IsWrong (side g.S.Source.left g.S.Source.faults c.args.source.now c.drop_rest.new.source)
    c.args.limit (λ bytes. decode bytes ≡ Err fault)) (sym c.in-Err-Fault.fault-is)
    (pieced_fault c.args.limit had has before now c.pieces.walk piece c.read_on.new.left on c.in-Err-Fault.fault
    (g.S.Source.left c.drop_rest.new.source) _ _ c.in-Ok-drop_rest.ensures.rest
    (λ front records read taken more. subst (IsFaultOf (decode (front ++ (piece ++ more)))) c.in-Err-Fault.field-0-is
    (c.in-Err-Fault.ensures.fault front records read taken more)))

pub returns-in-Err-drop_rest-clause-wrong : goal.returns-in-Err-drop_rest-clause-wrong
returns-in-Err-drop_rest-clause-wrong g c = λ none.
    pieced_stop c.args.limit (g.T.RecordTaker.has_taken c.args.taker.now) (g.T.RecordTaker.has_taken c.pieces.taker)
    (g.S.Source.left c.args.source.now) (g.S.Source.left c.read_on.new.source) c.pieces.walk
    c.read_on.new.window.bytes c.read_on.new.left
    (pieced_on c.args.limit (g.T.RecordTaker.has_taken c.args.taker.now) (g.T.RecordTaker.has_taken c.pieces.taker)
    (g.S.Source.left c.args.source.now) (g.S.Source.left c.pieces.source) c.pieces.walk c.pieces.window.bytes
    c.pieces.left c.pieces.invariant.pieced c.read_on.new.window.bytes c.read_on.new.left
    (g.S.Source.left c.read_on.new.source) c.in-Ok-false.ensures.read)
    (g.S.Source.left c.drop_rest.new.source) c.in-Err-drop_rest.fault _ _ c.in-Err-drop_rest.ensures.stopped
