-- What was kept of the file, by how it was read.
use Rattle.std.proofs.Common.{◌++◌, List, subst, sym}
use Rattle.std.proofs.lemmas.Result.{err_from_is_err_and}
use Rattle.meter_io.specs.Sides.{side, IsWrong}
use Rattle.record_ledger.specs.declared.record.FlowRecord.{FlowRecord}
use Rattle.join_program.specs.Outcome.{HasTooMany, limit}
use Rattle.join_program.specs.Filed.{HasBegun, HasGivenAll}
use Rattle.join_program.specs.Taking.{IsTaken}
use Rattle.join_program.proofs.Filed.{filed-none, begins, unread, has_other, too_many, given}
use Rattle.join_program.proofs.reading.take_from_as.Goals as goal

pub returns-in_err-read_stream-clause-wrong : goal.returns-in_err-read_stream-clause-wrong
returns-in_err-read_stream-clause-wrong g c =
    let p = err_from_is_err_and c.from_residual.result c.from_residual.ensures.1 in
    rw (p.1, p.2)
    (λ before told. unread _ before _ _ (c.in_err-read_stream.ensures.wrong (
      c.requires.share,
      filed-none (HasBegun g.K.Begun.start g.K.Begun.share) g.K.Begun.share c.args.taken
          (begins g.K.Begun.start g.K.Begun.share c.args.taken c.requires.start),
    )))

pub returns-then-taker-clause-wrong : goal.returns-then-taker-clause-wrong
returns-then-taker-clause-wrong g c = λ before told.
    let way = c.in_ok-read_stream.ensures.taken (
      c.requires.share,
      filed-none (HasBegun g.K.Begun.start g.K.Begun.share) g.K.Begun.share c.args.taken
          (begins g.K.Begun.start g.K.Begun.share c.args.taken c.requires.start),
    ) in
    has_other (HasBegun g.K.Begun.start g.K.Begun.share) g.K.Begun.share c.read_stream.new.taker.taken
    c.read_stream.new.taker.flows c.read_stream.new.taker.has_other c.read_stream.new.taker.are_many _ way.0 way.1
    way.2.0 way.2.1.1 way.2.2 (c.records_are_few.ensures way.0 way.2.0 way.2.2) c.if-taker.true

pub returns-then-taker-2-clause-wrong : goal.returns-then-taker-2-clause-wrong
returns-then-taker-2-clause-wrong g c = λ before told.
    let way = c.in_ok-read_stream.ensures.taken (
      c.requires.share,
      filed-none (HasBegun g.K.Begun.start g.K.Begun.share) g.K.Begun.share c.args.taken
          (begins g.K.Begun.start g.K.Begun.share c.args.taken c.requires.start),
    ) in
    subst (λ share. IsWrong (side g.S.Source.left g.S.Source.faults c.args.source.now c.read_stream.new.source) limit
    (HasTooMany share before)) (sym c.requires.share)
    (too_many (HasBegun g.K.Begun.start g.K.Begun.share) g.K.Begun.share c.read_stream.new.taker.taken
    c.read_stream.new.taker.flows c.read_stream.new.taker.has_other c.read_stream.new.taker.are_many _ way.0 way.1
    way.2.0 way.2.1.1 way.2.2 c.if-taker.false c.if-taker-2.true before told)

pub returns-clause-taken : goal.returns-clause-taken
returns-clause-taken g c =
    let way = c.in_ok-read_stream.ensures.taken (
      c.requires.share,
      filed-none (HasBegun g.K.Begun.start g.K.Begun.share) g.K.Begun.share c.args.taken
          (begins g.K.Begun.start g.K.Begun.share c.args.taken c.requires.start),
    ) in
    subst (λ share. (flows : List FlowRecord)
    × HasGivenAll (side g.S.Source.left g.S.Source.faults c.args.source.now c.read_stream.new.source) flows
    × ((before : List FlowRecord) → HasBegun g.K.Begun.start g.K.Begun.share before
    → IsTaken share (before ++ flows) c.read_stream.new.taker.taken)) (sym c.requires.share)
    (given (HasBegun g.K.Begun.start g.K.Begun.share) g.K.Begun.share c.read_stream.new.taker.taken
    c.read_stream.new.taker.flows c.read_stream.new.taker.has_other c.read_stream.new.taker.are_many _ way.0 way.1
    way.2.0 way.2.1.1 way.2.2 c.if-taker.false c.if-taker-2.false)
