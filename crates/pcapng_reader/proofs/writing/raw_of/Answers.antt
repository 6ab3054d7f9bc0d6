-- The cause of a bad time, and of a fault of the link part.
use Rattle.std.proofs.Common.{arith}
use Rattle.std.proofs.lemmas.Result.{err_from_is_err_and}
use Rattle.pcapng_reader.specs.Index.{linked_read}
use Rattle.pcapng_reader.proofs.Answering.{answer-late, answer-fault}
use Rattle.pcapng_reader.proofs.writing.raw_of.Goals as goal

pub returns-then-linked-ge-SECOND-clause-ignored : goal.returns-then-linked-ge-SECOND-clause-ignored
returns-then-linked-ge-SECOND-clause-ignored c =
    answer-late (linked_read c.args.linked.now) (omega (arith, c.if-linked-ge-SECOND.true))

pub returns-in_err-frame-clause-ignored : goal.returns-in_err-frame-clause-ignored
returns-in_err-frame-clause-ignored c =
    let p = err_from_is_err_and c.from_residual.result c.from_residual.ensures.1 in
    rw (p.1, p.2)
    (answer-fault (linked_read c.args.linked.now) _ (omega (arith, c.if-linked-ge-SECOND.false))
    c.in_err-frame.ensures.cause)
