use Rattle.std.proofs.Common.{arith}
use Rattle.ipfix_writer.proofs.UnderWay.{keeps-fresh}
use Rattle.ipfix_writer.proofs.emitter.Emitter.open.Goals as goal

pub invariant_of-result : goal.invariant_of-result
invariant_of-result c = rw (c.in_ok-waiting.ensures.items, c.in_ok-out.ensures)
    (keeps-fresh c.args.size _ _ c.requires.0 c.requires.1 (omega (arith, c.in_ok-buffer.ensures.exact))
    (omega (arith, c.in_ok-waiting.ensures.exact)))
