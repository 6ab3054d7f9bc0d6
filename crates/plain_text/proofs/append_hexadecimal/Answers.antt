use Rattle.std.proofs.Common.{arith}
use Rattle.plain_text.proofs.Octets.{written-next, written-all}
use Rattle.plain_text.proofs.append_hexadecimal.Goals as goal

pub loop-octet-preserved : goal.loop-octet-preserved
loop-octet-preserved c =
    written-next _ _ _ c.args.octets.now c.loop-octet.octet-index
    (omega (arith, c.loop-octet-test.true)) c.in_ok-append_octet.ensures c.loop-octet.invariant

pub returns : goal.returns
returns c = written-all _ _ c.args.octets.now c.loop-octet.octet-index
    (omega (arith, c.loop-octet-test.false)) c.loop-octet.invariant
