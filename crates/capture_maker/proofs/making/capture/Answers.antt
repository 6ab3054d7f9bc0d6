use Rattle.std.proofs.Common.{arith}
use Rattle.capture_maker.proofs.Packets.{written-next, written-all}
use Rattle.capture_maker.proofs.making.capture.Goals as goal

pub loop-number-preserved : goal.loop-number-preserved
loop-number-preserved c = (
  written-next _ _ _ c.args.keys c.args.packets c.loop-number.draws.state _ _ c.loop-number.number _ _
      c.loop-number-test.true
      c.draw.ensures.state c.draw.ensures.number c.draw-in-loop-number.ensures.state
      c.draw-in-loop-number.ensures.number
      c.append_packet.ensures.items c.loop-number.invariant.0,
  omega (arith, c.append_packet.ensures.longer, c.loop-number.invariant.1),
  omega (arith, c.append_packet.ensures.room, c.loop-number.invariant.2),
)

pub returns-clause-octets : goal.returns-clause-octets
returns-clause-octets c =
    written-all _ _ _ c.args.packets _ c.loop-number.number c.loop-number-test.false c.loop-number.invariant.0
