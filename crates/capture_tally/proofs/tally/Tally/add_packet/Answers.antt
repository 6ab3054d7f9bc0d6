use Rattle.std.proofs.Common.{◌≡◌, ◌++◌, ◌∷◌, [], Ok, Some, sym, ap, ◌∙◌, subst, arith, length}
use Rattle.std.proofs.lemmas.List.{length-append}
use Rattle.packet_accept.specs.Packets.{packets_in}
use Rattle.packet_accept.specs.Clock.{IsClock, later_clock}
use Rattle.capture_tally.proofs.Counting.{counts-packet, octets-together, clock-alone}
use Rattle.capture_tally.specs.Tallies.{octets_of}
use Rattle.capture_tally.proofs.tally.Tally.add_packet.Goals as goal

pub returns : goal.returns
returns c = λ answers is.
    let packet = c.args.packet.now in
    let one : packets_in (answers ++ Ok packet ∷ []) ≡ packets_in answers ++ packet ∷ [] =
    c.packets_law.ensures.together answers (Ok packet ∷ []) in
    record {
      captured = omega (arith, is.captured, length-append answers (Ok packet ∷ []));
      accepted = omega (arith, is.accepted, ap (λ ps. length ps) one, length-append (packets_in answers) (packet ∷ []));
      ignored = is.ignored ∙ counts-packet answers packet;
      octets = omega (arith, is.octets, ap octets_of one, octets-together (packets_in answers) (packet ∷ []));
      clock = subst (λ clock. IsClock (packets_in (answers ++ Ok packet ∷ [])) clock)
          (sym c.later_of-self.ensures.later)
          (subst (λ ps. IsClock ps (later_clock c.args.self.now.clock (Some packet.time))) (sym one)
          (c.clock_law.ensures.together (packets_in answers) (packet ∷ []) c.args.self.now.clock
          (Some packet.time) is.clock (clock-alone packet)));
    }
