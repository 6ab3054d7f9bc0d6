use Rattle.std.proofs.Common.{◌≡◌, ◌++◌, sym, ap, subst, arith, length}
use Rattle.std.proofs.lemmas.List.{length-append}
use Rattle.packet_accept.specs.Packets.{packets_in}
use Rattle.packet_accept.specs.Clock.{IsClock, later_clock}
use Rattle.capture_tally.proofs.Counting.{counts-together, octets-together}
use Rattle.capture_tally.specs.Tallies.{octets_of}
use Rattle.capture_tally.proofs.tally.Tally.sum_with.Goals as goal

pub returns : goal.returns
returns c = λ answers others one two.
    let all : packets_in (answers ++ others) ≡ packets_in answers ++ packets_in others =
    c.packets_law.ensures.together answers others in
    record {
      captured = omega (arith, one.captured, two.captured, length-append answers others);
      accepted =
          omega (
            arith,
            one.accepted,
            two.accepted,
            ap (λ ps. length ps) all,
            length-append (packets_in answers)
                (packets_in others),
          );
      ignored = counts-together answers others _ _ one.ignored two.ignored;
      octets = omega
          (arith, one.octets, two.octets, ap octets_of all, octets-together (packets_in answers) (packets_in others));
      clock = subst (λ clock. IsClock (packets_in (answers ++ others)) clock) (sym c.later_of.ensures.later)
          (subst (λ ps. IsClock ps (later_clock c.args.self.clock c.args.other.now.clock)) (sym all)
          (c.clock_law.ensures.together (packets_in answers)
          (packets_in others) c.args.self.clock c.args.other.now.clock one.clock two.clock));
    }
