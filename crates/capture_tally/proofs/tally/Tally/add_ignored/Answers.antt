use Rattle.std.proofs.Common.{◌≡◌, ◌++◌, ◌∷◌, [], Err, sym, ap, ◌∙◌, subst, arith, append-nil, length}
use Rattle.std.proofs.lemmas.List.{length-append}
use Rattle.packet_accept.specs.Packets.{packets_in}
use Rattle.packet_accept.specs.Clock.{IsClock}
use Rattle.capture_tally.proofs.Counting.{counts-ignored}
use Rattle.capture_tally.specs.Tallies.{octets_of}
use Rattle.capture_tally.proofs.tally.Tally.add_ignored.Goals as goal

pub returns : goal.returns
returns c = λ answers is.
    let none : packets_in (answers ++ Err c.args.cause ∷ []) ≡ packets_in answers =
    c.packets_law.ensures.together answers (Err c.args.cause ∷ []) ∙ append-nil (packets_in answers) in
    record {
      captured = omega (arith, is.captured, length-append answers (Err c.args.cause ∷ []));
      accepted = is.accepted ∙ ap (λ ps. length ps) (sym none);
      ignored = counts-ignored answers c.args.cause c.place_of-place.result c.args.self.now.ignored
          c.place_of-place.ensures.value is.ignored;
      octets = is.octets ∙ ap octets_of (sym none);
      clock = subst (λ ps. IsClock ps c.args.self.now.clock) (sym none) is.clock;
    }
