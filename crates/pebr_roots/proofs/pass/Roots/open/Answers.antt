use Rattle.std.proofs.Common.{sym, ap, subst}
use Rattle.pebr_core.specs.declared.kinds.Shape.{Shape}
use Rattle.pebr_words.specs.Seats.{AreOpened}
use Rattle.pebr_roots.proofs.pass.Roots.open.Goals as goal

pub deal-requires : goal.deal-requires
deal-requires g c = subst (λ n. AreOpened c.in_ok-words.words g.P.RootProtocol.first n c.in_ok-words.seats.items)
    (sym (ap (λ (s : Shape). s.seats) c.in_ok-words.ensures.words.0)) c.in_ok-words.ensures.seats
