use Rattle.std.proofs.Common.{get_or, subst, arith}
use Rattle.pebr_words.specs.Seats.{IsOpenedSeat}
use Rattle.trial_pebr.proofs.tests.seats.two.Goals as goal

pub returns-clause-first : goal.returns-clause-first
returns-clause-first c = subst (λ l. IsOpenedSeat c.in_ok-words.words tt 0 (get_or l 0 c.in_ok-first.first))
    c.in_ok-first.ensures (c.in_ok-words.ensures.seats.1 0 c.in_ok-first.first (omega arith))

pub returns-clause-second : goal.returns-clause-second
returns-clause-second c = subst (λ l. IsOpenedSeat c.in_ok-words.words tt 1 (get_or l 1 c.in_ok-first.second))
    c.in_ok-first.ensures (c.in_ok-words.ensures.seats.1 1 c.in_ok-first.second (omega arith))
