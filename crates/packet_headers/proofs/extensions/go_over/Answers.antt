-- What lies behind a whole header gives what there was.
use Rattle.std.proofs.Common.{arith, sym}
use Rattle.packet_headers.proofs.Walk.{upper_part-later, upper_part-more}
use Rattle.packet_headers.proofs.extensions.go_over.Goals as goal

pub returns-then-is_later_fragment-clause-step : goal.returns-then-is_later_fragment-clause-step
returns-then-is_later_fragment-clause-step c =
    upper_part-later _ _ _ _ (sym c.if-not-is_extension.ensures) c.in_ok-length.ensures.whole
    (sym c.if-is_later_fragment.ensures)
    c.in_ok-length.ensures.value c.split_at.ensures.back

pub returns-clause-step : goal.returns-clause-step
returns-clause-step c = (
  upper_part-more _ _ _ _ (sym c.if-not-is_extension.ensures) c.in_ok-length.ensures.whole
      (sym c.if-is_later_fragment.ensures)
      c.in_ok-length.ensures.value c.split_at.ensures.back,
  omega (arith, c.in_ok-length.ensures.least, c.split_at.ensures.back_len, c.in_ok-length.ensures.inside),
)
