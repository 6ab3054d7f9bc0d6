use Rattle.std.proofs.Common.{rules, arith, ◌≡◌, ◌+◌, ◌-◌, ap}
use Rattle.work_pieces.specs.Dealing.{Sat}
use Rattle.work_pieces.proofs.Drawing.{cuts}
use Rattle.work_pieces.proofs.pieces.Pieces.deal.Goals as goal

pub split_seat-other-requires : goal.split_seat-other-requires
split_seat-other-requires c =
    let e : c.loop-i.seat.me.0.seats ≡ c.args.seats + 1 - c.loop-i._i =
    ap (λ (m : Sat). m.0.seats) c.loop-i.invariant.me in (
      search rules,
      search rules,
      cuts _ _ c.loop-i.seat.me.0 (omega (arith, e, c.loop-i-test.true))
          (ap (λ (m : Sat). m.0.done) c.loop-i.invariant.me),
    )
