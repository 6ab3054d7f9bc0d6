-- The share and the items behind it are the items.
use Prim.Native.Nat.{◌+◌}
use native.Mathlib.Omega.{arith}
use Rattle.side_by_side.proofs.Joined.{accepts_high, changes_both}
use Rattle.side_by_side.proofs.shares.+shares.Goals as goal

pub start_shares-share_both-requires-clause-high : goal.start_shares-share_both-requires-clause-high
start_shares-share_both-requires-clause-high g t c κs within =
    let cut = c.split_at_mut-low in
    accepts_high g.F.Fn c.args.f.now c.args.base (c.args.base + c.share_of-share.result) c.args.items.now cut.result.0.now cut.result.1.now
    cut.ensures.value (omega (arith, cut.ensures.front_len)) c.requires.accepts

pub start_shares-returns-then-not-is_empty : goal.start_shares-returns-then-not-is_empty
start_shares-returns-then-not-is_empty g t c =
    let cut = c.split_at_mut-low.ensures in let both = c.share_both.ensures in
    changes_both g.F.Fn c.args.f.now c.args.base (c.args.base + c.share_of-share.result) _ _ _ _ _ cut.value (omega (arith, cut.front_len)) both.low both.high
