use Rattle.std.proofs.Common.{◌≡◌, ◌++◌, length, map, vec_len}
use Rattle.work_pieces.proofs.worker.seat_workers.Given as goal

abbrev pub invariant-loop-share : goal.invariant-loop-share
invariant-loop-share g l = record {
  same : length l.shares.items ≡ length l.seats.items;
  shares : l.shares.items ++ map (λ w. w.share) l.workers.items ≡ l.initial.shares.items;
  seats : l.seats.items ++ map (λ w. w.seat) l.workers.items ≡ l.initial.seats.items;
}

abbrev pub decreases-loop-share : goal.decreases-loop-share
decreases-loop-share g l = vec_len l.shares
