use Rattle.std.proofs.Common.{◌≡◌, ◌++◌, map, vec_len}
use Rattle.std.specs.Prelude.{◌≢◌, All}
use Rattle.work_pieces.specs.declared.worker.WorkState.TheVariants.{Finished, Going}
use Rattle.work_pieces.proofs.worker.unseat_workers.Given as goal

abbrev pub invariant-loop-worker : goal.invariant-loop-worker
invariant-loop-worker g l = record {
  ended : All (λ w. w.state ≢ Going) l.workers.items;
  shares : map (λ w. w.share) l.workers.items ++ l.shares.items ≡ map (λ w. w.share) l.initial.workers.items;
  seats : map (λ w. w.seat) l.workers.items ++ l.seats.items ≡ map (λ w. w.seat) l.initial.workers.items;
  finished : All (λ w. w.state ≡ Finished) l.workers.items → All (λ w. w.state ≡ Finished) l.initial.workers.items;
}

abbrev pub decreases-loop-worker : goal.decreases-loop-worker
decreases-loop-worker g l = vec_len l.workers
