use Rattle.std.proofs.Common.{◌≡◌, ◌+◌, ◌<◌, ℕ, length, vec_len}
use Rattle.std.specs.Prelude.{All, flat_map}
use Rattle.work_pieces.specs.Dealing.{times}
use Rattle.work_pieces.specs.Passes.{HasEnded, IsPassOf, drawn_of, seats_of, nones_of}
use Rattle.work_pieces.proofs.pieces.Pieces.complete_all.Given as goal

abbrev pub invariant-loop-pass : goal.invariant-loop-pass
invariant-loop-pass l = record {
  left : All (HasEnded l.self) l.passes.items;
  own : IsPassOf l.self l.all;
  many : seats_of l.all + length l.passes.items ≡ length l.fn.passes.items;
  some : 0 < seats_of l.all;
  ended : 0 < nones_of l.all;
  once : (x : ℕ) → times x (flat_map drawn_of l.passes.items) + times x (drawn_of l.all)
      ≡ times x (flat_map drawn_of l.fn.passes.items);
}

abbrev pub decreases-loop-pass : goal.decreases-loop-pass
decreases-loop-pass l = vec_len l.passes
