-- The items before the place that is next are changed, the others not yet.
use Prim.Native.Nat.{ℕ, ◌+◌, ◌<◌, ◌≤◌}
use mathlib.Core.Path.{◌≡◌}
use lib.ListN.{get_or}
use Rattle.std.specs.Fork.{ChangesAt}
use Rattle.side_by_side.proofs.shares.in_turn.Given as goal

abbrev pub invariant-loop-offset : goal.invariant-loop-offset
invariant-loop-offset g l =
    ((j : ℕ) (d : g.row.T.Denot) → l.offset ≤ j → get_or l.items j d ≡ get_or l.initial.items j d)
    × ((j : ℕ) (d : g.row.T.Denot) → j < l.offset → ChangesAt g.F.Fn l.f (l.base + j) (get_or l.initial.items j d) (get_or l.items j d))
