-- A call changes the item at its place alone.
use borrow.Author.Count.{below_more}
use mathlib.Core.Path.{sym, subst, ◌∙◌}
use Prim.Native.Nat.{ℕ, ◌+◌, ◌<◌}
use native.Mathlib.Omega.{arith}
use lib.ListN.{length, get_or, set}
use Rattle.std.proofs.lemmas.List.{get_or-set_same, get_or-set_other, get_or_default}
use Rattle.std.specs.Fork.{ChangesAt}
use Rattle.side_by_side.proofs.shares.in_turn.Goals as goal

pub loop-offset-preserved : goal.loop-offset-preserved
loop-offset-preserved g c =
    let k = c.loop-offset.offset in let xs = c.args.items.now in let ys = c.loop-offset.items in let y = c.at_one.new.item in
    let R : ℕ → g.row.T.Denot → g.row.T.Denot → Type 0 = λ j. ChangesAt g.F.Fn c.args.f.now (c.args.base + j) in
    let l : k < length ys = omega arith in (
      λ j d h. get_or-set_other ys k j y d (λ e. omega arith) ∙ c.loop-offset.invariant.0 j d (omega arith),
      λ j d h. below_more (λ i. R i (get_or xs i d) (get_or (set ys k y) i d)) k
          (λ i u. subst (R i (get_or xs i d)) (sym (get_or-set_other ys k i y d (λ e. omega arith))) (c.loop-offset.invariant.1 i d u))
          (subst (R k (get_or xs k d)) (sym (get_or-set_same ys k y d l))
          (subst (λ x. R k x y) (get_or_default ys k _ d l ∙ c.loop-offset.invariant.0 k d (omega arith)) c.at_one.ensures))
          j h,
    )
