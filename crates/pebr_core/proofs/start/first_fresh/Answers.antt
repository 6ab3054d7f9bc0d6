use Rattle.std.proofs.Common.{◌≡◌, ◌≢◌, ℕ, ◌<◌, ◌+◌, ◌*◌, ◌≤◌, Bool, true, false, ◌&&◌, List, length, set, ap, ◌∙◌}
use Rattle.std.proofs.Common.{arith, leb, ltb, length-set, add-mul, one-mul, mul-le-mul_right}
use Rattle.std.proofs.lemmas.Bool.Decides.{nat_tests}
use Rattle.std.proofs.lemmas.List.FromFn.{fill_by_all}
use Rattle.pebr_core.specs.State.{has, is_share_of, slot_count, slots_per_seat}
use Rattle.pebr_core.proofs.Marks.{set_at}
use Rattle.pebr_core.proofs.start.first_fresh.Goals as goal

-- one more slot of a range
range_more : (fresh : List Bool) (first slot k : ℕ) → first ≤ slot → slot < length fresh
    → has fresh k ≡ (leb first k && ltb k slot) → has (set fresh slot true) k ≡ (leb first k && ltb k (slot + 1))
range_more fresh first slot k low inside h =
    set_at (λ b. b ≡ (leb first k && ltb k (slot + 1))) fresh slot true false k inside
    (λ e. here e)
    (λ n. h ∙ there n)
  where
    here : k ≡ slot → true ≡ (leb first k && ltb k (slot + 1))
    here e = grind (arith, nat_tests)

    there : (k ≢ slot) → (leb first k && ltb k slot) ≡ (leb first k && ltb k (slot + 1))
    there n = grind (arith, nat_tests)

pub loop-slot-preserved : goal.loop-slot-preserved
loop-slot-preserved c =
    let shape = c.args.shape.now in
    let share = c.slots_per_seat-share.result in
    let known : share ≡ slots_per_seat shape = c.slots_per_seat-share.ensures in
    let fits : (c.args.seat + 1) * slots_per_seat shape ≤ shape.seats * slots_per_seat shape =
    mul-le-mul_right (slots_per_seat shape) (let lt = c.requires.seat in omega arith) in
    let split = add-mul c.args.seat 1 (slots_per_seat shape) in
    let one = one-mul (slots_per_seat shape) in
    let same : c.args.seat * share ≡ c.args.seat * slots_per_seat shape = ap (λ k. c.args.seat * k) known in
    let inside : c.loop-slot.slot < length c.loop-slot.fresh = omega (arith, c.loop-slot.invariant.0) in
    let first = shape.roots + c.args.seat * share in (
      ap length c.set.ensures ∙ (length-set c.loop-slot.fresh c.loop-slot.slot true ∙ c.loop-slot.invariant.0),
      λ k. ap (λ l. has l k) c.set.ensures ∙ range_more c.loop-slot.fresh first c.loop-slot.slot k c.loop-slot.auto.slot
          inside (c.loop-slot.invariant.1 k),
    )

pub returns : goal.returns
returns c =
    let shape = c.args.shape.now in
    let share = c.slots_per_seat-share.result in
    let known : share ≡ slots_per_seat shape = c.slots_per_seat-share.ensures in
    let first = shape.roots + c.args.seat * share in
    let end : c.loop-slot.slot ≡ first + share = omega (arith, c.loop-slot.auto.slot-end) in
    let low : first ≡ shape.roots + c.args.seat * slots_per_seat shape =
    ap (λ k. shape.roots + c.args.seat * k) known in
    let high : c.loop-slot.slot ≡ shape.roots + (c.args.seat + 1) * slots_per_seat shape =
    omega (arith, add-mul c.args.seat 1 (slots_per_seat shape), one-mul (slots_per_seat shape), low, known, end) in
    fill_by_all (is_share_of shape c.args.seat) c.loop-slot.fresh (slot_count shape) false c.loop-slot.invariant.0
    (λ k h. c.loop-slot.invariant.1 k
    ∙ (ap (λ n. leb n k && ltb k c.loop-slot.slot) low
    ∙ ap (λ n. leb (shape.roots + c.args.seat * slots_per_seat shape) k && ltb k n) high))
