use Rattle.std.proofs.Common.{◌≡◌, ◌≢◌, ℕ, ◌+◌, ◌<◌, refl, sym, subst, ap, ◌∙◌, arith}
use Rattle.std.specs.List.{list_all, range_with_len}
use Rattle.std.proofs.lemmas.List.{get_or-set_other}
use mathlib.Core.Logic.{dite}
use native.Mathlib.Decide.{ℕ_discrete}
use Rattle.pebr_core.specs.declared.kinds.ShieldAt.TheVariants as shield
use Rattle.pebr_core.specs.declared.kinds.Answer.TheVariants as answer
use Rattle.pebr_core.specs.State.{Seat, is_down, shield_at}
use Rattle.pebr_core.specs.Kept.{held_count}
use Rattle.pebr_words.specs.Pasts.{History}
use Rattle.pebr_words.specs.Seats.{known_of, operations_of}
use Rattle.pebr_roots.specs.Orders.{AreMade, HasClearedOne}
use Rattle.pebr_roots.specs.Passes.{known_by_pass, past_by, number_by, operations_by, shape_at}
use Rattle.pebr_roots.proofs.Passing.{all_down, down_all}
use Rattle.pebr_roots.proofs.Orders.{below_more}
use Rattle.pebr_roots.proofs.Counts.{cleared_few}
use Rattle.pebr_roots.proofs.pass.Roots.clear.Goals as goal

pub returns-clause-known : goal.returns-clause-known
returns-clause-known g c =
    let before = c.loop-place.invariant in
    let pass = c.loop-place.pass in
    let shields = (shape_at c.args.self.now).shields in
    let all : (place : ℕ) → place < shields → shield_at (known_by_pass pass) place ≡ shield.Down =
    λ place lt. before.down place (let a = before.all in let e = c.loop-place-test.false in omega (arith, a, e, lt)) in
    before.known ∙ ap (λ l. record (known_by_pass c.args.pass.now) { shields = l })
    (all_down (known_by_pass pass).shields shields before.same.of.at.6.shields all)

pub returns-clause-down : goal.returns-clause-down
returns-clause-down g c = ap (λ (s : Seat). list_all is_down s.shields) (returns-clause-known g c)
    ∙ down_all (shape_at c.args.self.now).shields

pub loop-place-preserved : goal.loop-place-preserved
loop-place-preserved g c =
    let before = c.loop-place.invariant in
    let first = c.args.pass.now in
    let cur = c.loop-place.pass in
    let new = c.unshield.new.seat in
    let place = c.loop-place.place in
    let shape = shape_at c.args.self.now in
    let told = c.unshield.ensures in
    let still = told.still in
    let is = told.step.past in
    record {
      all = before.all;
      low = omega (arith, c.loop-place-test.true);
      same = record {
        of = record {
          at = still.0;
          held = ap held_count told.known ∙ before.same.of.held;
          starts = before.same.of.starts;
        };
        still = (
          still.0,
          still.1 ∙ before.same.still.1,
          still.2 ∙ before.same.still.2,
          still.3 ∙ before.same.still.3,
          still.4
              ∙ before.same.still.4,
        );
      };
      note = told.note ∙ before.note;
      known =
          subst (λ (y : Seat). y ≡ record (known_by_pass cur) { shields = y.shields }) (sym told.known) refl
          ∙ ap (λ (s : Seat). record s { shields = (known_of new).shields }) before.known;
      down = λ k lt. dite (ℕ_discrete k place)
          (λ (here : k ≡ place). subst (λ n. shield_at (known_of new) n ≡ shield.Down) (sym here) told.down)
          (λ (apart : k ≢ place). ap (λ (s : Seat). shield_at s k) told.known
          ∙ (get_or-set_other (known_by_pass cur).shields place k shield.Down shield.Down apart
          ∙ before.down k (omega (arith, lt, apart))));
      past =
          is
          ∙ (ap (λ (p : History). record p { last = answer.Cleared; steps = p.steps + 1 }) before.past
          ∙ (ap (λ n. record (past_by first) { last = answer.Cleared; steps = n })
          (let e : (past_by first).steps + place + 1 ≡ (past_by first).steps + (place + 1) = omega arith in e)
          ∙ ap (λ a. record (past_by first) { last = a; steps = (past_by first).steps + (place + 1) })
          (sym (ap (λ (p : History). p.last) is))));
      operations = below_more (HasClearedOne shape (number_by first)) place (operations_by first) (operations_by cur)
          (operations_of new) before.operations
          (subst (λ n. HasClearedOne shape n place (operations_by cur) (operations_of new)) before.same.still.1
          told.step.made.2);
      last = λ _. ap (λ (p : History). p.last) is;
      sure = λ _. told.step.sure;
    }

pub returns-clause-few : goal.returns-clause-few
returns-clause-few g c =
    let before = c.loop-place.invariant in
    let shape = shape_at c.args.self.now in
    let me = number_by c.args.pass.now in
    let x = operations_by c.args.pass.now in
    let y = operations_by c.loop-place.pass in
    let whole : c.loop-place.place ≡ shape.shields =
    (let a = before.all in let l = before.low in let t = c.loop-place-test.false in omega (arith, a, l, t)) in
    cleared_few shape me x y
    (subst (λ n. AreMade (HasClearedOne shape me) (range_with_len 0 n) x y) whole before.operations)
