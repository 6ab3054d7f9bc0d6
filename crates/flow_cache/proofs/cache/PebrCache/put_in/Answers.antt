use Rattle.std.proofs.Common.{rules, refl, [], ◌≡◌, ◌<◌, ◌+◌, ◌*◌, ◌∷◌, ◌∙◌, ℕ, Bool, true, false, Some, List, ap}
use Rattle.std.proofs.Common.{subst, arith}
use Rattle.std.specs.Prelude.{◌==◌, if◌then◌else◌}
use Rattle.std.proofs.lemmas.Grind.{common_steps}
use Rattle.std.proofs.lemmas.List.Elements.{All-cons, All-nil}
use Rattle.cache_face.specs.Notes.{Note, first_note, note_with}
use Rattle.pebr_words.specs.Pasts.{Lost}
use Rattle.pebr_roots.specs.Passes.{note_by, past_by}
use Rattle.flow_cache.specs.Shown.{IsTryOf}
use Rattle.flow_cache.proofs.Spared.{collected_on}
use Rattle.flow_cache.proofs.Tries.{go_on}
use Rattle.pebr_roots.specs.Passes.{shape_at, number_by, operations_by}
use Rattle.flow_cache.proofs.Sparing.{spared_none, spared_on, spared_in}
use Rattle.flow_cache.proofs.cache.PebrCache.put_in.Goals as goal

is_last : (n : ℕ) → n + 1 ≡ 3 → ((n + 1) == 3) ≡ true
is_last n e = grind (arith, common_steps)

not_last : (n : ℕ) → n + 1 < 3 → ((n + 1) == 3) ≡ false
not_last n e = grind (arith, common_steps)

pub loop-lost-init : goal.loop-lost-init
loop-lost-init g c = record {
  low = omega arith;
  same = search rules;
  out = c.requires.resting.0;
  down = c.requires.resting.1;
  fresh = refl;
  ejections = refl;
  none = c.requires.none;
  note = λ _. refl;
  passed = λ is. absurd (omega (arith, is));
  spared = omega arith;
  tries = record { tries = []; listed = refl; many = refl; each = All-nil (IsTryOf c.args.set) };
  few = spared_none _ _ _ _ refl;
}

pub loop-lost-preserved : goal.loop-lost-preserved
loop-lost-preserved g c =
    let before = c.loop-lost.invariant in
    let start = c.args.pass.now in
    let old = c.loop-lost.pass in
    let new = c.attempt.new.pass in
    let n : ℕ = c.loop-lost.lost in
    let shape = shape_at c.args.self.now.roots in
    let me : ℕ = number_by start in
    let low = c.loop-lost-test.true in
    let h = c.attempt.ensures.undone c.if-attempt.false in
    let passed : Note → Note = λ note. note_with note c.args.own.now (Some c.args.own.now) in
    let ended : Bool → Type 0 = λ b. note_by first_note new
    ≡ (if b then passed (note_by first_note old) else note_by first_note old) in
    record {
      low = omega (arith, low);
      same = go_on c.args.self.now.roots start old new before.same c.attempt.ensures.same;
      out = c.attempt.ensures.resting.0;
      down = c.attempt.ensures.resting.1;
      fresh = h.1 ∙ before.fresh;
      ejections = c.attempt.ensures.ejections ∙ before.ejections;
      none = c.attempt.ensures.untouched c.if-attempt.false;
      note = λ lt. subst ended (not_last n lt) h.0 ∙ before.note low;
      passed = λ is. (subst ended (is_last n is) h.0 ∙ ap passed (before.note low), h.2);
      spared = collected_on 0 0 (past_by start) (past_by old) (past_by new) before.spared c.attempt.ensures.spared;
      tries = record {
        tries = h.3.0 ∷ before.tries.tries;
        listed = h.3.1 ∙ ap (λ (l : List Lost). h.3.0 ∷ l) before.tries.listed;
        many = (let m = before.tries.many in omega (arith, m));
        each = All-cons (IsTryOf c.args.set) h.3.0 before.tries.tries h.3.2 before.tries.each;
      };
      few = spared_in shape me (67 * n + 67) (67 * (n + 1)) (operations_by start) (operations_by new) (omega arith)
          (spared_on shape me (67 * n) 67 (number_by old) (operations_by start) (operations_by old) (operations_by new)
          before.same.still.1 before.few c.attempt.ensures.few);
    }

pub returns-then-attempt-clause-few : goal.returns-then-attempt-clause-few
returns-then-attempt-clause-few g c =
    let n : ℕ = c.loop-lost.lost in
    let x = operations_by c.args.pass.now in
    let y = operations_by c.loop-lost.pass in
    let z = operations_by c.attempt.new.pass in
    let shape = shape_at c.args.self.now.roots in
    let me : ℕ = number_by c.args.pass.now in
    spared_in shape me (67 * n + 67) 201 x z (let t = c.loop-lost-test.true in omega (arith, t))
    (spared_on shape me (67 * n) 67 (number_by c.loop-lost.pass) x y z c.loop-lost.invariant.same.still.1
    c.loop-lost.invariant.few c.attempt.ensures.few)

pub returns-clause-few : goal.returns-clause-few
returns-clause-few g c =
    let before = c.loop-lost.invariant in
    spared_in (shape_at c.args.self.now.roots) (number_by c.args.pass.now) (67 * c.loop-lost.lost) 201
    (operations_by c.args.pass.now) (operations_by c.loop-lost.pass)
    (let low = before.low in omega (arith, low)) before.few
