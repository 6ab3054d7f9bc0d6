use Rattle.std.proofs.Common.{◌≡◌, ◌∷◌, ℕ, Bool, true, false, refl, sym, ap, ◌∙◌, subst}
use Rattle.std.specs.Prelude.{if◌then◌else◌}
use Rattle.pebr_core.specs.State.{Seat}
use Rattle.pebr_core.specs.declared.kinds.Shape.{Shape}
use Rattle.pebr_core.specs.declared.kinds.Answer.{Answer}
use Rattle.pebr_core.specs.declared.kinds.Step.TheVariants as step
use Rattle.pebr_core.specs.declared.kinds.Answer.TheVariants as answer
use Rattle.pebr_shields.specs.Found.{answer_to}
use Rattle.pebr_words.specs.Pasts.{History, past_after, is_ejected, with_lost, was_ejected}
use Rattle.pebr_roots.specs.Passes.{known_by_pass, number_by, past_by}
use Rattle.flow_cache.proofs.Tries.{checked_set}
use Rattle.flow_cache.specs.Collecting.{HasCollected}
use Rattle.flow_cache.proofs.Spared.{collected_on, spared_one, enter_spares, check_spares}
use Rattle.pebr_roots.specs.Passes.{shape_at, operations_by}
use Rattle.flow_cache.proofs.Sparing.{spared_on, entered_spares, checked_spares}
use Rattle.flow_cache.proofs.cache.PebrCache.reach.Goals as goal

-- a check makes no pin
either : (b : Bool) (one two : History) → one.pins ≡ two.pins → (if b then one else two).pins ≡ two.pins
either true one two same = same
either false one two same = refl

unpinned : (i : ℕ) (a : Answer) (seat : Seat) (past : History)
    → (past_after (step.Check i) a seat past).pins ≡ past.pins
unpinned i a seat past = either (is_ejected a) (with_lost was_ejected past) past
    (either past.has_lost past (record past { lost = was_ejected ∷ past.lost; has_lost = true }) refl)

pub returns-clause-pins : goal.returns-clause-pins
returns-clause-pins g c =
    let mid = c.load_set.new.pass in
    ap (λ (p : History). p.pins) c.check.ensures.step.past
    ∙ unpinned (number_by mid) (answer_to c.check.result) (known_by_pass mid) (past_by mid)
    ∙ ap (λ (p : History). p.pins) c.load_set.ensures.past ∙ ap (λ (p : History). p.pins) c.enter.ensures.past

pub returns-clause-valid : goal.returns-clause-valid
returns-clause-valid g c valid =
    let mid = c.load_set.new.pass in
    let end = c.check.new.pass in
    let past : past_by end ≡ past_after (step.Check (number_by mid)) answer.Valid (known_by_pass mid) (past_by mid) =
    subst (λ r. past_by end ≡ past_after (step.Check (number_by mid)) (answer_to r) (known_by_pass mid)
    (past_by mid)) valid
    c.check.ensures.step.past in (
      checked_set c.args.set (known_by_pass mid) (known_by_pass end) (past_by mid)
          (past_by end) c.load_set.ensures.loaded c.load_set.ensures.last (c.check.ensures.valid valid)
          (ap (λ (p : History). p.loads) past) (ap (λ (p : History). p.shown) past),
      (
        ap (λ (p : History). p.lost) past ∙ ap (λ (p : History). p.lost) c.load_set.ensures.past
            ∙ ap (λ (p : History). p.lost) c.enter.ensures.past,
        ap (λ (p : History). p.has_lost) past ∙ ap (λ (p : History). p.has_lost) c.load_set.ensures.past
            ∙ ap (λ (p : History). p.has_lost) c.enter.ensures.past,
      ),
    )

pub returns-clause-spared : goal.returns-clause-spared
returns-clause-spared g c =
    let start = past_by c.args.pass.now in
    let first = past_by c.enter.new.pass in
    let mid = past_by c.load_set.new.pass in
    let end = past_by c.check.new.pass in
    collected_on 0 0 start first end
    (subst (HasCollected 0 start) (sym c.enter.ensures.past) (enter_spares (number_by c.args.pass.now)
    (known_by_pass c.enter.new.pass).noted (known_by_pass c.args.pass.now) start))
    (collected_on 0 0 first mid end
    (spared_one first mid (ap (λ (p : History). p.notes) c.load_set.ensures.past)
    (ap (λ (p : History). p.pins) c.load_set.ensures.past))
    (subst (HasCollected 0 mid) (sym c.check.ensures.step.past)
    (check_spares (number_by c.load_set.new.pass) (answer_to c.check.result) (known_by_pass c.load_set.new.pass) mid)))

pub returns-clause-few : goal.returns-clause-few
returns-clause-few g c =
    let shape = shape_at c.args.self.now.roots in
    let four = ap (λ (s : Shape). s.shields) c.args.self.now.shaped in
    let me : ℕ = number_by c.args.pass.now in
    let x = operations_by c.args.pass.now in
    let a = operations_by c.enter.new.pass in
    let b = operations_by c.load_set.new.pass in
    let z = operations_by c.check.new.pass in
    let at_a : number_by c.enter.new.pass ≡ me = c.enter.ensures.same.still.1 in
    let at_b : number_by c.load_set.new.pass ≡ me = c.load_set.ensures.same.still.1 ∙ at_a in
    spared_on shape me 10 1 (number_by c.load_set.new.pass) x b z at_b
    (spared_on shape me 2 8 (number_by c.enter.new.pass) x a b at_a
    (entered_spares shape me four (known_by_pass c.enter.new.pass).noted x a c.requires.of.at.3
    c.enter.ensures.operations)
    c.load_set.ensures.few)
    (checked_spares shape (number_by c.load_set.new.pass) four c.check.ensures.step.made.0 b z
    c.load_set.ensures.same.of.at.3 c.check.ensures.step.made.2)
