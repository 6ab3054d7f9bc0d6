use Rattle.std.proofs.Common.{rules, ◌≡◌, true, ◌+◌, ◌*◌, ◌∙◌, ℕ, refl, sym, ap, subst, arith}
use Rattle.pebr_core.specs.declared.kinds.ShieldAt.TheVariants as shield
use Rattle.pebr_core.specs.State.{Seat, has, is_out, shield_at}
use Rattle.pebr_core.specs.declared.kinds.Shape.{Shape}
use Rattle.pebr_words.specs.Pasts.{History}
use Rattle.pebr_roots.specs.Passes.{shape_at, known_by_pass, number_by, past_by, operations_by}
use Rattle.pebr_roots.specs.Ends.{loaded_seat}
use Rattle.flow_cache.specs.Places.{root_of}
use Rattle.flow_cache.specs.Reading.{set_read}
use Rattle.flow_cache.specs.Trying.{AreLoaded}
use Rattle.flow_cache.proofs.Loading.{loaded_more, set_is}
use Rattle.flow_cache.proofs.Sparing.{spared_none, spared_in, spared_on, loaded_spares}
use Rattle.flow_cache.proofs.Tries.{go_on}
use Rattle.flow_cache.proofs.cache.PebrCache.load_set.Goals as goal

pub loop-place-init : goal.loop-place-init
loop-place-init c = record {
  low = omega arith;
  same = search rules;
  note = refl;
  entered = c.requires.entered;
  known = refl;
  past = refl;
  loaded = λ place lt. absurd (omega (arith, lt));
  last = λ lt. absurd (omega (arith, lt));
  few = spared_none _ _ _ _ refl;
}

pub loop-place-preserved : goal.loop-place-preserved
loop-place-preserved c =
    let before = c.loop-place.invariant in
    let start = c.args.pass.now in
    let old = c.loop-place.pass in
    let new = c.load.new.pass in
    let place : ℕ = c.loop-place.place in
    let k = known_by_pass new in
    let p = past_by new in
    let shape = shape_at c.args.self.now.roots in
    let four = ap (λ (s : Shape). s.shields) c.args.self.now.shaped in
    record {
      low = omega (arith, c.loop-place-test.true);
      same = go_on c.args.self.now.roots start old new before.same c.load.ensures.same;
      note = c.load.ensures.note ∙ before.note;
      entered = ap (λ (s : Seat). is_out s.status) c.load.ensures.known ∙ before.entered;
      known =
          subst (λ (y : Seat). y ≡ record (known_by_pass old) { seen = y.seen; shields = y.shields })
          (sym c.load.ensures.known) refl
          ∙ ap (λ (s : Seat). record s { seen = k.seen; shields = k.shields }) before.known;
      past =
          subst (λ (y : History). y ≡ record (past_by old) {
            last = y.last;
            steps = y.steps;
            loads = y.loads;
            reads = y.reads;
            shown = y.shown;
          }) (sym c.load.ensures.past)
          refl
          ∙ ap (λ (y : History). record y {
            last = p.last;
            steps = p.steps;
            loads = p.loads;
            reads = p.reads;
            shown = p.shown;
          }) before.past;
      loaded = subst (λ (s : Seat). AreLoaded c.args.set (place + 1) s p) (sym c.load.ensures.known)
          (subst (λ (y : History). AreLoaded c.args.set (place + 1)
          (loaded_seat place c.load.result (known_by_pass old)) y)
          (sym c.load.ensures.past)
          (loaded_more c.args.set place c.load.result (number_by old) (known_by_pass old) (past_by old)
          (subst (λ (s : Seat). shield_at s place ≡ shield.Set c.load.result) c.load.ensures.known c.load.ensures.set)
          (subst (λ (s : Seat). has s.seen c.load.result ≡ true) c.load.ensures.known c.load.ensures.seen)
          before.loaded));
      last = λ _. ap (λ (y : History). set_read y.loads) c.load.ensures.past
          ∙ set_is c.args.set place c.loop-place-test.true;
      few = spared_in shape (number_by start) (2 * place + 2) (2 * (place + 1)) (operations_by start)
          (operations_by new) (omega arith)
          (spared_on shape (number_by start) (2 * place) 2 (number_by old) (operations_by start) (operations_by old)
          (operations_by new) before.same.still.1 before.few
          (loaded_spares shape (number_by old) four (root_of c.args.set place) place c.load.result (operations_by old)
          (operations_by new) c.loop-place-test.true c.load.ensures.operations));
    }

pub returns-clause-few : goal.returns-clause-few
returns-clause-few c =
    let before = c.loop-place.invariant in
    spared_in (shape_at c.args.self.now.roots) (number_by c.args.pass.now) (2 * c.loop-place.place) 8
    (operations_by c.args.pass.now) (operations_by c.loop-place.pass)
    (let low = before.low in omega (arith, low)) before.few
