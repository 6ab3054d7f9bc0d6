use Rattle.std.proofs.Common.{rules, refl, ◌≡◌, ◌≢◌, ◌+◌, ◌<◌, ◌∙◌, ◌∷◌, ℕ, List, Some, sym, ap, subst, arith}
use Rattle.std.specs.Prelude.{slice_index}
use mathlib.Core.Logic.{dite}
use native.Mathlib.Decide.{ℕ_discrete}
use Rattle.pebr_core.specs.State.{Seat}
use Rattle.pebr_core.specs.declared.kinds.Shape.{Shape}
use Rattle.pebr_slots.specs.Sets.{least_in}
use Rattle.pebr_words.specs.Pasts.{Read, History, written_at}
use Rattle.pebr_roots.specs.Passes.{shape_at, known_by_pass, number_by, past_by, operations_by}
use Rattle.flow_cache.proofs.Sparing.{spared_none, spared_in, spared_on, written_spares}
use Rattle.flow_cache.proofs.Histories.{word_here, word_else}
use Rattle.flow_cache.proofs.Tries.{go_on}
use Rattle.flow_cache.proofs.cache.PebrCache.fill.Goals as goal

-- the words as far as they were written, with the next one
next_written : (writes : List Read) (slot word : ℕ) (words : List ℕ)
    → ((k : ℕ) → k < word → written_at writes slot k ≡ Some (slice_index words k))
    → (k : ℕ) → k < word + 1
    → written_at (record { slot = slot; word = word; value = slice_index words word } ∷ writes) slot k
    ≡ Some (slice_index words k)
next_written writes slot word words before k lt = dite (ℕ_discrete k word)
    (λ (same : k ≡ word). subst (λ n. written_at (record { slot = slot; word = word; value = slice_index words word }
    ∷ writes) slot n ≡ Some (slice_index words n)) (sym same) (word_here writes slot word (slice_index words word)))
    (λ (apart : k ≢ word). word_else writes slot word (slice_index words word) k (λ e. apart (sym e))
    ∙ before k (omega (arith, lt, apart)))

pub loop-word-init : goal.loop-word-init
loop-word-init c = record {
  low = omega arith;
  same = search rules;
  note = refl;
  known = refl;
  past = refl;
  written = λ k lt. absurd (omega (arith, lt));
  few = spared_none _ _ _ _ refl;
}

pub loop-word-preserved : goal.loop-word-preserved
loop-word-preserved c =
    let before = c.loop-word.invariant in
    let start = c.args.pass.now in
    let old = c.loop-word.pass in
    let new = c.write_fresh.new.pass in
    let shape = shape_at c.args.self.now.roots in
    let word : ℕ = c.loop-word.word in
    let words : List ℕ = c.args.words.now in
    let fresh : ℕ = least_in (known_by_pass start).fresh in
    let fresh_is : least_in (known_by_pass old).fresh ≡ fresh = ap (λ (s : Seat). least_in s.fresh) before.known in
    let is = c.write_fresh.ensures.step.past in
    let rest : History → History =
    λ p. record p { last = (past_by new).last; steps = (past_by new).steps; written = (past_by new).written } in
    let written : (past_by new).written ≡ record { slot = fresh; word = word; value = slice_index words word }
    ∷ (past_by old).written
    = ap (λ (p : History). p.written) is
    ∙ ap (λ n. record { slot = n; word = word; value = slice_index words word } ∷ (past_by old).written) fresh_is in
    record {
      low = omega (arith, c.loop-word-test.true);
      same = go_on c.args.self.now.roots start old new before.same c.write_fresh.ensures.same;
      note = c.write_fresh.ensures.note ∙ before.note;
      known = c.write_fresh.ensures.known ∙ before.known;
      past = ap rest is ∙ ap rest before.past;
      written = λ k lt. subst (λ ws. written_at ws fresh k ≡ Some (slice_index words k)) (sym written)
          (next_written (past_by old).written fresh word words before.written k lt);
      few = spared_on shape (number_by start) word 1 (number_by old) (operations_by start) (operations_by old)
          (operations_by new) before.same.still.1 before.few
          (written_spares shape (number_by old) (ap (λ (s : Shape). s.shields) c.args.self.now.shaped)
          (least_in (known_by_pass old).fresh) word (slice_index words word) (operations_by old) (operations_by new)
          c.write_fresh.ensures.step.made.2);
    }

pub returns-clause-few : goal.returns-clause-few
returns-clause-few c =
    let before = c.loop-word.invariant in
    spared_in (shape_at c.args.self.now.roots) (number_by c.args.pass.now) c.loop-word.word 10
    (operations_by c.args.pass.now) (operations_by c.loop-word.pass) before.low before.few
