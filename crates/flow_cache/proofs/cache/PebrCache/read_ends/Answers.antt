use Rattle.std.proofs.Common.{rules, ◌≡◌, ◌≢◌, ◌+◌, ◌*◌, ◌<◌, ◌∙◌, ◌∷◌, ℕ, List, Some, length, set, refl, sym, ap}
use Rattle.std.proofs.Common.{subst, arith}
use Rattle.std.specs.Prelude.{slice_index}
use Rattle.std.proofs.lemmas.List.{length-set, get_or-set_same, get_or-set_other}
use mathlib.Core.Logic.{dite}
use native.Mathlib.Decide.{ℕ_discrete}
use Rattle.pebr_core.specs.State.{Seat}
use Rattle.pebr_core.specs.declared.kinds.Shape.{Shape}
use Rattle.pebr_words.specs.Pasts.{Read, History, written_at}
use Rattle.pebr_roots.specs.Under.{slot_at}
use Rattle.pebr_roots.specs.Passes.{shape_at, known_by_pass, past_by, number_by, operations_by}
use Rattle.flow_cache.specs.Collecting.{HasSpared}
use Rattle.flow_cache.specs.Trying.{HasMore}
use Rattle.flow_cache.proofs.Histories.{word_here, read_more, more_more}
use Rattle.flow_cache.proofs.Tries.{go_on}
use Rattle.flow_cache.proofs.Sparing.{spared_none, spared_in, spared_on, read_spares}
use Rattle.flow_cache.proofs.cache.PebrCache.read_ends.Goals as goal

-- what was read of a word of each slot so far is so still, with what was read of the next slot
next_slot : (old reads : List Read) (slot : ℕ → ℕ) (word place value : ℕ) (values : List ℕ) → place < length values
    → HasMore old reads → written_at reads (slot place) word ≡ Some value
    → ((k : ℕ) → k < place → written_at old (slot k) word ≡ Some (slice_index values k))
    → (k : ℕ) → k < place + 1 → written_at reads (slot k) word ≡ Some (slice_index (set values place value) k)
next_slot old reads slot word place value values low more here before k lt = dite (ℕ_discrete k place)
    (λ (same : k ≡ place). subst (λ n. written_at reads (slot n) word ≡ Some (slice_index (set values place value) n))
    (sym same) (here ∙ ap (λ n. Some n) (sym (get_or-set_same values place value 0 low))))
    (λ (apart : k ≢ place). more (slot k) word (slice_index values k) (before k (omega (arith, lt, apart)))
    ∙ ap (λ n. Some n) (sym (get_or-set_other values place k value 0 apart)))

pub loop-place-init : goal.loop-place-init
loop-place-init c = record {
  low = omega arith;
  long = search rules;
  long' = search rules;
  same = search rules;
  note = refl;
  known = refl;
  past = refl;
  more = λ slot word value is. is;
  firsts = λ k lt. absurd (omega (arith, lt));
  lasts = λ k lt. absurd (omega (arith, lt));
  few = spared_none _ _ _ _ refl;
}

pub loop-place-preserved : goal.loop-place-preserved
loop-place-preserved c =
    let before = c.loop-place.invariant in
    let old = c.loop-place.pass in
    let f = c.read in let l = c.read-in-loop-place in
    let mid = f.new.pass in let new = l.new.pass in
    let roots = c.args.self.now.roots in
    let shape = shape_at roots in
    let me : ℕ = number_by c.args.pass.now in
    let first = operations_by c.args.pass.now in
    let place : ℕ = c.loop-place.place in
    let slot : ℕ → ℕ = λ k. slot_at (known_by_pass c.args.pass.now) k in
    let at_f : slot_at (known_by_pass old) place ≡ slot place = ap (λ (s : Seat). slot_at s place) before.known in
    let known : known_by_pass mid ≡ known_by_pass c.args.pass.now = f.ensures.known ∙ before.known in
    let at_l : slot_at (known_by_pass mid) place ≡ slot place = ap (λ (s : Seat). slot_at s place) known in
    let reads : List Read = record { slot = slot place; word = 0; value = f.result } ∷ (past_by old).reads in
    let reads' : List Read = record { slot = slot place; word = 9; value = l.result } ∷ (past_by mid).reads in
    let reads_f : (past_by mid).reads ≡ reads = ap (λ (p : History). p.reads) f.ensures.step.past
    ∙ ap (λ n. record { slot = n; word = 0; value = f.result } ∷ (past_by old).reads) at_f in
    let reads_l : (past_by new).reads ≡ reads' = ap (λ (p : History). p.reads) l.ensures.step.past
    ∙ ap (λ n. record { slot = n; word = 9; value = l.result } ∷ (past_by mid).reads) at_l in
    let again_f : (read : Read) → _ → read.slot ≡ slot place → read.word ≡ 0 → f.result ≡ read.value =
    λ read at s w. f.ensures.again read at (s ∙ sym at_f) w in
    let again_l : (read : Read) → _ → read.slot ≡ slot place → read.word ≡ 9 → l.result ≡ read.value =
    λ read at s w. l.ensures.again read at (s ∙ sym at_l) w in
    let more_f : HasMore (past_by old).reads (past_by mid).reads = subst (HasMore (past_by old).reads) (sym reads_f)
    (read_more (past_by old).reads (slot place) 0 f.result again_f) in
    let more_l : HasMore (past_by mid).reads (past_by new).reads = subst (HasMore (past_by mid).reads) (sym reads_l)
    (read_more (past_by mid).reads (slot place) 9 l.result again_l) in
    let more : HasMore (past_by old).reads (past_by new).reads =
    more_more (past_by old).reads (past_by mid).reads (past_by new).reads more_f more_l in
    let here_f : written_at (past_by new).reads (slot place) 0 ≡ Some f.result =
    more_l (slot place) 0 f.result (ap (λ rs. written_at rs (slot place) 0) reads_f
    ∙ word_here (past_by old).reads (slot place) 0 f.result) in
    let here_l : written_at (past_by new).reads (slot place) 9 ≡ Some l.result =
    ap (λ rs. written_at rs (slot place) 9) reads_l ∙ word_here (past_by mid).reads (slot place) 9 l.result in
    let rest : History → History =
    λ p. record p { last = (past_by new).last; steps = (past_by new).steps; reads = (past_by new).reads } in
    let low_f : place < length c.loop-place.firsts =
    (let long = before.long in omega (arith, long, c.loop-place-test.true)) in
    let low_l : place < length c.loop-place.lasts =
    (let long = before.long' in omega (arith, long, c.loop-place-test.true)) in
    let same_f = go_on roots c.args.pass.now old mid before.same f.ensures.same in
    let four : shape.shields ≡ 4 = ap (λ (s : Shape). s.shields) c.args.self.now.shaped in
    let two : 2 * (place + 1) ≡ 2 * place + 1 + 1 = omega arith in
    record {
      low = omega (arith, c.loop-place-test.true);
      long = length-set c.loop-place.firsts place f.result ∙ before.long;
      long' = length-set c.loop-place.lasts place l.result ∙ before.long';
      same = go_on roots c.args.pass.now mid new same_f l.ensures.same;
      note = l.ensures.note ∙ f.ensures.note ∙ before.note;
      known = l.ensures.known ∙ known;
      past = ap rest l.ensures.step.past ∙ ap rest f.ensures.step.past ∙ ap rest before.past;
      more = more_more (past_by c.args.pass.now).reads (past_by old).reads (past_by new).reads before.more more;
      firsts = next_slot (past_by old).reads (past_by new).reads slot 0 place f.result c.loop-place.firsts low_f more
          here_f before.firsts;
      lasts = next_slot (past_by old).reads (past_by new).reads slot 9 place l.result c.loop-place.lasts low_l more
          here_l before.lasts;
      few = subst (λ n. HasSpared shape me n first (operations_by new)) (sym two)
          (spared_on shape me (2 * place + 1) 1 (number_by mid) first (operations_by mid) (operations_by new)
          same_f.still.1
          (spared_on shape me (2 * place) 1 (number_by old) first (operations_by old) (operations_by mid)
          before.same.still.1 before.few
          (read_spares shape (number_by old) four (slot_at (known_by_pass old) place) 0 f.ensures.step.made.0
          (operations_by old) (operations_by mid) f.ensures.step.made.2))
          (read_spares shape (number_by mid) four (slot_at (known_by_pass mid) place) 9 l.ensures.step.made.0
          (operations_by mid) (operations_by new) l.ensures.step.made.2));
    }

pub returns-clause-few : goal.returns-clause-few
returns-clause-few c = spared_in (shape_at c.args.self.now.roots) (number_by c.args.pass.now) (2 * c.loop-place.place) 8
    (operations_by c.args.pass.now) (operations_by c.loop-place.pass)
    (let l = c.loop-place.invariant.low in omega (arith, l)) c.loop-place.invariant.few
