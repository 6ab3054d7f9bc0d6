use Rattle.std.proofs.Common.{rules, ◌≡◌, ◌≢◌, ◌+◌, ◌-◌, ◌<◌, ◌≤◌, ◌∙◌, [], ◌∷◌, ℕ, suc, List, Some, length, set, refl}
use Rattle.std.proofs.Common.{sym, ap, subst, arith}
use Rattle.std.specs.Prelude.{slice_index}
use Rattle.std.proofs.lemmas.List.{length-set, get_or-set_same, get_or-set_other}
use mathlib.Core.Logic.{dite}
use native.Mathlib.Decide.{ℕ_discrete, dec_le}
use Rattle.cache_face.specs.Keeping.{entry_of}
use Rattle.pebr_core.specs.State.{Seat}
use Rattle.pebr_core.specs.declared.kinds.Shape.{Shape}
use Rattle.pebr_words.specs.Pasts.{Read, History, written_at}
use Rattle.pebr_words.specs.Ruled.{HasReadWhole}
use Rattle.pebr_roots.specs.Under.{slot_at}
use Rattle.pebr_roots.specs.Passes.{shape_at, known_by_pass, past_by}
use Rattle.flow_cache.specs.Reading.{words_read}
use Rattle.flow_cache.specs.Collecting.{HasSpared}
use Rattle.flow_cache.specs.Trying.{HasMore}
use Rattle.flow_cache.proofs.Histories.{word_here, word_else, read_more, more_more, found_read}
use Rattle.flow_cache.proofs.Sets.{has_ten, words_are}
use Rattle.flow_cache.proofs.Tries.{go_on}
use Rattle.pebr_roots.specs.Passes.{number_by, operations_by}
use Rattle.flow_cache.proofs.Sparing.{spared_none, spared_in, spared_on, read_spares}
use Rattle.flow_cache.proofs.cache.PebrCache.read_words.Goals as goal

-- the words as far as they were read, with the next one
next_word : (reads : List Read) (slot word value : ℕ) (words : List ℕ) → word < length words
    → ((k : ℕ) → k < word → written_at reads slot k ≡ Some (slice_index words k))
    → (k : ℕ) → k < word + 1 → written_at (record { slot = slot; word = word; value = value } ∷ reads) slot k
    ≡ Some (slice_index (set words word value) k)
next_word reads slot word value words low before k lt = dite (ℕ_discrete k word)
    (λ (same : k ≡ word). subst (λ n. written_at (record { slot = slot; word = word; value = value } ∷ reads) slot n
    ≡ Some (slice_index (set words word value) n)) (sym same)
    (word_here reads slot word value ∙ ap (λ n. Some n) (sym (get_or-set_same words word value 0 low))))
    (λ (apart : k ≢ word). word_else reads slot word value k (λ e. apart (sym e)) ∙ before k (omega (arith, lt, apart))
    ∙ ap (λ n. Some n) (sym (get_or-set_other words word k value 0 apart)))

none_before : {n : ℕ} → n ≡ 0 → 0 ≡ n
none_before e = sym e

self_less : (n : ℕ) → n - n ≡ 0
self_less n = omega arith

pub loop-word-init : goal.loop-word-init
loop-word-init c = record {
  high = omega arith;
  low = (let l = c.requires.range.0 in omega (arith, l));
  long = search rules;
  same = search rules;
  note = refl;
  known = refl;
  past = refl;
  grown = λ none all. ([], refl, none_before none, λ k lt. absurd (omega (arith, none, lt)));
  more = λ slot word value is. is;
  read = c.requires.before;
  behind = c.requires.behind;
  whole = λ some. absurd (omega (arith, some));
  few = subst (λ n. HasSpared (shape_at c.args.self.now.roots) (number_by c.args.pass.now) n
      (operations_by c.args.pass.now) (operations_by c.args.pass.now)) (sym (self_less c.args.from))
      (spared_none _ _ _ _ refl);
}

pub loop-word-preserved : goal.loop-word-preserved
loop-word-preserved c =
    let before = c.loop-word.invariant in
    let old = c.loop-word.pass in
    let new = c.read.new.pass in
    let roots = c.args.self.now.roots in
    let place = c.args.place in
    let word : ℕ = c.loop-word.word in
    let value : ℕ = c.read.result in
    let slot : ℕ = slot_at (known_by_pass c.args.pass.now) place in
    let slot_is : slot_at (known_by_pass old) place ≡ slot = ap (λ (s : Seat). slot_at s place) before.known in
    let reads : (past_by new).reads ≡ record { slot = slot; word = word; value = value } ∷ (past_by old).reads
    = ap (λ (p : History). p.reads) c.read.ensures.step.past
    ∙ ap (λ n. record { slot = n; word = word; value = value } ∷ (past_by old).reads) slot_is in
    let again : (read : Read) → _ → read.slot ≡ slot → read.word ≡ word → value ≡ read.value =
    λ read at s w. c.read.ensures.again read at (s ∙ sym slot_is) w in
    let rest : History → History =
    λ p. record p { last = (past_by new).last; steps = (past_by new).steps; reads = (past_by new).reads } in
    let low : word < length c.loop-word.words = (let l = before.long in let t = c.requires.range.1 in
    omega (arith, l, t, c.loop-word-test.true)) in
    let still : HasMore (past_by old).reads (past_by new).reads =
    subst (HasMore (past_by old).reads) (sym reads) (read_more (past_by old).reads slot word value again) in
    let one : word + 1 - c.args.from ≡ (word - c.args.from) + 1 = (let h = before.high in omega (arith, h)) in
    record {
      high = (let h = before.high in omega (arith, h));
      low = omega (arith, c.loop-word-test.true);
      long = length-set c.loop-word.words word value ∙ before.long;
      same = go_on roots c.args.pass.now old new before.same c.read.ensures.same;
      note = c.read.ensures.note ∙ before.note;
      known = c.read.ensures.known ∙ before.known;
      past = ap rest c.read.ensures.step.past ∙ ap rest before.past;
      grown = λ none all. (let g = before.grown none all in (
        record { slot = slot; word = word; value = value } ∷ g.0,
        reads ∙ ap (λ (rs : List Read). record { slot = slot; word = word; value = value } ∷ rs) g.1,
        (let many = g.2 in omega (arith, many)),
        next_word g.0 slot word value c.loop-word.words low g.3,
      ));
      more = more_more (past_by c.args.pass.now).reads (past_by old).reads (past_by new).reads before.more still;
      read = λ k lt. subst (λ rs. written_at rs slot k ≡ Some (slice_index (set c.loop-word.words word value) k))
          (sym reads) (next_word (past_by old).reads slot word value c.loop-word.words low before.read k lt);
      behind = λ k far lt. still slot k (slice_index c.loop-word.words k) (before.behind k far lt)
          ∙ ap (λ n. Some n) (sym (get_or-set_other c.loop-word.words word k value 0
          (λ e. omega (arith, e, far, c.loop-word-test.true))));
      whole = λ some content read. c.read.ensures.whole content
          (subst (λ n. HasReadWhole (shape_at roots) (past_by new) n content) (sym slot_is) read);
      few = subst (λ n. HasSpared (shape_at roots) (number_by c.args.pass.now) n (operations_by c.args.pass.now)
          (operations_by new)) (sym one)
          (spared_on (shape_at roots) (number_by c.args.pass.now) (word - c.args.from) 1 (number_by old)
          (operations_by c.args.pass.now)
          (operations_by old) (operations_by new) before.same.still.1 before.few
          (read_spares (shape_at roots) (number_by old) (ap (λ (s : Shape). s.shields) c.args.self.now.shaped)
          (slot_at (known_by_pass old) place) word c.read.ensures.step.made.0 (operations_by old) (operations_by new)
          c.read.ensures.step.made.2));
    }

pub returns-clause-grown : goal.returns-clause-grown
returns-clause-grown c none all =
    let g = c.loop-word.invariant.grown none all in
    let words : List ℕ = c.loop-word.words in
    let slot : ℕ = slot_at (known_by_pass c.args.pass.now) c.args.place in
    let whole : c.loop-word.word ≡ 10 = (let t = c.loop-word-test.false in let l = c.loop-word.invariant.low in
    omega (arith, t, l, all)) in
    let each : (k : ℕ) → k < 10 → written_at g.0 slot k ≡ Some (slice_index words k) =
    λ k lt. g.3 k (omega (arith, lt, whole)) in
    let is : words ≡ words_read g.0 slot = words_are g.0 slot words c.loop-word.invariant.long each in record {
      reads = g.0;
      grown = g.1;
      many = g.2 ∙ whole;
      ten = has_ten g.0 slot words c.loop-word.invariant.long each;
      shows = ap entry_of (sym is);
    }

pub returns-clause-read : goal.returns-clause-read
returns-clause-read c k lt =
    let before = c.loop-word.invariant in
    dite (dec_le (suc k) c.loop-word.word) (λ (done : suc k ≤ c.loop-word.word). before.read k done)
    (λ (later : ¬ (suc k ≤ c.loop-word.word)). before.behind k
    (let t = c.loop-word-test.false in omega (arith, t, later)) lt)

pub returns-clause-whole : goal.returns-clause-whole
returns-clause-whole c =
    let before = c.loop-word.invariant in
    let end = c.loop-word.pass in
    let slot : ℕ = slot_at (known_by_pass c.args.pass.now) c.args.place in
    let wide : (shape_at c.args.self.now.roots).width ≡ 10 = ap (λ (s : Shape). s.width) c.args.self.now.shaped in
    before.whole (let t = c.loop-word-test.false in let f = c.requires.range.0 in omega (arith, t, f))
    c.loop-word.words (
      before.long ∙ sym wide,
      λ word lt. found_read (past_by end).reads slot word (slice_index c.loop-word.words word)
          (returns-clause-read c word (omega (arith, lt, wide))),
    )

pub returns-clause-few : goal.returns-clause-few
returns-clause-few c = spared_in (shape_at c.args.self.now.roots) (number_by c.args.pass.now)
    (c.loop-word.word - c.args.from) (c.args.to - c.args.from) (operations_by c.args.pass.now)
    (operations_by c.loop-word.pass)
    (let l = c.loop-word.invariant.low in omega (arith, l)) c.loop-word.invariant.few
