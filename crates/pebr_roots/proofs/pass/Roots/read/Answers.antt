use Rattle.std.proofs.Common.{◌<◌, ◌≡◌, true, length, sym, ap, ◌∙◌, subst, arith, rules}
use Rattle.std.specs.Prelude.{slice_index}
use Rattle.pebr_core.specs.State.{slot_count}
use Rattle.pebr_core.specs.Steps.{is_shielded}
use Rattle.pebr_core.specs.declared.kinds.Step.TheVariants as step
use Rattle.pebr_core.specs.declared.kinds.Answer.TheVariants as answer
use Rattle.pebr_words.specs.Seats.{IsStep}
use Rattle.pebr_roots.specs.Under.{slot_at}
use Rattle.pebr_roots.specs.Passes.{known_by_pass, past_by, number_by, shape_at}
use Rattle.pebr_roots.proofs.Passing.{valid_at, under_valid, start_at, read_again}
use Rattle.pebr_roots.proofs.pass.Roots.read.Goals as goal

pub read_word-requires-clause-range : goal.read_word-requires-clause-range
read_word-requires-clause-range g c =
    let pass = c.args.pass.now in
    let known = known_by_pass pass in
    let is = under_valid pass.under known c.args.place pass.slots c.requires.valid in (
      subst (λ n. n < slot_count (shape_at c.args.self.now)) (sym is)
          (c.requires.of.at.6.valid c.args.place (slot_at known c.args.place)
          (valid_at known c.args.place c.requires.valid)),
      c.requires.range.1,
    )

pub read_word-requires-clause-shielded : goal.read_word-requires-clause-shielded
read_word-requires-clause-shielded g c =
    let pass = c.args.pass.now in
    let known = known_by_pass pass in
    let is = under_valid pass.under known c.args.place pass.slots c.requires.valid in
    ap (is_shielded known) is ∙ c.valid_shields_protect.ensures known c.args.place (slot_at known c.args.place)
    (valid_at known c.args.place c.requires.valid)

pub read_word-requires-clause-start : goal.read_word-requires-clause-start
read_word-requires-clause-start g c =
    let pass = c.args.pass.now in
    let wide : length pass.under ≡ 8 = search rules in
    let few = c.args.self.now.words.limits.shields in
    let low = c.requires.range.0 in
    start_at (shape_at c.args.self.now) pass.under pass.starts c.args.place (omega (arith, wide, few, low))
    c.requires.of.starts

pub returns-clause-step : goal.returns-clause-step
returns-clause-step g c =
    let pass = c.args.pass.now in
    let known = known_by_pass pass in
    let is = under_valid pass.under known c.args.place pass.slots c.requires.valid in
    subst (λ n. IsStep g.P.RootProtocol.whole c.args.self.now.words pass.seat c.read_word.new.seat
    (step.Read (number_by pass) n c.args.word) (answer.Word c.read_word.result)) is c.read_word.ensures.step

pub returns-clause-again : goal.returns-clause-again
returns-clause-again g c read at slot_is word_is =
    let pass = c.args.pass.now in
    let known = known_by_pass pass in
    let is = under_valid pass.under known c.args.place pass.slots c.requires.valid in
    let protected = c.valid_shields_protect.ensures known c.args.place (slot_at known c.args.place)
    (valid_at known c.args.place c.requires.valid) in
    read_again (number_by pass) (slice_index pass.under c.args.place) c.args.word c.read_word.result known
    (past_by pass) _ _ c.read_word.ensures.step.sure c.read_word.ensures.step.past c.read_word.ensures.known
    (ap (is_shielded known) is ∙ protected) read at (slot_is ∙ sym is) word_is

pub returns-clause-whole : goal.returns-clause-whole
returns-clause-whole g c content has_read =
    let pass = c.args.pass.now in
    let known = known_by_pass pass in
    let protected = c.valid_shields_protect.ensures known c.args.place (slot_at known c.args.place)
    (valid_at known c.args.place c.requires.valid) in
    c.read_word.ensures.step.sure.whole_is (slot_at known c.args.place) content
    (subst (λ k. is_shielded k (slot_at known c.args.place) ≡ true) (sym c.read_word.ensures.known) protected) has_read
