use Rattle.std.proofs.Common.{◌<◌, ℕ, sym, ap, ◌∙◌, subst}
use Rattle.std.specs.Prelude.{slice_index}
use Rattle.pebr_core.specs.State.{has, slot_count}
use Rattle.pebr_core.specs.Steps.{is_shielded, after_replace}
use Rattle.pebr_core.specs.declared.kinds.Step.TheVariants as step
use Rattle.pebr_core.specs.declared.kinds.Answer.TheVariants as answer
use Rattle.pebr_slots.specs.Sets.{least_in}
use Rattle.pebr_words.specs.Making.{act_on}
use Rattle.pebr_words.specs.Ruled.{CanReplace}
use Rattle.pebr_words.specs.Seats.{IsStep}
use Rattle.pebr_roots.specs.Under.{slot_at}
use Rattle.pebr_roots.specs.Passes.{known_by_pass, past_by, number_by, note_by, shape_at, fixed_at}
use Rattle.pebr_roots.proofs.Passing.{valid_at, under_valid, least_has, least_inside, held_after}
use Rattle.pebr_roots.proofs.pass.Roots.replace.Goals as goal

pub replace_root-requires-clause-slots : goal.replace_root-requires-clause-slots
replace_root-requires-clause-slots g c =
    let pass = c.args.pass.now in
    let known = known_by_pass pass in
    let is = under_valid pass.under known c.args.place pass.slots c.requires.valid in (
      subst (λ n. n < slot_count (shape_at c.args.self.now)) (sym is)
          (c.requires.of.at.6.valid c.args.place (slot_at known c.args.place)
          (valid_at known c.args.place c.requires.valid)),
      subst (λ n. n < slot_count (shape_at c.args.self.now)) (sym c.least_fresh-new.ensures)
          (subst (λ n. least_in known.fresh < n) c.requires.of.at.6.fresh (least_inside known.fresh c.requires.fresh)),
    )

pub replace_root-requires-clause-shielded : goal.replace_root-requires-clause-shielded
replace_root-requires-clause-shielded g c =
    let pass = c.args.pass.now in
    let known = known_by_pass pass in
    let is = under_valid pass.under known c.args.place pass.slots c.requires.valid in
    ap (is_shielded known) is ∙ c.valid_shields_protect.ensures known c.args.place (slot_at known c.args.place)
    (valid_at known c.args.place c.requires.valid)

pub replace_root-requires-clause-fresh : goal.replace_root-requires-clause-fresh
replace_root-requires-clause-fresh g c =
    let known = known_by_pass c.args.pass.now in
    ap (has known.fresh) c.least_fresh-new.ensures ∙ least_has known.fresh c.requires.fresh

pub replace_root-requires-clause-keeps : goal.replace_root-requires-clause-keeps
replace_root-requires-clause-keeps g c =
    let pass = c.args.pass.now in
    let known = known_by_pass pass in
    let p = g.P.RootProtocol in
    let is = under_valid pass.under known c.args.place pass.slots c.requires.valid in
    let can : ℕ → ℕ → Type 0 = λ old new. CanReplace (p.keeps (fixed_at c.args.self.now)) p.whole
    (p.backed (fixed_at c.args.self.now)) (shape_at c.args.self.now) (past_by pass) (number_by pass) c.args.root old new
    (note_by p.first pass)
    (act_on p.after c.args.act (note_by p.first pass)) in
    subst (λ old. can old c.least_fresh-new.result) (sym is)
    (subst (λ new. can (slot_at known c.args.place) new) (sym c.least_fresh-new.ensures) c.requires.keeps)

pub returns-then-replace_root-clause-same : goal.returns-then-replace_root-clause-same
returns-then-replace_root-clause-same g c =
    let pass = c.args.pass.now in
    record {
      of = record {
        at = c.replace_root.ensures.still.0;
        held = held_after (shape_at c.args.self.now) _ _
            (known_by_pass pass) _ c.steps_are_safe.ensures.sound c.steps_leave_the_rest.ensures c.requires.of.at.3
            c.replace_root.ensures.step.core;
        starts = c.requires.of.starts;
      };
      still = c.replace_root.ensures.still;
    }

pub returns-then-replace_root-clause-known : goal.returns-then-replace_root-clause-known
returns-then-replace_root-clause-known g c =
    let pass = c.args.pass.now in
    let known = known_by_pass pass in
    let is = under_valid pass.under known c.args.place pass.slots c.requires.valid in
    c.if-replace_root.ensures.known
    ∙ (ap (λ n. after_replace n c.least_fresh-new.result known) is
    ∙ ap (λ n. after_replace (slot_at known c.args.place) n known) c.least_fresh-new.ensures)

pub returns-then-replace_root-clause-step : goal.returns-then-replace_root-clause-step
returns-then-replace_root-clause-step g c =
    let pass = c.args.pass.now in
    let known = known_by_pass pass in
    let is = under_valid pass.under known c.args.place pass.slots c.requires.valid in
    subst (λ old. IsStep g.P.RootProtocol.whole c.args.self.now.words pass.seat c.replace_root.new.seat
    (step.Replace (number_by pass) c.args.root old (least_in known.fresh)) answer.Replaced) is
    (subst (λ new. IsStep g.P.RootProtocol.whole c.args.self.now.words pass.seat c.replace_root.new.seat
    (step.Replace (number_by pass) c.args.root (slice_index pass.under c.args.place) new) answer.Replaced)
    c.least_fresh-new.ensures c.if-replace_root.ensures.step)

pub returns-else-replace_root-clause-step : goal.returns-else-replace_root-clause-step
returns-else-replace_root-clause-step g c =
    let pass = c.args.pass.now in
    let known = known_by_pass pass in
    let is = under_valid pass.under known c.args.place pass.slots c.requires.valid in
    subst (λ old. IsStep g.P.RootProtocol.whole c.args.self.now.words pass.seat c.replace_root.new.seat
    (step.Replace (number_by pass) c.args.root old (least_in known.fresh)) answer.Other) is
    (subst (λ new. IsStep g.P.RootProtocol.whole c.args.self.now.words pass.seat c.replace_root.new.seat
    (step.Replace (number_by pass) c.args.root (slice_index pass.under c.args.place) new) answer.Other)
    c.least_fresh-new.ensures c.if-replace_root.ensures.step)
