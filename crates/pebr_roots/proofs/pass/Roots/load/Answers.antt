use Rattle.std.proofs.Common.{◌≡◌, ◌<◌, length, sym, ap, ◌∙◌, subst, arith, rules}
use Rattle.std.specs.Prelude.{slice_set}
use Rattle.pebr_core.specs.declared.kinds.ShieldAt.TheVariants as shield
use Rattle.pebr_core.specs.Steps.{after_load, after_shield}
use Rattle.pebr_roots.specs.Under.{AreUnder}
use Rattle.pebr_roots.specs.Passes.{known_by_pass, shape_at}
use Rattle.pebr_core.specs.Kept.{held_count}
use Rattle.pebr_roots.proofs.Passing.{under_set, starts_set}
use Rattle.pebr_roots.proofs.pass.Roots.load.Goals as goal

pub invariant_of-pass : goal.invariant_of-pass
invariant_of-pass g c =
    let pass = c.args.pass.now in
    let place = c.args.place in
    let slot = c.load_root-slot.result in
    let known = after_load slot (known_by_pass pass) in
    let wide : length pass.under ≡ 8 = search rules in
    let inside : place < length pass.under =
    (let few = c.args.self.now.words.limits.shields in let low = c.requires.range.1 in omega (arith, wide, few, low)) in
    let is = c.shield.ensures.known ∙ ap (after_shield place (shield.Set slot)) c.load_root-slot.ensures.known in
    record {
      slots = subst (AreUnder (slice_set pass.under place slot)) (sym is)
          (under_set pass.under known place slot inside pass.slots);
    }

pub returns-clause-same : goal.returns-clause-same
returns-clause-same g c =
    let pass = c.args.pass.now in
    let place = c.args.place in
    let slot = c.load_root-slot.result in
    let a = c.load_root-slot.ensures.still in
    let b = c.shield.ensures.still in
    let is = c.shield.ensures.known ∙ ap (after_shield place (shield.Set slot)) c.load_root-slot.ensures.known in
    record {
      of = record {
        at = b.0;
        held = ap held_count is ∙ c.requires.of.held;
        starts = starts_set (shape_at c.args.self.now) pass.under pass.starts place slot _ c.requires.of.starts
            c.slot_start.ensures;
      };
      still = (b.0, b.1 ∙ a.1, b.2 ∙ a.2, b.3 ∙ a.3, b.4 ∙ a.4);
    }
