use Rattle.std.proofs.Common.{◌<◌, sym, ap, ◌∙◌, subst}
use Rattle.pebr_core.specs.State.{has, slot_count}
use Rattle.pebr_slots.specs.Sets.{least_in}
use Rattle.pebr_roots.specs.Passes.{known_by_pass, shape_at}
use Rattle.pebr_roots.proofs.Passing.{least_has, least_inside}
use Rattle.pebr_roots.proofs.pass.Roots.write_fresh.Goals as goal

pub write_word-requires-clause-range : goal.write_word-requires-clause-range
write_word-requires-clause-range g c =
    let known = known_by_pass c.args.pass.now in (
      subst (λ n. n < slot_count (shape_at c.args.self.now)) (sym c.least_fresh-slot.ensures)
          (subst (λ n. least_in known.fresh < n) c.requires.of.at.6.fresh (least_inside known.fresh c.requires.fresh)),
      c.requires.word,
    )

pub write_word-requires-clause-fresh : goal.write_word-requires-clause-fresh
write_word-requires-clause-fresh g c =
    let known = known_by_pass c.args.pass.now in
    ap (has known.fresh) c.least_fresh-slot.ensures ∙ least_has known.fresh c.requires.fresh
