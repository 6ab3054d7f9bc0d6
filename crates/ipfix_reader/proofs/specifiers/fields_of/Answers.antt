-- The step, by whether the specifier fits.
use Rattle.std.proofs.Common.{◌≡◌, ◌+◌, ◌-◌, suc, arith, refl, sym, ◌∙◌}
use Rattle.ipfix_reader.proofs.SpecifierSteps.{fields_of-next, fields_of-beyond, one_longer}
use Rattle.ipfix_reader.proofs.specifiers.fields_of.Goals as goal

pub returns-in_default-clause-fault : goal.returns-in_default-clause-fault
returns-in_default-clause-fault c =
    let counts : c.args.count - c.loop-turn._turn ≡ suc (c.args.count - (c.loop-turn._turn + 1)) = omega arith in
    sym c.loop-turn.invariant.left
    ∙ fields_of-beyond c.args.beyond _ (c.args.count - (c.loop-turn._turn + 1)) _ _ counts
    (c.in_default.ensures.beyond refl)

pub loop-turn-preserved : goal.loop-turn-preserved
loop-turn-preserved c =
    let counts : c.args.count - c.loop-turn._turn ≡ suc (c.args.count - (c.loop-turn._turn + 1)) = omega arith in
    record {
      counted = one_longer _ _ _ _ c.in_ok-push.ensures.items c.loop-turn.invariant.counted;
      left = sym
          (fields_of-next c.args.beyond _ (c.args.count - (c.loop-turn._turn + 1)) _ _ _ _ _ _ counts
          c.in-Some.ensures.field c.in-Some.ensures.size c.in-Some.ensures.inside c.in_ok-push.ensures.items
          c.behind-rest.ensures)
          ∙ c.loop-turn.invariant.left;
    }
