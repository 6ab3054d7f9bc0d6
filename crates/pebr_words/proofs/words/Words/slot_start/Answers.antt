use Rattle.std.proofs.Common.{arith}
use Rattle.pebr_words.proofs.Closing.{few_at}
use Rattle.pebr_words.proofs.words.Words.slot_start.Goals as goal

pub overflow_mul-result : goal.overflow_mul-result
overflow_mul-result g c =
    let words = c.args.self.now in
    let few = few_at words.shape words.limits c.args.slot c.requires in
    omega (arith, few)

pub overflow_add-result : goal.overflow_add-result
overflow_add-result g c =
    let words = c.args.self.now in
    let few = few_at words.shape words.limits c.args.slot c.requires in
    let limits = words.limits in
    let from = words.placed in
    omega (arith, few, from, limits.roots, limits.seats)

pub returns : goal.returns
returns g c = let from = c.args.self.now.placed in omega (arith, from)
