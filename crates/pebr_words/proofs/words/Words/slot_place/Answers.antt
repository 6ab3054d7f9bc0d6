use Rattle.std.proofs.Common.{◌+◌, ◌*◌, ap, arith}
use Rattle.pebr_words.proofs.Closing.{few_at}
use Rattle.pebr_words.proofs.words.Words.slot_place.Goals as goal

pub overflow_mul-result : goal.overflow_mul-result
overflow_mul-result g c =
    let words = c.args.self.now in
    let few = few_at words.shape words.limits c.args.slot c.requires.0 in
    omega (arith, few)

pub overflow_add-result : goal.overflow_add-result
overflow_add-result g c =
    let words = c.args.self.now in
    let few = few_at words.shape words.limits c.args.slot c.requires.0 in
    let low = c.requires.1 in
    let width = words.limits.width in
    omega (arith, few, low, width)

pub overflow_add-result-2 : goal.overflow_add-result-2
overflow_add-result-2 g c =
    let words = c.args.self.now in
    let few = few_at words.shape words.limits c.args.slot c.requires.0 in
    let low = c.requires.1 in
    let limits = words.limits in
    let from = words.placed in
    omega (arith, few, low, from, limits.width, limits.roots, limits.seats)

pub returns : goal.returns
returns g c = ap (λ n. n + (c.args.slot * c.args.self.now.shape.width + c.args.word)) c.args.self.now.placed
