-- Piece by piece, to the end.
use Rattle.std.proofs.Common.{◌∙◌, arith, ap}
use Rattle.stream_input.proofs.Windows.{stops_later, rest_later, rest_on, got_on}
use Rattle.stream_input.proofs.reading.drop_rest.Goals as goal

pub returns-in-Ok-true-clause-rest : goal.returns-in-Ok-true-clause-rest
returns-in-Ok-true-clause-rest g c =
    let so_far = c.rest.invariant.read in
    rest_later _ (g.S.Source.left c.rest.source) _ so_far.0 c.args.most c.rest.left so_far.1 so_far.2
    (rest_on _ _ _ _ _ _ c.in-Ok-true.ensures.read (c.in-Ok-true.ensures.ended c.in-Ok-true.field-0-test))

pub rest-preserved : goal.rest-preserved
rest-preserved g c =
    let so_far = c.rest.invariant.read in
    record {
      read = got_on _ (g.S.Source.left c.rest.source) _ so_far.0 _ _ c.args.most c.rest.left _ so_far.1 so_far.2
          c.in-Ok-false.ensures.read;
      some = c.in-Ok-false.ensures.read.some;
      size = c.in-Ok-false.ensures.size ∙ ap (λ w. w.size) c.keep.ensures ∙ c.rest.invariant.size;
      room =
          let size = c.in-Ok-false.ensures.size in
          let kept = ap (λ w. w.size) c.keep.ensures in
          let some = c.rest.invariant.room in
          omega arith;
      later = (let one = c.rest.invariant.later in let two = c.in-Ok-false.ensures.later in omega arith);
    }

pub returns-in-Err-clause-stopped : goal.returns-in-Err-clause-stopped
returns-in-Err-clause-stopped g c =
    let so_far = c.rest.invariant.read in
    stops_later _ (g.S.Source.left c.rest.source) _ so_far.0 c.args.most c.rest.left c.in-Err.fault so_far.1 so_far.2
    c.in-Err.ensures.stopped
