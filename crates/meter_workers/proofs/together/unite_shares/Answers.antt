use Rattle.meter_workers.proofs.Common.{◌≡◌, ◌++◌, List, [], length, ap, ◌∙◌, rules, arith}
use Rattle.meter_workers.proofs.Common.{IsPermutation, IsPermutation-trans, IsPermutation-append_left, Answer, HaveDone}
use Rattle.meter_workers.proofs.Common.{IsShareOf, HaveMetered}
use Rattle.std.proofs.lemmas.List.Sorted.{IsPermutation-sym}
use Rattle.std.proofs.lemmas.Result.{IfOk-at_ok}
use Rattle.work_pieces.proofs.Doing.{longer, popped, none-left, moved-back}
use Rattle.meter_workers.specs.Shares.{StandsEmptied}
use Rattle.meter_workers.proofs.Shares.{permuted}
use Rattle.meter_workers.proofs.together.unite_shares.Goals.{After-finish-one}
use Rattle.meter_workers.proofs.together.unite_shares.Given as given
use Rattle.meter_workers.proofs.together.unite_shares.Goals as goal

pub finish-all-requires-clause-share : goal.finish-all-requires-clause-share
finish-all-requires-clause-share g c κs within =
    let p = popped _ _ _ _ _ c.in-Some.ensures.items (c.in_ok-emptied.ensures.metered _ c.requires.metered.1) in
    (p.1, IfOk-at_ok _ c.in_ok-last.was p.3)

pub loop-share-init : goal.loop-share-init
loop-share-init g c =
    let is = c.in-Some.ensures.items in
    let told = c.in_ok-emptied.ensures in
    record {
      many = omega (arith, longer _ _ _ is, c.finish-all.ensures.seats, told.many);
      tail = c.finish-all.ensures.tail;
      metered = λ answers have.
          (let q = popped _ _ _ _ _ is (told.metered answers have) in
          (q.0, q.1, q.2, c.finish-all.ensures.metered q.1 (IfOk-at_ok _ c.in_ok-last.was q.3), q.4));
    }

pub finish-one-requires-clause-share : goal.finish-one-requires-clause-share
finish-one-requires-clause-share g c κs within =
    let had = c.requires.metered in
    let p = popped _ _ _ _ _ c.in-Some-pop.ensures.items (c.loop-share.invariant.metered had.0 had.1).2 in
    (p.1, IfOk-at_ok _ c.in_ok-share.was p.3)

-- what the others that are left, those that are united, and the next one have metered
parted : (g : given.Over) (c : After-finish-one g) (answers : List Answer)
    → HaveDone (IsShareOf g.C.FlowCache c.args.cache.now) answers c.args.shares.items
    → (rest done list : List Answer)
    × HaveDone (StandsEmptied g.C.FlowCache c.args.cache.now) rest c.pop-in-loop-share.new.self.items
    × HaveMetered g.C.FlowCache c.args.cache.now done c.loop-share.all
    × HaveMetered g.C.FlowCache c.args.cache.now list c.finish-one.result
    × IsPermutation answers (rest ++ (done ++ list))
parted g c answers have =
    let m = c.loop-share.invariant.metered answers have in
    let q = popped _ _ _ _ _ c.in-Some-pop.ensures.items m.2 in (
      q.0,
      m.1,
      q.1,
      q.2,
      m.3,
      c.finish-one.ensures.metered q.1 (IfOk-at_ok _ c.in_ok-share.was q.3),
      moved-back answers m.0 m.1 q.0 q.1 m.4 q.4,
    )

pub unite-requires-clause-seats : goal.unite-requires-clause-seats
unite-requires-clause-seats g c κs within =
    let long = longer _ _ _ c.in-Some-pop.ensures.items in
    omega (arith, long, c.finish-one.ensures.seats, c.loop-share.invariant.many, c.requires.many.1)

pub unite-requires-clause-metered : goal.unite-requires-clause-metered
unite-requires-clause-metered g c κs within =
    let p = parted g (goal.at.unite-requires-clause-metered g c).After-finish-one _ c.requires.metered.1 in
    (p.1, p.2, p.4, p.5)

pub loop-share-preserved : goal.loop-share-preserved
loop-share-preserved g c =
    let at = (goal.at.loop-share-preserved g c).After-finish-one in
    let both = c.in_ok-all.ensures in
    record {
      many = omega (
        arith,
        both.seats,
        c.finish-one.ensures.seats,
        longer _ _ _ c.in-Some-pop.ensures.items,
        c.loop-share.invariant.many,
      );
      tail = both.tail ∙ c.loop-share.invariant.tail;
      metered = λ answers have.
          (let p = parted g at answers have in (p.0, p.1 ++ p.2, p.3, both.metered p.1 p.2 p.4 p.5, p.6));
    }

pub returns-clause-metered : goal.returns-clause-metered
returns-clause-metered g c = λ answers have.
    let m = c.loop-share.invariant.metered answers have in
    let none : c.loop-share.emptied.items ≡ [] = search rules in
    permuted g.C.FlowCache c.args.cache.now m.1 answers c.loop-share.all c.sharing_out_stands.ensures.permuted
    c.order_law.ensures
    (IsPermutation-sym _ _ (IsPermutation-trans _ (m.0 ++ m.1) _ m.4 (IsPermutation-append_left m.1 m.0 []
    (none-left _ m.0 _ none m.2)))) m.3

pub returns-clause-own : goal.returns-clause-own
returns-clause-own g c =
    let none : c.loop-share.emptied.items ≡ [] = search rules in
    let no = ap length none in
    ((c.loop-share.invariant.metered _ c.requires.metered.1).3.own, omega (arith, no, c.loop-share.invariant.many))
