use Rattle.meter_workers.proofs.Common.{List, ◌≡◌, ◌++◌, ap, ◌∙◌, subst, arith, packets_in, Fragment, SharesOut}
use Rattle.meter_workers.proofs.Common.{append-nil}
use Rattle.meter_workers.specs.Shares.{open_of}
use Rattle.meter_workers.proofs.together.finish.Goals as goal

pub returns-clause-metered : goal.returns-clause-metered
returns-clause-metered g c = λ done emptied.
    let has = emptied.0 in
    let taken = (g.C.FlowCache.shown c.args.share.pass).note.taken in
    let all : taken ++ open_of c.args.share.front ≡ taken =
    ap (λ f. taken ++ open_of f) emptied.1 ∙ append-nil taken in
    record {
      own = has.seated.own;
      some = omega (arith, has.seated.single);
      shared = subst (λ (l : List Fragment). SharesOut (g.C.FlowCache.means c.args._cache.now).limits
          (packets_in done) l) all has.shared;
      parts = has.handed;
      tallied = has.tallied;
      small = has.small;
      few = (let few = has.few in omega (arith, few, has.seated.single));
    }
