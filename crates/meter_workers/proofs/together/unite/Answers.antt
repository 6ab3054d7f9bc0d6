use Rattle.meter_workers.proofs.Common.{◌≡◌, ◌++◌, rules}
use Rattle.meter_workers.proofs.Shares.{united}
use Rattle.meter_workers.proofs.together.unite.Goals as goal

pub returns-clause-metered : goal.returns-clause-metered
returns-clause-metered g c = λ done rest first second.
    let grown : c.append.new.self ≡ c.args.one.parts ++ c.args.other.parts = search rules in
    united g.C.FlowCache c.args.cache.now done rest c.args.one c.args.other _ c.sharing_out_stands.ensures.together
    c.unite.ensures.united c.unite.ensures.own grown c.sum_with.ensures first second
