use Rattle.meter_workers.proofs.Common.{sym, arith, same, side}
use Rattle.meter_workers.proofs.Whole.{metered-whole}
use Rattle.meter_workers.proofs.windows.meter_windows.Goals as goal

pub unite_shares-requires-clause-metered : goal.unite_shares-requires-clause-metered
unite_shares-requires-clause-metered g c κs within =
    let told = c.in_ok-shares.ensures.metered in (told.0, told.2)

pub returns-in-Ok-unite_shares-clause-metered : goal.returns-in-Ok-unite_shares-clause-metered
returns-in-Ok-unite_shares-clause-metered g c =
    let told = c.in_ok-shares.ensures.metered in
    let all = c.in-Ok-unite_shares.ensures in
    metered-whole g.C.FlowCache c.args.cache.now told.0 c.in-Ok-unite_shares.all
    (side g.S.Source.left g.S.Source.faults c.args.source.now c.meter_all_parts.new.source) c.args.windows.limit
    c.in_ok-shares.tail told.1 (all.metered told.0 told.2) all.tail

pub returns-in-Ok-unite_shares-clause-parts : goal.returns-in-Ok-unite_shares-clause-parts
returns-in-Ok-unite_shares-clause-parts g c =
    let told = c.in_ok-shares.ensures.metered in
    same _ _ (sym (c.in-Ok-unite_shares.ensures.metered told.0 told.2).parts)

pub returns-in-Err-clause-refused : goal.returns-in-Err-clause-refused
returns-in-Err-clause-refused g c =
    let whole = c.in_ok-shares.ensures.metered.1 in
    (whole.file.bytes, (let w = whole.within in omega (arith, w)), whole.given)
