use Rattle.meter_workers.proofs.Common.{◌≤◌, [], length, arith, IfOk, IfOk-weaker, Answer, answers_by}
use Rattle.meter_workers.proofs.Common.{HaveMetered, nothing-done}
use Rattle.meter_workers.proofs.windows.meter_all.Given as given
use Rattle.meter_workers.proofs.windows.meter_all.Goals as goal

pub meter_part-requires-clause-metered : goal.meter_part-requires-clause-metered
meter_part-requires-clause-metered g c κs within =
    let none : length {A = Answer} [] ≤ c.args.part.now.base = omega arith in
    ([], none, nothing-done _ c.in_ok-shares.shares.items c.in_ok-shares.ensures.shares)

pub unite_shares-requires-clause-metered : goal.unite_shares-requires-clause-metered
unite_shares-requires-clause-metered g c κs within =
    (_, c.in_ok-shares-2.ensures.metered [] (nothing-done _ c.in_ok-shares.shares.items c.in_ok-shares.ensures.shares))

metered : (g : given.Over) (c : goal.After-unite_shares g)
    → IfOk c.unite_shares.result (HaveMetered g.C.FlowCache c.args.cache.now (answers_by c.args.part.now))
metered g c = c.unite_shares.ensures.metered _
    (c.in_ok-shares-2.ensures.metered [] (nothing-done _ c.in_ok-shares.shares.items c.in_ok-shares.ensures.shares))

pub returns-clause-shared : goal.returns-clause-shared
returns-clause-shared g c = IfOk-weaker c.unite_shares.result _ _ (λ r all. all.shared) (metered g c)

pub returns-clause-parts : goal.returns-clause-parts
returns-clause-parts g c = IfOk-weaker c.unite_shares.result _ _ (λ r all. all.parts) (metered g c)

pub returns-clause-tally : goal.returns-clause-tally
returns-clause-tally g c = IfOk-weaker c.unite_shares.result _ _ (λ r all. all.tallied) (metered g c)
