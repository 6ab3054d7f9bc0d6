use Rattle.meter_workers.proofs.Common.{◌++◌, ◌∷◌, [], length, sym, ap, ◌∙◌, arith, append_assoc, open_in}
use Rattle.meter_workers.proofs.Shares.{room-out}
use Rattle.meter_workers.proofs.share.empty_front.Goals as goal

pub admit-requires-clause-room : goal.admit-requires-clause-room
admit-requires-clause-room g c κs within =
    let taken = (g.C.FlowCache.shown c.loop-out.pass).note.taken in
    room-out taken (open_in c.take_out.new.self) _ c.in-Some-take_out.out
    (ap (λ l. taken ++ l) (sym c.in-Some-take_out.ensures.taken) ∙ c.loop-out.invariant.taken) c.requires.room

pub loop-out-preserved : goal.loop-out-preserved
loop-out-preserved g c =
    let i = c.loop-out.invariant in
    let told = c.in_ok-admit.ensures in
    let taken = (g.C.FlowCache.shown c.loop-out.pass).note.taken in
    record {
      own = told.own;
      single = told.single;
      taken = ap (λ l. l ++ open_in c.take_out.new.self) told.taken
          ∙ append_assoc taken (c.in-Some-take_out.out ∷ []) (open_in c.take_out.new.self)
          ∙ ap (λ l. taken ++ l) (sym c.in-Some-take_out.ensures.taken) ∙ i.taken;
      handed = λ is. told.handed (i.handed is);
    }

pub loop-out-smaller : goal.loop-out-smaller
loop-out-smaller g c = (let e = ap length c.in-Some-take_out.ensures.taken in omega (arith, e))
