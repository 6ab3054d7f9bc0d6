use Rattle.meter_workers.proofs.Common.{◌≡◌, rules, refl, List, length, sym, subst, DrawPass, answers_by, Share, Worker}
use Rattle.meter_workers.proofs.Common.{IsShareOf}
use Rattle.std.proofs.Common.{get_or, All, ◌≢◌, ◌<◌}
use Rattle.work_pieces.specs.declared.worker.WorkState.TheVariants.{Going}
use Rattle.std.specs.List.{AllZip}
use Rattle.work_pieces.proofs.Doing.{all-zip, taken-back}
use Rattle.work_pieces.specs.Doing.{HasDrawnAll}
use Rattle.meter_workers.proofs.ahead.run_ahead.Goals as goal

pub returns-clause-worked : goal.returns-clause-worked
returns-clause-worked g c =
    let W : Type 0 = Worker (Share g.row.C.Denot g.row.C-Pass.Denot) DrawPass in
    let R : W → W → Type 0 =
    HasDrawnAll (IsShareOf g.C.FlowCache c.args.cache.now) c.args.pieces.now (answers_by c.args.part.now) in
    let new : List W = c.for_each_beside-next.new.items in
    let same : c.as_mut_slice.result.now ≡ c.args.workers.items = search rules in
    let long : length new ≡ length c.as_mut_slice.result.now = search rules in
    let each : AllZip R c.as_mut_slice.result.now new = all-zip R c.as_mut_slice.result.now new long (λ i d lt.
    let k = (c.for_each_beside-next.ensures.each i d lt).1 in
    subst (λ o. R o (get_or new i d)) k.argument_is (subst (λ w. R k.argument.now w) k.left k.call.1)) in
    subst (λ (l : List W). AllZip R c.args.workers.items l)
    (sym (taken-back c.args.workers.len (length new) c.args.workers.items new (search rules) refl))
    (subst (λ (l : List W). AllZip R l new) same each)

pub returns-clause-ended : goal.returns-clause-ended
returns-clause-ended g c =
    let W : Type 0 = Worker (Share g.row.C.Denot g.row.C-Pass.Denot) DrawPass in
    let new : List W = c.for_each_beside-next.new.items in
    let long : length new ≡ length c.as_mut_slice.result.now = search rules in
    let each : All (λ (w : W). w.state ≢ Going) new = (λ i d lt.
    let k = (c.for_each_beside-next.ensures.each i d (subst (λ n. i < n) long lt)).1 in
    subst (λ (w : W). w.state ≢ Going) k.left k.call.0) in
    subst (All (λ (w : W). w.state ≢ Going))
    (sym (taken-back c.args.workers.len (length new) c.args.workers.items new (search rules) refl)) each
