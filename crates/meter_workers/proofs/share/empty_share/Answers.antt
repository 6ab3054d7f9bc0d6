use Rattle.meter_workers.proofs.Common.{sym, subst, arith, ◌≤◌, ◌^◌, put_by}
use Rattle.cache_face.specs.Keeping.{packet_count}
use Rattle.meter_workers.proofs.Shares.{put-few}
use Rattle.meter_workers.proofs.share.empty_share.Goals as goal

pub empty_front-requires-clause-room : goal.empty_front-requires-clause-room
empty_front-requires-clause-room g c κs within =
    let share = c.args.share.now in
    let had = c.requires.share.1 in
    let few = put-few g.C.FlowCache c.args.cache.now _ share c.sharing_out_counts.ensures.counts had in
    subst (λ f. packet_count (put_by (g.C.FlowCache.shown share.pass) f) ≤ 2 ^ 32) (sym c.take-front.ensures.value)
    (let most = had.few in omega (arith, few, most))
