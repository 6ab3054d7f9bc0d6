use Rattle.meter_workers.proofs.Common.{[], ◌∷◌, sym, append-nil}
use Rattle.meter_workers.proofs.Shares.{reached-alone, reached-through, room-through, on-ok}
use Rattle.meter_workers.proofs.share.meter_packet.Goals as goal

pub admit-requires-clause-room : goal.admit-requires-clause-room
admit-requires-clause-room g c κs within =
    let told = c.in-Some-take_in.ensures.reached in
    room-through c.in-Some.front.limits told.0 c.in-Some-take_in.out
    (g.C.FlowCache.shown c.args.pass.now).note.taken c.args.front.now c.in-Some.front c.take_in.new.self c.in-Some.is
    told.1.packets c.requires.room told.2

pub returns-in-Some-take_in-clause-reached : goal.returns-in-Some-take_in-clause-reached
returns-in-Some-take_in-clause-reached g c =
    let told = c.in-Some-take_in.ensures.reached in
    on-ok c.admit.result (
      told.0,
      told.1,
      reached-through _ told.0 _ _ (c.in-Some-take_in.out ∷ []) c.args.front.now c.in-Some.front c.take_in.new.self
          c.requires.seated.front_is c.in-Some.is told.2 c.admit.ensures.taken,
    )

pub returns-in-None-take_in-clause-reached : goal.returns-in-None-take_in-clause-reached
returns-in-None-take_in-clause-reached g c =
    let told = c.in-None-take_in.ensures.reached in (
      told.0,
      told.1,
      reached-through _ told.0 _ _ [] c.args.front.now c.in-Some.front c.take_in.new.self
          c.requires.seated.front_is c.in-Some.is told.2
          (sym (append-nil (g.C.FlowCache.shown c.args.pass.now).note.taken)),
    )

pub returns-in-None-clause-reached : goal.returns-in-None-clause-reached
returns-in-None-clause-reached g c =
    on-ok c.put_in.result (
      c.of.result,
      c.of.ensures.alone,
      reached-alone _ c.of.result _ _ c.args.front.now c.in-None.is c.put_in.ensures.taken,
    )
