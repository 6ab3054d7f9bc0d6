-- What the reader has read is what all have metered.
use Rattle.meter_workers.proofs.Common.{◌∙◌, sym, arith, same, side}
use Rattle.std.proofs.lemmas.Result.{IfOk-at_ok}
use Rattle.meter_workers.proofs.Whole.{metered-whole}
use Rattle.meter_workers.proofs.batches.meter_batches.Goals as goal

pub close_crew-requires-clause-many : goal.close_crew-requires-clause-many
close_crew-requires-clause-many g c κs within =
    let same = c.run_both-workers.ensures.same in
    let many = c.in-Ok.ensures.many in
    (many.0 ∙ sym same, (let all = many.1 in let most = c.requires.passes.1 in omega (arith, same, all, most)))

pub close_crew-requires-clause-handed : goal.close_crew-requires-clause-handed
close_crew-requires-clause-handed g c κs within =
    let read = IfOk-at_ok _ c.in_ok-tail.was c.run_both-workers.ensures.read in (read.0, read.2)

pub returns-in-Ok-close_crew-clause-metered : goal.returns-in-Ok-close_crew-clause-metered
returns-in-Ok-close_crew-clause-metered g c =
    let read = IfOk-at_ok _ c.in_ok-tail.was c.run_both-workers.ensures.read in
    let told = c.in-Ok-close_crew.ensures in
    metered-whole g.C.FlowCache c.args.cache.now read.0 c.in-Ok-close_crew.all
    (side g.S.Source.left g.S.Source.faults c.args.source.now c.run_both-workers.new.source) c.args.batches.limit
    c.in_ok-tail.tail read.1 (told.metered read.0 read.2) told.tail

pub returns-in-Ok-close_crew-clause-parts : goal.returns-in-Ok-close_crew-clause-parts
returns-in-Ok-close_crew-clause-parts g c =
    let read = IfOk-at_ok _ c.in_ok-tail.was c.run_both-workers.ensures.read in
    same _ _ (sym (c.in-Ok-close_crew.ensures.metered read.0 read.2).parts)
