-- One more run of the part.
use Rattle.std.proofs.Common.{◌∙◌, ◌+◌, ◌++◌, ap, drop, take}
use Rattle.std.proofs.lemmas.List.{take_all}
use Rattle.ipfix_writer.specs.Layout.{together}
use Rattle.ipfix_writer.proofs.Copied.{put-one, put-split}
use Rattle.ipfix_writer.proofs.TakenIn.{none-in, more-in, whole-in, broken-in}
use Rattle.ipfix_writer.proofs.rounds.emit_part.Goals as goal

pub loop-run-init : goal.loop-run-init
loop-run-init g c = none-in c.args.emitter.now _ _ c.requires

pub returns-in-Err : goal.returns-in-Err
returns-in-Err g c =
    let part = c.args.part.now in
    let i = c.loop-run.run-index in
    let left = together (drop (i + 1) part) in
    broken-in c.in-Err.field-0 c.args.emitter.now c.loop-run.emitter c.emit_run.new.emitter (together (take i part))
    c.as_slice.result.now left (together part) _ _ _ _ _ _ c.loop-run.invariant c.in-Err.ensures
    (ap (λ run. together (take i part) ++ (run ++ left)) c.as_slice.ensures
    ∙ put-split (λ run. run) part i c.run-item.result c.loop-run-test.true c.run-item.is)

pub loop-run-preserved : goal.loop-run-preserved
loop-run-preserved g c =
    let part = c.args.part.now in
    let i = c.loop-run.run-index in
    more-in tt c.args.emitter.now c.loop-run.emitter c.emit_run.new.emitter (together (take i part))
    c.as_slice.result.now (together (take (i + 1) part)) _ _ _ _ _ _ c.loop-run.invariant c.in-Ok.ensures
    (ap (λ run. together (take i part) ++ run) c.as_slice.ensures
    ∙ put-one (λ run. run) part i c.run-item.result c.loop-run-test.true c.run-item.is)

pub returns : goal.returns
returns g c =
    let part = c.args.part.now in
    let i = c.loop-run.run-index in
    whole-in tt c.args.emitter.now c.loop-run.emitter (together (take i part)) (together part) _ _ _ _
    c.loop-run.invariant (ap together (take_all i part c.loop-run-test.false))
