-- One more part.
use Rattle.std.proofs.Common.{◌∙◌, ◌+◌, ◌++◌, ap, drop, take}
use Rattle.std.proofs.lemmas.List.{take_all}
use Rattle.ipfix_writer.specs.Layout.{together}
use Rattle.ipfix_writer.specs.Copies.{Part, records_of}
use Rattle.ipfix_writer.proofs.Copied.{put-one, put-split}
use Rattle.ipfix_writer.proofs.TakenIn.{none-in, more-in, whole-in, broken-in}
use Rattle.ipfix_writer.proofs.rounds.emit_parts.Goals as goal

pub loop-part-init : goal.loop-part-init
loop-part-init g c = none-in c.args.emitter.now _ _ c.requires

pub returns-in-Err : goal.returns-in-Err
returns-in-Err g c =
    let parts = c.args.parts.now in
    let i = c.loop-part.part-index in
    let left = records_of (drop (i + 1) parts) in
    broken-in c.in-Err.field-0 c.args.emitter.now c.loop-part.emitter c.emit_part.new.emitter
    (records_of (take i parts)) (together c.deref.result.now) left (records_of parts) _ _ _ _ _ _
    c.loop-part.invariant c.in-Err.ensures
    (ap (λ part. records_of (take i parts) ++ (together part ++ left)) c.deref.ensures.value
    ∙ put-split (λ (part : Part). together part.items) parts i c.part-item.result c.loop-part-test.true c.part-item.is)

pub loop-part-preserved : goal.loop-part-preserved
loop-part-preserved g c =
    let parts = c.args.parts.now in
    let i = c.loop-part.part-index in
    more-in tt c.args.emitter.now c.loop-part.emitter c.emit_part.new.emitter (records_of (take i parts))
    (together c.deref.result.now) (records_of (take (i + 1) parts)) _ _ _ _ _ _ c.loop-part.invariant c.in-Ok.ensures
    (ap (λ part. records_of (take i parts) ++ together part) c.deref.ensures.value
    ∙ put-one (λ (part : Part). together part.items) parts i c.part-item.result c.loop-part-test.true c.part-item.is)

pub returns : goal.returns
returns g c =
    let parts = c.args.parts.now in
    let i = c.loop-part.part-index in
    whole-in tt c.args.emitter.now c.loop-part.emitter (records_of (take i parts)) (records_of parts) _ _ _ _
    c.loop-part.invariant (ap records_of (take_all i parts c.loop-part-test.false))
