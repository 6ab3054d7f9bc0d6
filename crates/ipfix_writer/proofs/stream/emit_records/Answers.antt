-- One more run of 16 records; and no more are left.
use Rattle.std.proofs.Common.{◌≤◌, ◌∙◌, ◌+◌, ◌*◌, length, take, drop, arith}
use Rattle.std.proofs.lemmas.Grind.{div_ceil_times}
use Rattle.ipfix_writer.proofs.UnderWay.{all-taken}
use Rattle.ipfix_writer.proofs.Runs.{run-taken, run-split}
use Rattle.ipfix_writer.proofs.TakenIn.{none-in, more-in, whole-in, broken-in}
use Rattle.ipfix_writer.proofs.stream.emit_records.Goals as goal

pub loop-number-init : goal.loop-number-init
loop-number-init g c = none-in c.args.emitter.now _ _ c.requires

pub returns-in-Err : goal.returns-in-Err
returns-in-Err g c =
    let records = c.args.records.now in
    let number = c.loop-number.number in
    let run = c.as_slice.result.now in
    broken-in c.in-Err.field-0 c.args.emitter.now c.loop-number.emitter c.emit_run.new.emitter
    (take (number * 16) records) run (drop 16 (drop (number * 16) records)) records _ _ _ _ _ _
    c.loop-number.invariant c.in-Err.ensures (run-split records run number (c.as_slice.ensures ∙ c.copy_run.ensures))

pub loop-number-preserved : goal.loop-number-preserved
loop-number-preserved g c =
    let records = c.args.records.now in
    let number = c.loop-number.number in
    let run = c.as_slice.result.now in
    more-in tt c.args.emitter.now c.loop-number.emitter c.emit_run.new.emitter (take (number * 16) records) run
    (take ((number + 1) * 16) records) _ _ _ _ _ _ c.loop-number.invariant c.in-Ok.ensures
    (run-taken records run number (c.as_slice.ensures ∙ c.copy_run.ensures))

pub returns : goal.returns
returns g c =
    let records = c.args.records.now in
    let number = c.loop-number.number in
    let past : length records ≤ number * 16 =
    omega (
      arith,
      div_ceil_times (length records) 16,
      c.len.ensures,
      c.div_ceil-number-end.ensures,
      c.loop-number-test.false,
    ) in
    whole-in tt c.args.emitter.now c.loop-number.emitter (take (number * 16) records) records _ _ _ _
    c.loop-number.invariant (all-taken records (number * 16) past)
