-- Each turn copies one more run.
use Rattle.std.proofs.Common.{◌≡◌, ◌∙◌, ◌+◌, ◌*◌, ◌<◌, ap, length, take, drop, List, arith}
use Rattle.std.proofs.Math.ListN.{length-set}
use Rattle.std.proofs.lemmas.List.{drop_min}
use Rattle.record_ledger.specs.declared.record.FlowRecord.{FlowRecord}
use Rattle.record_ledger.proofs.Copied.{one_more}
use Rattle.ipfix_writer.proofs.Copied.{part-copied}
use Rattle.ipfix_writer.proofs.rounds.copy_part.Goals as goal

pub loop-number-preserved : goal.loop-number-preserved
loop-number-preserved c =
    let records = c.args.records.now in
    let from = c.args.from in
    let number = c.loop-number.number in
    let runs = c.loop-number.part.items in
    let inside : number < length runs =
    omega (
      arith,
      c.loop-number-test.true,
      c.len-number-end.ensures,
      c.args.part.now.ok.0,
      c.requires,
      c.loop-number.invariant.many,
    ) in
    let run : c.copy_run.new.run ≡ take 16 (drop (from + number * 16) records) =
    c.copy_run.ensures ∙ ap (λ n. take 16 (drop n records)) c.place_behind-place.ensures
    ∙ ap (take 16) (drop_min (from + number * 16) records) in
    record {
      many = length-set runs number _ ∙ c.loop-number.invariant.many;
      copied = one_more (λ k d (x : List FlowRecord). x ≡ take 16 (drop (from + k * 16) records)) runs number _ inside
          (λ d. run) c.loop-number.invariant.copied;
    }

pub returns : goal.returns
returns c =
    let many = c.loop-number.invariant.many in
    record {
      whole = many;
      copies = part-copied c.args.records.now c.args.from c.loop-number.part.items many
          (λ k d l. c.loop-number.invariant.copied k d (omega (
            arith,
            l,
            many,
            c.loop-number-test.false,
            c.len-number-end.ensures,
            c.args.part.now.ok.0,
            c.requires,
          )));
    }
