-- Each turn moves the next fragment.
use Rattle.std.proofs.Common.{◌+◌, ◌∷◌, ◌++◌, drop, sym, ap, ◌∙◌, arith}
use Rattle.std.proofs.lemmas.List.{drop_more}
use Rattle.record_ledger.specs.Lawful.{parts_of}
use Rattle.record_ledger.specs.Buckets.{records_of}
use Rattle.record_ledger.proofs.Dealt.{next_dealt}
use Rattle.record_ledger.proofs.moving.move_parts.Goals as goal

pub loop-part-preserved : goal.loop-part-preserved
loop-part-preserved c =
    let parts = c.args.parts.now in
    let i = c.loop-part.part-index in
    let part = c.part-item.result in
    record {
      many = c.move_part.ensures.many ∙ c.loop-part.invariant.many;
      whole = next_dealt (parts ++ parts_of (records_of c.args.buckets.now)) (drop i parts) (drop (i + 1) parts) part
          (parts_of (records_of c.loop-part.buckets)) (parts_of (records_of c.move_part.new.buckets))
          (drop_more parts i part (omega (arith, c.loop-part-test.true)) ∙ ap (λ p. p ∷ drop (i + 1) parts) (sym c.part-item.is))
          c.loop-part.invariant.whole c.in_ok-move_part.ensures.whole;
      by_key = λ before. c.in_ok-move_part.ensures.by_key (c.loop-part.invariant.by_key before);
    }
