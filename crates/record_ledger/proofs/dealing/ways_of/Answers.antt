-- Each turn finds the way of one more fragment.
use Rattle.std.proofs.Common.{◌≡◌, ◌-◌, get_or, inl, inr, sym, ap, ◌∙◌, subst, arith}
use Rattle.std.proofs.Math.ListN.{length-set}
use Rattle.std.proofs.lemmas.Bool.{cases_lt}
use Rattle.std.proofs.lemmas.Grind.{get_or-set_at}
use Rattle.std.proofs.lemmas.List.{get_or-set_other}
use Rattle.std.proofs.lemmas.Option.{get_or_from_slice_get}
use Rattle.record_ledger.specs.declared.dealing.Way.TheVariants.{Other}
use Rattle.record_ledger.specs.Buckets.{IsWay}
use Rattle.record_ledger.proofs.Marked.{mark_is}
use Rattle.record_ledger.proofs.dealing.ways_of.Goals as goal

pub loop-at-preserved : goal.loop-at-preserved
loop-at-preserved c =
    let piece = c.args.piece.now in
    let at = c.loop-at.at in
    let ways = c.loop-at.ways in
    let part = c.index-piece-at.result in
    let way = c.way_of.result in
    let was = c.loop-at.invariant in
    record {
      many = length-set ways (at - c.args.from) way ∙ was.many;
      low = omega (arith, was.low);
      high = omega (arith, c.loop-at-test.true);
      each = λ ends marked i f low l here. elim (cases_lt i at) [
        | inl before ↦ subst (IsWay c.args.counts.now ends c.args.share f)
            (sym (get_or-set_other ways (at - c.args.from) (i - c.args.from) way Other
            (λ e. absurd (omega (arith, e, before, low)))))
            (was.each ends marked i f low before here)
        | inr behind ↦
            let here' : i ≡ at = omega (arith, l, behind) in
            let same : part ≡ f = c.index-piece-at.is
            ∙ ap (λ n. get_or piece n part) (sym here') ∙ get_or_from_slice_get piece i f part here in
            subst (IsWay c.args.counts.now ends c.args.share f)
            (sym (get_or-set_at ways (at - c.args.from) (i - c.args.from) way Other (ap (λ n. n - c.args.from) here')
            (omega (arith, was.many, was.low, c.loop-at-test.true, c.requires.run.2))))
            (subst (λ g. IsWay c.args.counts.now ends c.args.share g way) same (c.way_of.ensures ends
            (mark_is ends piece c.args.marks.now at part (omega (arith, c.loop-at-test.true, c.requires.run.1)) marked
            c.index-piece-at.is)))
      ];
    }
