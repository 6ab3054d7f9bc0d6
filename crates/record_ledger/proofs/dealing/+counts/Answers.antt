-- What one pass over the pieces of both sides finds.
use Rattle.std.proofs.Common.{rules}
use Rattle.std.proofs.lemmas.Result.{IfOk-weaker}
use Rattle.record_ledger.specs.Counting.{IsCounted}
use Rattle.record_ledger.proofs.dealing.+counts.Goals as goal

pub count_both-returns : goal.count_both-returns
count_both-returns g t c =
    let ends = c.args.shares.now in
    let low : IsCounted ends c.args.low.now c.args.fragments c.in_ok-first.field-0 = search rules in
    let high : IsCounted ends c.args.high.now c.args.fragments c.in_ok-others.field-0 = search rules in
    IfOk-weaker c.joined.result _ _ (λ counted both. both ends c.args.low.now c.args.high.now c.args.fragments low high)
    c.joined.ensures
