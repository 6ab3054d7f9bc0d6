-- The share is the first one that ends behind the time.
use Rattle.std.proofs.Common.{◌≡◌, ◌<◌, length, ap, ◌∙◌, arith}
use Rattle.std.proofs.lemmas.List.{get_or_default}
use Rattle.record_ledger.specs.Buckets.{share_number}
use Rattle.record_ledger.proofs.Classed.{share_is}
use Rattle.record_ledger.proofs.sharing.Shares.number.Goals as goal

pub returns-then-time-index-clause-number : goal.returns-then-time-index-clause-number
returns-then-time-index-clause-number c =
    let ends = c.self.inside.ends.items in
    let within : c.loop-number.number < length ends =
    omega (arith, c.loop-number-test.true, c.len-number-end.ensures, c.self.inside.ends.ok.0) in
    let here = c.index.ensures ∙ get_or_default ends c.loop-number.number c.index.result.now 0 within in
    share_is ends c.loop-number.number c.args.time (omega arith) c.loop-number.invariant.over
    (λ l. omega (arith, here, c.if-time-index.true))
    ∙ ap (λ l. share_number l c.args.time) c.self.view_is

pub returns-clause-number : goal.returns-clause-number
returns-clause-number c =
    let ends = c.self.inside.ends.items in
    let all : c.len.result ≡ length ends = omega (arith, c.len.ensures, c.self.inside.ends.ok.0) in
    share_is ends c.len.result c.args.time (omega arith)
    (λ k l. c.loop-number.invariant.over k
    (omega (arith, l, c.loop-number-test.false, c.len-number-end.ensures, c.len.ensures)))
    (λ l. absurd (omega (arith, l, all)))
    ∙ ap (λ l. share_number l c.args.time) c.self.view_is
