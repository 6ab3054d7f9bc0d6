-- Each bucket is settled by one call.
use Rattle.std.proofs.Common.{rules, ◌≡◌, get_or, length, subst, arith}
use Rattle.flow_parts.specs.declared.fragment.Fragment.{Fragment}
use Rattle.record_ledger.specs.Buckets.{Bucket}
use Rattle.record_ledger.proofs.Dealt.{bucket_sum}
use Rattle.record_ledger.proofs.Settled.{all-zip, Settled}
use Rattle.record_ledger.proofs.settling.settle_all.Goals as goal

pub for_each_mut-requires-clause-accepts : goal.for_each_mut-requires-clause-accepts
for_each_mut-requires-clause-accepts g c = λ κs within i p low is. (
  omega (arith, bucket_sum (λ (f : Fragment). f.packets) c.args.buckets.now i p.now low is, c.requires.packets),
  omega (arith, bucket_sum (λ (f : Fragment). f.octets) c.args.buckets.now i p.now low is, c.requires.octets),
)

pub returns : goal.returns
returns g c =
    let R : Bucket → Bucket → Type 0 = Settled c.args.timeouts.now c.args.clock in
    let same : length c.for_each_mut.new.items ≡ length c.args.buckets.now = search rules in
    all-zip R c.args.buckets.now c.for_each_mut.new.items same (λ i d lt.
    let k = (c.for_each_mut.ensures i d lt).1 in
    subst (λ o. R o (get_or c.for_each_mut.new.items i d)) k.argument_is (subst (λ w. R k.argument.now w) k.left k.call))
