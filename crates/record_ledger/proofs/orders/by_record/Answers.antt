-- Records stand by their keys as the keys do that are found.
use Rattle.std.proofs.Common.{◌∙◌}
use Rattle.std.specs.Option.{option_cmp}
use Rattle.std.specs.Ordering.{ordering_then}
use Rattle.flow_key.specs.Key.{key_order}
use Rattle.record_ledger.specs.Buckets.{record_at}
use Rattle.record_ledger.proofs.Stored.{by_keys}
use Rattle.record_ledger.proofs.orders.by_record.Goals as goal

pub returns : goal.returns
returns c =
    let one = record_at c.args.store.now c.args.one.now in
    let other = record_at c.args.store.now c.args.other.now in
    c.then.ensures
    ∙ (λ i. ordering_then ((c.by_found-keys.ensures
    ∙ (λ j. option_cmp key_order (c.key_at.ensures j) (c.key_at-2.ensures j)) ∙ by_keys one other) i)
    (c.by_seat.ensures i))
