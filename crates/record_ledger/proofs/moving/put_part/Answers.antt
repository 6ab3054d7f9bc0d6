-- The record goes behind those of its bucket.
use Rattle.std.proofs.Common.{◌∷◌}
use Rattle.std.proofs.lemmas.List.Sorted.{IsPermutation-map}
use Rattle.record_ledger.specs.Buckets.{records_of}
use Rattle.record_ledger.proofs.Keyed.{part_of}
use Rattle.record_ledger.proofs.Dealt.{lies_pushed, pushed}
use Rattle.record_ledger.proofs.moving.put_part.Goals as goal

pub returns-clause-whole : goal.returns-clause-whole
returns-clause-whole c = IsPermutation-map part_of (_ ∷ records_of c.args.buckets.now) _
    (pushed c.args.buckets.now c.args.place c.push.new.self _ c.index-buckets-place.result
    c.requires c.in_ok-push.ensures.items)

pub returns-clause-by_key : goal.returns-clause-by_key
returns-clause-by_key c = λ count first is before.
    lies_pushed count first c.args.buckets.now c.args.place c.push.new.self _ c.index-buckets-place.result
    c.requires c.in_ok-push.ensures.items is before
