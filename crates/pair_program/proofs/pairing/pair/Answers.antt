-- The records in order, and then their pairs.
use Rattle.std.proofs.Common.{subst, List}
use Rattle.std.specs.List.Sorted.{IsPermutation}
use Rattle.std.proofs.lemmas.List.Sorted.{IsPermutation-trans}
use Rattle.record_ledger.specs.declared.record.FlowRecord.{FlowRecord}
use Rattle.pair_program.specs.Pairs.{members}
use Rattle.pair_program.proofs.Once.{paired-once, on_ok}
use Rattle.pair_program.proofs.pairing.pair.Goals as goal

pub returns-clause-each_once : goal.returns-clause-each_once
returns-clause-each_once c =
    on_ok c.pair_ordered.result c.pair_ordered.ensures (λ pairs paired.
    IsPermutation-trans c.args.records.items c.in_ok-ordered.ordered.items
    (members pairs.items) c.in_ok-ordered.ensures.permutation
    (subst (λ (rs : List FlowRecord). IsPermutation rs (members pairs.items)) c.as_slice.ensures.value
    (paired-once c.args.idle _ pairs.items paired)))
