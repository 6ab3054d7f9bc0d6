-- The flow records of the stream, their pairs, and the layout of these.
use Rattle.std.proofs.Common.{◌≡◌, ◌≤◌, ◌/◌, ◌%◌, ◌^◌, ◌∙◌, ℕ, List, Some, ap, subst, refl}
use Rattle.record_ledger.specs.declared.record.FlowRecord.{FlowRecord}
use Rattle.ipfix_reader.specs.Flows.{flows_of}
use Rattle.pair_program.specs.declared.biflow.Biflow.{Biflow}
use Rattle.pair_program.specs.Pairs.{ArePairs, members}
use Rattle.std.specs.List.Sorted.{IsPermutation}
use Rattle.pair_program.specs.BiLayout.{IsBiLayout}
use Rattle.pair_program.specs.Pairing.{greatest_last, bi_export_time, IsPaired}
use Rattle.pair_program.proofs.BiStreams.{biflows-back}
use Rattle.pair_program.proofs.Valid.{pairs-valid}
use Rattle.pair_program.proofs.stream.pairs_of.Goals as goal

paired-all : (idle size : ℕ) (stream written : List ℕ) (flows : List FlowRecord) (pairs : List Biflow)
    (greatest seconds : ℕ) → size ≤ 65535
    → flows_of stream ≡ Some flows → ArePairs idle flows pairs → IsPermutation flows (members pairs)
    → greatest ≡ greatest_last flows
    → seconds ≡ greatest / 1000 % 2 ^ 32 → IsBiLayout size seconds pairs written → IsPaired idle size stream written
paired-all idle size stream written flows pairs greatest seconds small read are once greatest_is seconds_is layout =
    let time : seconds ≡ bi_export_time flows = seconds_is ∙ ap (λ n. n / 1000 % 2 ^ 32) greatest_is in
    let laid : IsBiLayout size (bi_export_time flows) pairs written =
    subst (λ t. IsBiLayout size t pairs written) time layout in
    record {
      flows = flows;
      read = read;
      pairs = pairs;
      are_pairs = are;
      each_once = once;
      layout = laid;
      decoded = biflows-back size (bi_export_time flows) pairs written small
          (pairs-valid idle are.ordered pairs are.paired) laid;
    }

pub returns-in-Ok-pair-clause-paired : goal.returns-in-Ok-pair-clause-paired
returns-in-Ok-pair-clause-paired c = λ size written small layout.
    paired-all c.args.idle size c.args.stream.items written c.in-Ok.flows.items c.in-Ok-pair.pairs.items
    c.greatest_last.result _ small c.in-Ok.ensures.flows c.in-Ok-pair.ensures.pairs c.in-Ok-pair.ensures.each_once
    (c.greatest_last.ensures ∙ ap greatest_last c.as_slice.ensures.value) refl layout
