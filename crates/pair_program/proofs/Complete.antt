-- Where a stream of flow records was given and no call failed, a command is done, or memory ran out.
use Rattle.std.proofs.Common.{◌≡◌, ◌⊎◌, inl, inr, ◌<◌, ℕ, List, [], ◌∷◌, length, Some, Result, Ok, Err, refl, sym, ap}
use Rattle.std.proofs.Common.{◌∙◌, subst, arith}
use Rattle.record_ledger.specs.declared.record.FlowRecord.{FlowRecord}
use Rattle.ipfix_model.specs.declared.values.DataRecord.{DataRecord}
use Rattle.ipfix_reader.specs.declared.fault.StreamFault.{StreamFault}
use Rattle.ipfix_reader.specs.Messages.{decode}
use Rattle.ipfix_reader.specs.Flows.{flows_in, flows_of}
use Rattle.meter_io.specs.Sides.{Side, HasFailed}
use Rattle.meter_io.proofs.Sides.{all-read, large-fails}
use Rattle.pair_program.specs.declared.status.PairStatus.{PairStatus}
use Rattle.pair_program.specs.declared.status.PairStatus.TheVariants.{Done, ReadFault, Usage, WriteFault, TooLarge}
use Rattle.pair_program.specs.declared.status.PairStatus.TheVariants.{NoMemory, NotStream, NotFlows}
use Rattle.pair_program.specs.Outcome.{Ends, IsValid, limit}
use Rattle.ipfix_reader.specs.Others.{IsFirstOther}
use Rattle.pair_program.specs.Words.{Asked}
use Rattle.pair_program.proofs.Whole.{flows-decode, each-flow}

no-fault : (bytes : List ℕ) (flows : List FlowRecord) (fault : StreamFault) → flows_of bytes ≡ Some flows
    → decode bytes ≡ Err fault → ⊥
no-fault bytes flows fault are wrong =
    let read = flows-decode bytes flows are in
    let two : Ok read.0 ≡ Err fault = sym read.1 ∙ wrong in cc

same-records : (records others : List DataRecord)
    → ◌≡◌ {A = Result (List DataRecord) StreamFault} (Ok records) (Ok others) → records ≡ others
same-records records others e = cc

no-other : (bytes : List ℕ) (flows : List FlowRecord) (records : List DataRecord) (place : ℕ)
    → flows_of bytes ≡ Some flows → decode bytes ≡ Ok records
    → IsFirstOther records place → ⊥
no-other bytes flows records place are decoded first =
    let read = flows-decode bytes flows are in
    let same : records ≡ read.0 = same-records records read.0 (sym decoded ∙ read.1) in
    each-flow records flows (subst (λ rs. flows_in rs ≡ Some flows) (sym same) read.2) place
    (any records first.inside) first.inside (first.other (any records first.inside))
  where
    any : (rs : List DataRecord) → place < length rs → DataRecord
    any [] low = absurd (omega (arith, low))
    any (r ∷ rs) low = r

pub completes : (asked : Asked) (input output : Side) (bytes : List ℕ) (status : PairStatus)
    → Ends asked input output status
    → input.before ≡ Some bytes → IsValid bytes → ¬ HasFailed input → ¬ HasFailed output
    → (status ≡ Done) ⊎ (status ≡ NoMemory)
completes asked input output bytes Done ends is valid quiet quiet' = inl refl
completes asked input output bytes NoMemory ends is valid quiet quiet' = inr refl
completes asked input output bytes WriteFault ends is valid quiet quiet' = absurd (quiet' ends.cause)
completes asked input output bytes ReadFault ends is valid quiet quiet' = absurd (quiet ends.cause.cause)
completes asked input output bytes Usage ends is valid quiet quiet' = absurd ends.cause
completes asked input output bytes TooLarge ends is valid quiet quiet' =
    absurd (large-fails input limit bytes is valid.0 ends.cause)
completes asked input output bytes (NotStream fault) ends is valid quiet quiet' =
    let wrong = ends.cause in
    let same = all-read input.before input.after bytes wrong.bytes is wrong.read.given wrong.read.ended in
    absurd (no-fault bytes valid.1 fault valid.2 (ap decode (sym same) ∙ wrong.fault))
completes asked input output bytes (NotFlows place) ends is valid quiet quiet' =
    let wrong = ends.cause in
    let same = all-read input.before input.after bytes wrong.bytes is wrong.read.given wrong.read.ended in
    absurd (no-other bytes valid.1 wrong.fault.0 place valid.2 (ap decode (sym same) ∙ wrong.fault.1) wrong.fault.2)
