-- A stream of flow records has no fault, and only flow records.
use Rattle.std.proofs.Common.{◌≡◌, ◌≢◌, ◌<◌, ℕ, zero, suc, List, [], ◌∷◌, length, get_or, Option, Some, None, Result}
use Rattle.std.proofs.Common.{Ok, Err, option_map, refl, sym, arith}
use Rattle.std.specs.Option.{option_and_then}
use Rattle.std.specs.Result.{result_ok}
use Rattle.record_ledger.specs.declared.record.FlowRecord.{FlowRecord}
use Rattle.ipfix_model.specs.declared.values.DataRecord.{DataRecord}
use Rattle.ipfix_reader.specs.declared.fault.StreamFault.{StreamFault}
use Rattle.ipfix_reader.specs.Messages.{decode}
use Rattle.ipfix_reader.specs.Flows.{flow, flows_in, flows_of}

none_some : {A B : Type 0} (a : A) → ◌≡◌ {A = Option A} None (Some a) → B
none_some a e = absurd (let z : ◌≡◌ {A = Option _} None (Some a) = e in cc)

by_result : (r : Result (List DataRecord) StreamFault) (flows : List FlowRecord)
    → option_and_then flows_in (result_ok r) ≡ Some flows
    → (records : List DataRecord) × (r ≡ Ok records) × (flows_in records ≡ Some flows)
by_result (Ok records) flows e = (records, refl, e)
by_result (Err fault) flows e = none_some flows e

pub flows-decode : (bytes : List ℕ) (flows : List FlowRecord) → flows_of bytes ≡ Some flows
    → (records : List DataRecord) × (decode bytes ≡ Ok records) × (flows_in records ≡ Some flows)
unfolding flows_of
flows-decode bytes flows e = by_result (decode bytes) flows e

two-parts : (first : Option FlowRecord) (rest : Option (List FlowRecord)) (flows : List FlowRecord)
    → option_and_then (λ f. option_map (λ fs. f ∷ fs) rest) first ≡ Some flows
    → (first ≢ None) × ((others : List FlowRecord) × (rest ≡ Some others))
two-parts None rest flows e = none_some flows e
two-parts (Some f) None flows e = none_some flows e
two-parts (Some f) (Some fs) flows e = ((λ z. none_some f (sym z)), (fs, refl))

pub each-flow : (records : List DataRecord) (flows : List FlowRecord) → flows_in records ≡ Some flows
    → (place : ℕ) (d : DataRecord) → place < length records → flow (get_or records place d) ≢ None
each-flow [] flows e place d low = absurd (omega (arith, low))
each-flow (x ∷ xs) flows e zero d low = (two-parts (flow x) (flows_in xs) flows e).0
each-flow (x ∷ xs) flows e (suc place) d low =
    let parts = two-parts (flow x) (flows_in xs) flows e in
    each-flow xs parts.1.0 parts.1.1 place d (omega (arith, low))
