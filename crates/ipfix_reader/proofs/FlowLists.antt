-- The flow records of the records that were taken so far.
use Rattle.std.proofs.Common.{◌≡◌, ◌≢◌, ◌<◌, ℕ, zero, suc, Bool, true, false, List, [], ◌∷◌, ◌++◌, length, get_or}
use Rattle.std.proofs.Common.{Option, Some}
use Rattle.std.proofs.Common.{None, Ok, option_map, refl, sym, ap, subst, ◌∙◌, arith, append_assoc, length-append}
use Rattle.std.specs.Option.{option_and_then}
use Rattle.std.specs.Result.{result_ok}
use Rattle.record_ledger.specs.declared.record.FlowRecord.{FlowRecord}
use Rattle.ipfix_model.specs.declared.values.DataRecord.{DataRecord}
use Rattle.ipfix_reader.specs.Messages.{decode}
use Rattle.ipfix_reader.specs.Flows.{flow, flows_in, flows_of}
use Rattle.ipfix_reader.specs.Others.{IsFirstOther}
use Rattle.ipfix_reader.specs.Taking.{HasFlows}

none_some : (flows : List FlowRecord) → ◌≡◌ {A = Option (List FlowRecord)} None (Some flows) → ⊥
none_some flows e = cc

same_flows : (one other : List FlowRecord) → ◌≡◌ {A = Option (List FlowRecord)} (Some one) (Some other) → one ≡ other
same_flows one other e = cc

-- a list of flow records is one, and those behind it
record Parts (first : Option FlowRecord) (rest : Option (List FlowRecord)) (flows : List FlowRecord) : Type 0 where
  pub one : FlowRecord
  pub others : List FlowRecord
  pub first_is : first ≡ Some one
  pub rest_are : rest ≡ Some others
  pub whole : one ∷ others ≡ flows

parts : (first : Option FlowRecord) (rest : Option (List FlowRecord)) (flows : List FlowRecord)
    → option_and_then (λ f. option_map (λ fs. f ∷ fs) rest) first ≡ Some flows → Parts first rest flows
parts None rest flows e = absurd (none_some flows e)
parts (Some f) None flows e = absurd (none_some flows e)
parts (Some f) (Some fs) flows e =
    record { one = f; others = fs; first_is = refl; rest_are = refl; whole = same_flows (f ∷ fs) flows e }

together : (first : Option FlowRecord) (rest : Option (List FlowRecord)) (one : FlowRecord) (others : List FlowRecord)
    → first ≡ Some one → rest ≡ Some others
    → option_and_then (λ f. option_map (λ fs. f ∷ fs) rest) first ≡ Some (one ∷ others)
together first rest one others first_is rest_are = rw (first_is, rest_are) refl

-- one flow record more
pub flows-more : (records : List DataRecord) (flows : List FlowRecord) (one : DataRecord) (found : FlowRecord)
    → flows_in records ≡ Some flows → flow one ≡ Some found → flows_in (records ++ one ∷ [])
    ≡ Some (flows ++ found ∷ [])
flows-more [] flows one found are is =
    together (flow one) (Some []) found [] is refl
    ∙ ap (λ (fs : List FlowRecord). Some (fs ++ found ∷ [])) (same_flows [] flows are)
flows-more (x ∷ xs) flows one found are is =
    let p = parts (flow x) (flows_in xs) flows are in
    together (flow x) (flows_in (xs ++ one ∷ [])) p.one (p.others ++ found ∷ []) p.first_is
    (flows-more xs p.others one found p.rest_are is)
    ∙ ap (λ (fs : List FlowRecord). Some (fs ++ found ∷ [])) p.whole

-- another record behind them
pub flows-other : (records : List DataRecord) (flows : List FlowRecord) (one : DataRecord)
    → flows_in records ≡ Some flows
    → flow one ≡ None → HasFlows flows true (records ++ one ∷ [])
flows-other records flows one are is =
    record { front = records; one = one; behind = []; whole = refl; flows_are = are; other = is }

-- and any behind that one
pub flows-behind : (records : List DataRecord) (flows : List FlowRecord) (one : DataRecord)
    → HasFlows flows true records
    → HasFlows flows true (records ++ one ∷ [])
flows-behind records flows one begun = record {
  front = begun.front;
  one = begun.one;
  behind = begun.behind ++ one ∷ [];
  whole = ap (λ (rs : List DataRecord). rs ++ one ∷ []) begun.whole
      ∙ append_assoc begun.front (begun.one ∷ begun.behind) (one ∷ []);
  flows_are = begun.flows_are;
  other = begun.other;
}

-- records of which each is a flow record
each-flow : (records behind : List DataRecord) (flows : List FlowRecord) → flows_in records ≡ Some flows
    → (k : ℕ) (d : DataRecord) → k < length records → flow (get_or (records ++ behind) k d) ≢ None
each-flow [] behind flows are k d low = absurd (omega (arith, low))
each-flow (x ∷ xs) behind flows are zero d low = λ none.
    let p = parts (flow x) (flows_in xs) flows are in
    let both : None ≡ Some p.one = sym none ∙ p.first_is in cc
each-flow (x ∷ xs) behind flows are (suc k) d low =
    let p = parts (flow x) (flows_in xs) flows are in
    each-flow xs behind p.others p.rest_are k d (omega (arith, low))

as-many : (records : List DataRecord) (flows : List FlowRecord) → flows_in records ≡ Some flows
    → length records ≡ length flows
as-many [] flows are = ap length (same_flows [] flows are)
as-many (x ∷ xs) flows are =
    let p = parts (flow x) (flows_in xs) flows are in
    let count = as-many xs p.others p.rest_are in
    let whole : length (p.one ∷ p.others) ≡ length flows = ap length p.whole in
    omega (arith, count, whole)

there : (front behind : List DataRecord) (one d : DataRecord) → get_or (front ++ one ∷ behind) (length front) d ≡ one
there [] behind one d = refl
there (x ∷ xs) behind one d = there xs behind one d

first-of : (front behind : List DataRecord) (one : DataRecord) (flows : List FlowRecord) → flows_in front ≡ Some flows
    → flow one ≡ None → IsFirstOther (front ++ one ∷ behind) (length flows)
first-of front behind one flows are other =
    let count = as-many front flows are in
    let long = length-append front (one ∷ behind) in
    record {
      inside = omega (arith, count, long);
      other = λ d. ap (λ (k : ℕ). flow (get_or (front ++ one ∷ behind) k d)) (sym count)
          ∙ ap flow (there front behind one d) ∙ other;
      before = λ k d below. each-flow front (one ∷ behind) flows are k d (omega (arith, below, count));
    }

-- the first other record stands behind the flow records
pub first-other : (records : List DataRecord) (flows : List FlowRecord) → HasFlows flows true records
    → IsFirstOther records (length flows)
first-other records flows begun =
    subst (λ (rs : List DataRecord). IsFirstOther rs (length flows)) (sym begun.whole)
    (first-of begun.front begun.behind begun.one flows begun.flows_are begun.other)

-- before the first record
pub flows-none : (flows : List FlowRecord) (other : Bool) → flows ≡ [] → other ≡ false → HasFlows flows other []
flows-none flows other are is =
    subst (λ (b : Bool). HasFlows flows b []) (sym is) (ap (λ (fs : List FlowRecord). Some fs) (sym are))

-- the flow records of a whole stream
pub flows-whole : (bytes : List ℕ) (records : List DataRecord) (flows : List FlowRecord) → decode bytes ≡ Ok records
    → HasFlows flows false records → flows_of bytes ≡ Some flows
unfolding flows_of
flows-whole bytes records flows decoded are =
    ap (λ read. option_and_then flows_in (result_ok read)) decoded ∙ are
