-- Lists of records that are changed in place.
use Rattle.std.proofs.Common.{◌≡◌, ℕ, ◌+◌, ◌-◌, ◌<◌, ◌≤◌, inl, inr, List, [], ◌∷◌, ◌++◌, length, get_or, set, take}
use Rattle.std.proofs.Common.{drop, sym, ap, ◌∙◌, subst, arith, get_or-set_other, get_or-set_same}
use Rattle.std.proofs.Math.Seq.{map-set_same}
use Rattle.std.proofs.lemmas.Bool.{cases_lt}
use Rattle.std.proofs.lemmas.List.{get_or-take, length-map, length-take, take-map, take_more}
use Rattle.flow_parts.specs.declared.fragment.Fragment.{Fragment}
use Rattle.flow_parts.specs.declared.timeouts.Timeouts.{Timeouts}
use Rattle.record_ledger.specs.declared.record.FlowRecord.{FlowRecord}
use Rattle.record_ledger.specs.Lawful.{parts_of, reason_of}
use Rattle.record_ledger.specs.Steps.{next_of_key}

-- the record in this place has its reason
abbrev pub HasReasonAt : Timeouts → ℕ → List FlowRecord → ℕ → FlowRecord → Type 0
HasReasonAt limits clock xs k d = (get_or xs k d).reason
    ≡ reason_of limits clock (get_or xs k d).part (next_of_key (get_or xs k d).part (drop (k + 1) (parts_of xs)))

module _ (limits : Timeouts) (clock : ℕ) where
  abbrev IsRight : List Fragment → FlowRecord → Type 0
  IsRight rest r = r.reason ≡ reason_of limits clock r.part (next_of_key r.part rest)

  -- one more record has its reason, which was there before with the same fragment
  pub reasons_more : (xs : List FlowRecord) (i : ℕ) (r d : FlowRecord) → i < length xs → r.part ≡ (get_or xs i d).part
      → IsRight (drop (i + 1) (parts_of xs)) r
      → ((k : ℕ) (d : FlowRecord) → k < i → HasReasonAt limits clock xs k d) → (k : ℕ) (d : FlowRecord) → k < i + 1
      → HasReasonAt limits clock (set xs i r) k d
  reasons_more xs i r e l part right h k d m =
      let same : parts_of (set xs i r) ≡ parts_of xs = map-set_same (λ (z : FlowRecord). z.part) xs i r e part in
      elim (cases_lt k i) [
        | inl below ↦ subst (λ fs. IsRight (drop (k + 1) fs) (get_or (set xs i r) k d)) (sym same)
            (subst (IsRight (drop (k + 1) (parts_of xs))) (sym (get_or-set_other xs i k r d (omega arith)))
            (h k d below))
        | inr above ↦ (let at : i ≡ k = omega arith in
            subst (λ n. HasReasonAt limits clock (set xs i r) n d) at
            (subst (λ fs. IsRight (drop (i + 1) fs) (get_or (set xs i r) i d)) (sym same)
            (subst (IsRight (drop (i + 1) (parts_of xs))) (sym (get_or-set_same xs i r d l)) right)))
      ]

-- the last of the first n records
pub top_of : (X : List FlowRecord) (n : ℕ) (d : Fragment) → n ≤ length X → 0 < n
    → get_or (parts_of (take n X)) (length (take n X) - 1) d ≡ get_or (parts_of X) (n - 1) d
top_of X n d le some =
    let long : length (take n X) ≡ n = omega (arith, length-take n X) in
    ap (λ m. get_or (parts_of (take n X)) (m - 1) d) long
    ∙ ap (λ fs. get_or fs (n - 1) d) (sym (take-map (λ (r : FlowRecord). r.part) n X))
    ∙ get_or-take n (parts_of X) (n - 1) d (omega arith)

pub top_split : (X : List FlowRecord) (n : ℕ) (top : Fragment) → n ≤ length X → 0 < n
    → get_or (parts_of (take n X)) (length (take n X) - 1) top ≡ top
    → take n (parts_of X) ≡ take (n - 1) (parts_of X) ++ top ∷ []
top_split X n top le some at =
    let F : List Fragment = parts_of X in
    let more : n - 1 + 1 ≡ n = omega arith in
    let last : get_or F (n - 1) top ≡ top = sym (top_of X n top le some) ∙ at in
    ap (λ m. take m F) (sym more) ∙ take_more F (n - 1) top
    (let long = length-map X (λ (r : FlowRecord). r.part) in omega arith) ∙ ap (λ f. take (n - 1) F ++ f ∷ []) last
