-- Each record stands in exactly one pair.
use Rattle.std.proofs.Common.{◌≡◌, ℕ, Bool, true, false, List, [], ◌∷◌, ◌++◌, Option, Some, None, Result, Ok, Err}
use Rattle.std.proofs.Common.{if◌then◌else◌, refl, sym, subst}
use Rattle.std.specs.Prelude.{IfOk}
use Rattle.std.specs.List.Sorted.{IsPermutation}
use Rattle.std.proofs.lemmas.List.Sorted.{IsPermutation-refl, IsPermutation-sym, IsPermutation-trans}
use Rattle.std.proofs.lemmas.List.Sorted.{IsPermutation-cons, IsPermutation-middle, IsPermutation-append_right}
use Rattle.record_ledger.specs.declared.record.FlowRecord.{FlowRecord}
use Rattle.pair_program.specs.declared.biflow.Biflow.{Biflow}
use Rattle.pair_program.specs.Mates.{are_mates}
use Rattle.pair_program.specs.Pairs.{first_mate, without_mate, ArePaired, records_of, members}

abbrev mate_list : Option FlowRecord → List FlowRecord
mate_list None = []
mate_list (Some mate) = mate ∷ []

taken_out : (idle : ℕ) (forward : FlowRecord) (others : List FlowRecord)
    → IsPermutation others (mate_list (first_mate idle forward others) ++ without_mate idle forward others)
taken_out idle forward [] = IsPermutation-refl []
taken_out idle forward (other ∷ others) = by (are_mates idle forward other) (taken_out idle forward others)
  where
    by : (b : Bool)
        → IsPermutation others (mate_list (first_mate idle forward others) ++ without_mate idle forward others)
        → IsPermutation (other ∷ others) (mate_list (if b then Some other else first_mate idle forward others)
        ++ (if b then others else other ∷ without_mate idle forward others))
    by true rest = IsPermutation-refl (other ∷ others)
    by false rest =
        let mate = mate_list (first_mate idle forward others) in
        let left = without_mate idle forward others in
        IsPermutation-trans (other ∷ others) (other ∷ (mate ++ left)) (mate ++ other ∷ left)
        (IsPermutation-cons other others (mate ++ left) rest)
        (IsPermutation-sym (mate ++ other ∷ left) (other ∷ (mate ++ left)) (IsPermutation-middle mate other left))

records_of-is : (forward : FlowRecord) (reverse : Option FlowRecord) (more : List FlowRecord)
    → records_of forward reverse ++ more ≡ forward ∷ (mate_list reverse ++ more)
records_of-is forward None more = refl
records_of-is forward (Some reverse) more = refl

pub paired-once : (idle : ℕ) (records : List FlowRecord) (pairs : List Biflow) → ArePaired idle records pairs
    → IsPermutation records (members pairs)
paired-once idle records [] paired = subst (λ rs. IsPermutation rs []) (sym paired) (IsPermutation-refl [])
paired-once idle records (pair ∷ pairs) paired =
    let rest = paired.0 in
    let first = paired.1 in
    let others = first.others in
    let out = subst (λ r. IsPermutation others (mate_list r ++ without_mate idle pair.forward others))
    (sym first.reverse) (taken_out idle pair.forward others) in
    let left = subst (λ rs. IsPermutation others (mate_list pair.reverse ++ rs)) (sym first.left) out in
    let all = IsPermutation-trans others (mate_list pair.reverse ++ rest) (mate_list pair.reverse ++ members pairs) left
    (IsPermutation-append_right (mate_list pair.reverse) rest (members pairs) (paired-once idle rest pairs paired.2)) in
    subst (λ rs. IsPermutation rs (records_of pair.forward pair.reverse ++ members pairs)) (sym first.forward)
    (subst (λ ms. IsPermutation (pair.forward ∷ others) ms)
    (sym (records_of-is pair.forward pair.reverse (members pairs)))
    (IsPermutation-cons pair.forward others (mate_list pair.reverse ++ members pairs) all))

-- a fact of an outcome, under another
pub on_ok : {T E : Type 0} {P Q : T → Type 0} (r : Result T E) → IfOk r P → ((x : T) → P x → Q x) → IfOk r Q
on_ok (Ok x) h f = f x h
on_ok (Err e) h f = tt
