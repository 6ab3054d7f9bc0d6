-- Records that are copied from a list of places.
use Rattle.std.proofs.Common.{◌≡◌, ℕ, ◌+◌, ◌<◌, inl, inr, List, [], ◌∷◌, Option, Some, length, get_or, set, take, drop, All}
use Rattle.std.proofs.Common.{◌-◌, refl, sym, ap, ◌∙◌, subst, arith, get_or-set_other, get_or-set_same, option_map, min}
use Rattle.std.proofs.Common.{length-drop}
use Rattle.std.proofs.lemmas.Bool.{cases_lt}
use Rattle.std.proofs.lemmas.List.{ext_get_or, get_or-drop, get_or-take, length-take, length-take-le}
use Rattle.std.proofs.lemmas.List.Elements.{All-take, All-drop}
use Rattle.record_ledger.specs.declared.record.FlowRecord.{FlowRecord}
use Rattle.record_ledger.specs.declared.place.Place.{Place}
use Rattle.record_ledger.specs.declared.store.Store.{Store}
use Rattle.record_ledger.specs.Buckets.{IsPlace, record_at, records_at}
use Rattle.record_ledger.proofs.Placed.{as_many, record_of}
use Rattle.record_ledger.proofs.Unique.{record_same}

-- a record with the fragment and the reason of the one at a place is that one
pub same_found : (o : Option FlowRecord) → (r : FlowRecord) × (o ≡ Some r) → (x : FlowRecord)
    → option_map (λ (r : FlowRecord). r.part) o ≡ Some x.part → option_map (λ (r : FlowRecord). r.reason) o ≡ Some x.reason
    → o ≡ Some x
same_found o w x f n =
    let one : Some x.part ≡ Some w.0.part = sym f ∙ ap (option_map (λ (r : FlowRecord). r.part)) w.1 in
    let other : Some x.reason ≡ Some w.0.reason = sym n ∙ ap (option_map (λ (r : FlowRecord). r.reason)) w.1 in
    w.1 ∙ ap Some (sym (record_same x w.0 (cc) (cc)))

-- what holds of the elements of a list at some places, holds after one more is put in
pub one_more : {X : Type 0} (P : ℕ → X → X → Type 0) (xs : List X) (i : ℕ) (x : X) → i < length xs
    → ((d : X) → P i d x) → ((k : ℕ) (d : X) → k < i → P k d (get_or xs k d)) → (k : ℕ) (d : X) → k < i + 1
    → P k d (get_or (set xs i x) k d)
one_more P xs i x l here h k d m = elim (cases_lt k i) [
  | inl below ↦ subst (P k d) (sym (get_or-set_other xs i k x d (omega arith))) (h k d below)
  | inr above ↦ (let at : i ≡ k = omega arith in
      subst (λ n. P n d (get_or (set xs i x) n d)) at (subst (P i d) (sym (get_or-set_same xs i x d l)) (here d)))
]

-- and what holds of all, where it holds of the new one
pub still_all : {X : Type 0} (P : ℕ → X → X → Type 0) (xs : List X) (i : ℕ) (x : X) → i < length xs
    → ((d : X) → P i d x) → ((k : ℕ) (d : X) → k < length xs → P k d (get_or xs k d)) → (k : ℕ) (d : X)
    → k < length xs → P k d (get_or (set xs i x) k d)
still_all P xs i x l here h k d m = elim (cases_lt k (i + 1)) [
  | inl low ↦ one_more P xs i x l here (λ j e b. h j e (omega arith)) k d low
  | inr above ↦ subst (P k d) (sym (get_or-set_other xs i k x d (omega arith))) (h k d m)
]

-- lists with the same elements are equal
all_same : {X : Type 0} (xs ys : List X) → length xs ≡ length ys
    → ((k : ℕ) (d : X) → k < length xs → get_or xs k d ≡ get_or ys k d) → xs ≡ ys
all_same [] [] e h = refl
all_same [] (y ∷ ys) e h = absurd (omega (arith, e))
all_same (x ∷ xs) ys e h = ext_get_or x (x ∷ xs) ys e (λ k l. h k x l)

-- copies of so many elements from a place on
pub run_is : {X : Type 0} (n : ℕ) (run xs : List X) (place : ℕ) → length run ≡ min n (length (drop place xs))
    → ((k : ℕ) (d : X) → k < length run → get_or run k d ≡ get_or xs (place + k) d) → run ≡ take n (drop place xs)
run_is n run xs place many h = all_same run (take n (drop place xs)) (many ∙ sym (length-take n (drop place xs)))
    (λ k d l. h k d l ∙ sym (get_or-drop place xs k d)
    ∙ sym (get_or-take n (drop place xs) k d (omega (arith, many))))

-- places, and the records that they show
module _ (store : Store) (ps : List Place) (rs : List FlowRecord) (h : All (IsPlace store) ps)
    (shown : records_at store ps ≡ rs) where
  -- they are as many
  pub as_long : length ps ≡ length rs
  as_long = sym (as_many store ps h) ∙ ap length shown

  -- a record lies at each of the places
  pub place_there : (k : ℕ) (q : Place) → k < length rs → q ≡ get_or ps k q → IsPlace store q
  place_there k q l is = subst (IsPlace store) (sym is) (h k q (omega (arith, l, as_long)))

  -- what lies at one of the places is the record shown
  pub record_here : (k : ℕ) (q : Place) (x d : FlowRecord) → k < length rs → record_at store (get_or ps k q) ≡ Some x
      → x ≡ get_or rs k d
  record_here k q x d l e =
      sym (record_of store ps k q x d h (omega (arith, l, as_long)) e) ∙ ap (λ l. get_or l k d) shown

  -- and at each of their copies
  pub all_there : (m number : ℕ) (now copies : List Place) → copies ≡ take m (drop number now) → now ≡ ps
      → All (IsPlace store) copies
  all_there m number now copies are same = subst (All (IsPlace store)) (sym are)
      (All-take (IsPlace store) m (drop number now) (All-drop (IsPlace store) number now
      (subst (All (IsPlace store)) (sym same) h)))

  -- what lies at copies of the places from a number on, at most n of them, are copies of the records
  pub copied : (n m number : ℕ) (copies : List Place) (none : Place) (run : List FlowRecord)
      → copies ≡ take m (drop number ps) → m ≡ min n (length rs - number) → length run ≡ m
      → ((k : ℕ) (p : Place) (r : FlowRecord) → k < length copies
      → record_at store (get_or copies k p) ≡ Some (get_or run k r)) → run ≡ take n (drop number rs)
  copied n m number copies none run are most many each =
      let some : length copies ≡ m = ap length are
      ∙ length-take-le m (drop number ps) (omega (arith, most, as_long, length-drop number ps)) in
      run_is n run rs number (omega (arith, most, many, length-drop number rs)) (λ k d l.
      let at : get_or copies k none ≡ get_or ps (number + k) none = ap (λ l. get_or l k none) are
      ∙ get_or-take m (drop number ps) k none (omega (arith, l, many)) ∙ get_or-drop number ps k none in
      record_here (number + k) none (get_or run k d) d (omega (arith, l, most, many))
      (ap (record_at store) (sym at) ∙ each k none d (omega (arith, l, many, some))))
