-- Records have one list of pairs.
use Rattle.std.proofs.Common.{◌≡◌, ◌<◌, ◌+◌, ℕ, zero, suc, Bool, true, false, cond, not, ◌&&◌, List, [], ◌∷◌, length}
use Rattle.std.proofs.Common.{get_or, filter, refl, sym, ap, subst, ◌∙◌, arith, All}
use Rattle.std.specs.Cmp.{IsStrictWeakOrder}
use Rattle.std.specs.Ordering.{is_lt}
use Rattle.std.specs.List.Sorted.{IsSortedBy, ties}
use Rattle.std.proofs.lemmas.List.Elements.{All-head, All-cons, All-from_get_or, All-filter}
use Rattle.std.proofs.lemmas.List.Sorted.{sorted_far}
use Rattle.record_ledger.specs.declared.record.FlowRecord.{FlowRecord}
use Rattle.pair_program.specs.declared.biflow.Biflow.{Biflow}
use Rattle.pair_program.specs.Pairs.{by_start, first_mate, without_mate, ArePaired, ArePairs}
use Rattle.pair_program.proofs.Order.{by_start_weak}

cons_head : {X : Type 0} (x y : X) (xs ys : List X) → x ∷ xs ≡ y ∷ ys → x ≡ y
cons_head x y xs ys is = cc

cons_tail : {X : Type 0} (x y : X) (xs ys : List X) → x ∷ xs ≡ y ∷ ys → xs ≡ ys
cons_tail x y xs ys is = cc

no_cons : {X : Type 0} (x : X) (xs : List X) → [] ≡ x ∷ xs → ⊥
no_cons x xs is = cc

-- what is behind an element that a filter keeps or doesn't
behind_both : {X : Type 0} (kept : Bool) (x : X) (xs ys : List X) → cond kept (x ∷ xs) xs ≡ cond kept (x ∷ ys) ys
    → xs ≡ ys
behind_both true x xs ys is = cons_tail x x xs ys is
behind_both false x xs ys is = is

-- sorted lists in which elements that tie stand in one order are one
module _ {X : Type 0} (lt : X → X → Bool) (o : IsStrictWeakOrder lt) where
  not_itself : (x : X) (b : Bool) → lt x x ≡ b → lt x x ≡ false
  not_itself x true is = o.one_way x x is
  not_itself x false is = is

  irreflexive : (x : X) → lt x x ≡ false
  irreflexive x = not_itself x (lt x x) refl

  ties_itself : (x : X) → ties lt x x ≡ true
  ties_itself x = ap (λ (b : Bool). not b && not b) (irreflexive x)

  kept_itself : (x : X) (xs : List X) → filter (ties lt x) (x ∷ xs) ≡ x ∷ filter (ties lt x) xs
  kept_itself x xs =
      ap (λ (b : Bool). cond b (x ∷ filter (ties lt x) xs) (filter (ties lt x) xs)) (ties_itself x)

  least : (x : X) (xs : List X) → IsSortedBy lt (x ∷ xs) → All (λ z. lt z x ≡ false) xs
  least x xs up = All-from_get_or (λ z. lt z x ≡ false) xs x (λ i low.
      sorted_far lt o (x ∷ xs) up zero (suc i) x (omega arith) (omega (arith, low)))

  rest_sorted : (x : X) (xs : List X) → IsSortedBy lt (x ∷ xs) → IsSortedBy lt xs
  rest_sorted x xs up = λ k d low high.
      let next : suc (k + 1) ≡ suc k + 1 = omega arith in
      ap (λ (n : ℕ). lt (get_or (x ∷ xs) n d) (get_or xs k d)) next
      ∙ up (suc k) d (omega arith) (omega (arith, high))

  -- the first of one list isn't behind that of the other
  not_before : (x y : X) (xs ys : List X) → IsSortedBy lt (x ∷ xs)
      → filter (ties lt y) (x ∷ xs) ≡ filter (ties lt y) (y ∷ ys) → lt y x ≡ false
  not_before x y xs ys up same =
      let P : X → Type 0 = λ z. lt z x ≡ false in
      let all = All-cons P x xs (irreflexive x) (least x xs up) in
      All-head P y (filter (ties lt y) ys)
      (subst (All P) (same ∙ kept_itself y ys) (All-filter (ties lt y) P (x ∷ xs) all))

  heads_same : (x y : X) (xs ys : List X) → IsSortedBy lt (x ∷ xs) → IsSortedBy lt (y ∷ ys)
      → ((z : X) → filter (ties lt z) (x ∷ xs) ≡ filter (ties lt z) (y ∷ ys)) → x ≡ y
  heads_same x y xs ys up up' same =
      let one : lt y x ≡ false = not_before x y xs ys up (same y) in
      let other : lt x y ≡ false = not_before y x ys xs up' (sym (same x)) in
      let tie : ties lt x y ≡ true =
      ap (λ (b : Bool). not b && not (lt y x)) other ∙ ap (λ (b : Bool). not false && not b) one in
      cons_head x y (filter (ties lt x) xs) (filter (ties lt x) ys)
      (sym (kept_itself x xs) ∙ same x
      ∙ ap (λ (b : Bool). cond b (y ∷ filter (ties lt x) ys) (filter (ties lt x) ys)) tie)

  pub one_sorted : (xs ys : List X) → IsSortedBy lt xs → IsSortedBy lt ys
      → ((z : X) → filter (ties lt z) xs ≡ filter (ties lt z) ys) → xs ≡ ys
  one_sorted [] [] up up' same = refl
  one_sorted [] (y ∷ ys) up up' same = absurd (no_cons y (filter (ties lt y) ys) (same y ∙ kept_itself y ys))
  one_sorted (x ∷ xs) [] up up' same = absurd
      (no_cons x (filter (ties lt x) xs) (sym (same x) ∙ kept_itself x xs))
  one_sorted (x ∷ xs) (y ∷ ys) up up' same =
      let e : x ≡ y = heads_same x y xs ys up up' same in
      ap (λ z. z ∷ xs) e
      ∙ ap (λ l. y ∷ l)
      (one_sorted xs ys (rest_sorted x xs up) (rest_sorted y ys up') (λ z.
      behind_both (ties lt z y) y (filter (ties lt z) xs) (filter (ties lt z) ys)
      (ap (λ w. filter (ties lt z) (w ∷ xs)) (sym e) ∙ same z)))

pair_same : (one other : Biflow) → one.forward ≡ other.forward → one.reverse ≡ other.reverse → one ≡ other
pair_same one other forward reverse = λ i. record { forward = forward i; reverse = reverse i }

-- the walk gives one list
walk_same : (idle : ℕ) (records : List FlowRecord) (one other : List Biflow) → ArePaired idle records one
    → ArePaired idle records other → one ≡ other
walk_same idle records [] [] a b = refl
walk_same idle records [] (q ∷ qs) a b =
    absurd (no_cons q.forward (b.1).others (sym a ∙ (b.1).forward))
walk_same idle records (p ∷ ps) [] a b =
    absurd (no_cons p.forward (a.1).others (sym b ∙ (a.1).forward))
walk_same idle records (p ∷ ps) (q ∷ qs) a b =
    let first = sym (a.1).forward ∙ (b.1).forward in
    let f : p.forward ≡ q.forward = cons_head p.forward q.forward (a.1).others (b.1).others first in
    let others : (a.1).others ≡ (b.1).others = cons_tail p.forward q.forward (a.1).others (b.1).others first in
    let reverse : p.reverse ≡ q.reverse =
    (a.1).reverse ∙ ap (λ forward. first_mate idle forward (a.1).others) f ∙ ap (first_mate idle q.forward) others
    ∙ sym (b.1).reverse in
    let rest : a.0 ≡ b.0 =
    (a.1).left ∙ ap (λ forward. without_mate idle forward (a.1).others) f ∙ ap (without_mate idle q.forward) others
    ∙ sym (b.1).left in
    ap (λ pair. pair ∷ ps) (pair_same p q f reverse)
    ∙ ap (λ pairs. q ∷ pairs)
    (walk_same idle b.0 ps qs (subst (λ rs. ArePaired idle rs ps) rest a.2) b.2)

pub pairs_same : (idle : ℕ) (records : List FlowRecord) (one other : List Biflow) → ArePairs idle records one
    → ArePairs idle records other → one ≡ other
pairs_same idle records one other a b =
    let same : a.ordered ≡ b.ordered =
    one_sorted (λ x y. is_lt (by_start x y)) by_start_weak a.ordered b.ordered a.sorted b.sorted
    (λ z. a.stable z ∙ sym (b.stable z)) in
    walk_same idle b.ordered one other (subst (λ rs. ArePaired idle rs one) same a.paired) b.paired
