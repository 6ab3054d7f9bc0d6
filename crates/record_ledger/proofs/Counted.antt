-- Slots of keys, and how many fragments each has.
use Rattle.std.proofs.Common.{◌≡◌, ◌≢◌, ℕ, suc, ◌+◌, ◌<◌, ◌≤◌, Bool, true, false, cond, inl, inr, List, [], ◌∷◌, ◌++◌}
use Rattle.std.proofs.Common.{length, get_or, refl, sym, ap, ◌∙◌, subst, arith, All, IsPermutation}
use Rattle.std.specs.Prelude.{count_by, ◌==◌}
use Rattle.std.proofs.lemmas.Bool.Decides.{eqb_tells}
use Rattle.std.proofs.lemmas.Bool.{cases_lt, eq-eqb}
use Rattle.std.proofs.lemmas.List.Sums.{sum_by-append, sum_by-cons}
use Rattle.std.proofs.lemmas.List.Elements.{All-cons, All-nil, All-head, All-tail, All-weaker}
use Rattle.std.proofs.lemmas.List.Sorted.{sum_by-IsPermutation}
use Rattle.flow_parts.specs.declared.fragment.Fragment.{Fragment}
use Rattle.record_ledger.specs.Buckets.{slot_number, count_in, CountsSlots, IsCountedAlone}
use Rattle.record_ledger.specs.Steps.{Rises}
use Rattle.record_ledger.proofs.Rising.{All-front, All-back}

module _ {X : Type 0} (p : X → Bool) where
  abbrev one_by : Bool → ℕ
  one_by b = cond b 1 0

  abbrev one_if : X → ℕ
  one_if x = one_by (p x)

  count_yes : (x : X) (xs : List X) → p x ≡ true → count_by p (x ∷ xs) ≡ suc (count_by p xs)
  count_yes x xs e = (let one = ap (λ b. one_by b) e in omega (arith, one, sum_by-cons one_if x xs))

  count_more : (x : X) (xs : List X) → count_by p xs ≤ count_by p (x ∷ xs)
  count_more x xs = omega (arith, sum_by-cons one_if x xs)

  one_one : (b : Bool) → one_by b ≡ 0 → b ≡ false
  one_one true e = absurd (omega (arith, e))
  one_one false e = refl

  none_counted : (xs : List X) → count_by p xs ≡ 0 → All (λ x. p x ≡ false) xs
  none_counted [] e = All-nil (λ x. p x ≡ false)
  none_counted (x ∷ xs) e = All-cons (λ x. p x ≡ false) x xs (one_one (p x) (omega (arith, e, sum_by-cons one_if x xs)))
      (none_counted xs (omega (arith, e, sum_by-cons one_if x xs)))

  count_last : (xs : List X) (x : X) → count_by p (xs ++ x ∷ []) ≡ count_by p xs + one_by (p x)
  count_last xs x = (let e = sum_by-append one_if xs (x ∷ []) in omega (arith, e, sum_by-cons one_if x []))

-- one more fragment is counted, where its slot's count comes to more than none, and to one from none alone
pub counted_more : (before : List Fragment) (old new : List ℕ) (part : Fragment) (slot : ℕ) → length new ≡ length old
    → slot ≡ slot_number part.key (length old) → 1 ≤ get_or new slot 0
    → (get_or new slot 0 ≡ 1 → get_or old slot 0 ≡ 0)
    → ((s : ℕ) → s < length old → s ≢ slot → get_or new s 0 ≡ get_or old s 0)
    → CountsSlots before old → CountsSlots (before ++ part ∷ []) new
counted_more before old new part slot same is some first others h = (
  omega (arith, same, h.0),
  subst (λ n. (s : ℕ) → s < n → (get_or new s 0 ≡ 0 → count_in n s (before ++ part ∷ []) ≡ 0)
      × (get_or new s 0 ≡ 1 → count_in n s (before ++ part ∷ []) ≡ 1)) (sym same) each,
)
  where
    each : (s : ℕ) → s < length old → (get_or new s 0 ≡ 0 → count_in (length old) s (before ++ part ∷ []) ≡ 0)
        × (get_or new s 0 ≡ 1 → count_in (length old) s (before ++ part ∷ []) ≡ 1)
    each s l =
        let sum = count_last (λ (f : Fragment). slot_number f.key (length old) == s) before part in
        let was = h.1 s l in
        elim (eqb_tells (slot_number part.key (length old)) s) [
          | inl on ↦
              let one = ap (λ (b : Bool). cond {A = ℕ} b 1 0) on.0 in
              let here : slot ≡ s = is ∙ on.1 in
              let now : get_or new slot 0 ≡ get_or new s 0 = ap (λ i. get_or new i 0) here in
              let then : get_or old slot 0 ≡ get_or old s 0 = ap (λ i. get_or old i 0) here in (
                λ e. absurd (omega (arith, e, now, some)),
                λ e. (let none = was.0 (sym then ∙ first (now ∙ e)) in omega (arith, sum, one, none)),
              )
          | inr off ↦
              let zero' = ap (λ (b : Bool). cond {A = ℕ} b 1 0) off.0 in
              let here : get_or new s 0 ≡ get_or old s 0 = others s l (λ e. off.1 (sym is ∙ sym e)) in (
                λ e. (let none = was.0 (sym here ∙ e) in omega (arith, sum, zero', none)),
                λ e. (let one = was.1 (sym here ∙ e) in omega (arith, sum, zero', one)),
              )
        ]

-- counts of some fragments and of others, added
pub counts_added : (before more : List Fragment) (one other both : List ℕ) → length other ≡ length one
    → length both ≡ length one
    → ((s : ℕ) → s < length one → (get_or both s 0 ≡ 0 → get_or one s 0 + get_or other s 0 ≡ 0)
    × (get_or both s 0 ≡ 1 → get_or one s 0 + get_or other s 0 ≡ 1))
    → CountsSlots before one → CountsSlots more other → CountsSlots (before ++ more) both
counts_added before more one other both same long each h k = (
  omega (arith, long, h.0),
  subst (λ n. (s : ℕ) → s < n → (get_or both s 0 ≡ 0 → count_in n s (before ++ more) ≡ 0)
      × (get_or both s 0 ≡ 1 → count_in n s (before ++ more) ≡ 1)) (sym long) all,
)
  where
    here : (s : ℕ) → s < length one → (get_or other s 0 ≡ 0 → count_in (length one) s more ≡ 0)
        × (get_or other s 0 ≡ 1 → count_in (length one) s more ≡ 1)
    here = subst (λ n. (s : ℕ) → s < n → (get_or other s 0 ≡ 0 → count_in n s more ≡ 0)
        × (get_or other s 0 ≡ 1 → count_in n s more ≡ 1)) same k.1

    all : (s : ℕ) → s < length one → (get_or both s 0 ≡ 0 → count_in (length one) s (before ++ more) ≡ 0)
        × (get_or both s 0 ≡ 1 → count_in (length one) s (before ++ more) ≡ 1)
    all s l =
        let sum = sum_by-append (λ (f : Fragment). cond {A = ℕ} (slot_number f.key (length one) == s) 1 0) before more in (
          λ e.
              let none = (each s l).0 e in
              let x = (h.1 s l).0 (omega (arith, none)) in
              let y = (here s l).0 (omega (arith, none)) in
              omega (arith, sum, x, y),
          λ e.
              let once = (each s l).1 e in
              elim (cases_lt 0 (get_or one s 0)) [
                | inl some ↦
                    let x = (h.1 s l).1 (omega (arith, once, some)) in
                    let y = (here s l).0 (omega (arith, once, some)) in
                    omega (arith, sum, x, y)
                | inr none ↦
                    let x = (h.1 s l).0 (omega (arith, none)) in
                    let y = (here s l).1 (omega (arith, once, none)) in
                    omega (arith, sum, x, y)
              ],
        )

-- where each of some fragments is alone in its slot, none has the key of another
module _ (n : ℕ) where
  abbrev Few : List Fragment → Fragment → Type 0
  Few all f = count_in n (slot_number f.key n) all ≤ 1

  unlike_rest : (f : Fragment) (rest : List Fragment) → Few (f ∷ rest) f → All (λ (g : Fragment). f.key ≢ g.key) rest
  unlike_rest f rest few =
      let p : Fragment → Bool = λ g. slot_number g.key n == slot_number f.key n in
      let more = count_yes p f rest (eq-eqb (slot_number f.key n) (slot_number f.key n) refl) in
      All-weaker (λ g. p g ≡ false) (λ (g : Fragment). f.key ≢ g.key)
      (λ g off same. (let on = eq-eqb (slot_number g.key n) (slot_number f.key n)
      (ap (λ k. slot_number k n) (sym same)) in
      let never : true ≡ false = sym on ∙ off in cc)) rest
      (none_counted p rest (omega (arith, more, few)))

  pub unlike_all : (alone others : List Fragment) → All (Few (alone ++ others)) alone
      → Rises (λ (f g : Fragment). f.key ≢ g.key) alone
      × All (λ (f : Fragment). All (λ (g : Fragment). f.key ≢ g.key) others) alone
  unlike_all [] others h = (tt, All-nil (λ (f : Fragment). All (λ (g : Fragment). f.key ≢ g.key) others))
  unlike_all (f ∷ alone) others h =
      let rest = unlike_rest f (alone ++ others) (All-head (Few (f ∷ (alone ++ others))) f alone h) in
      let more = unlike_all alone others (All-weaker (Few (f ∷ (alone ++ others))) (Few (alone ++ others))
      (λ g few. (let le = count_more (λ (e : Fragment). slot_number e.key n == slot_number g.key n) f (alone ++ others)
      in omega (arith, le, few))) alone (All-tail (Few (f ∷ (alone ++ others))) f alone h)) in (
        (All-front (λ (g : Fragment). f.key ≢ g.key) alone others rest, more.0),
        All-cons (λ (f : Fragment). All (λ (g : Fragment). f.key ≢ g.key) others) f alone
            (All-back (λ (g : Fragment). f.key ≢ g.key) alone others rest) more.1,
      )

pub counted_unlike : (counts : List ℕ) (parts alone others : List Fragment) → CountsSlots parts counts
    → IsPermutation parts (alone ++ others) → All (IsCountedAlone counts) alone
    → Rises (λ (f g : Fragment). f.key ≢ g.key) alone
    × All (λ (f : Fragment). All (λ (g : Fragment). f.key ≢ g.key) others) alone
counted_unlike counts parts alone others c perm h = unlike_all (length counts) alone others
    (All-weaker (IsCountedAlone counts) (Few (length counts) (alone ++ others))
    (λ f is. (let one = (c.1 (slot_number f.key (length counts)) is.0).1 is.1 in
    let same = sum_by-IsPermutation
    (λ (g : Fragment). cond (slot_number g.key (length counts) == slot_number f.key (length counts)) 1 0) parts
    (alone ++ others) perm in
    omega (arith, one, same))) alone h)
