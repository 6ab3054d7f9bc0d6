-- Counts of two bits each, four of them in an octet.
use Rattle.std.proofs.Common.{◌≡◌, ◌≢◌, ℕ, zero, suc, ◌+◌, ◌*◌, ◌/◌, ◌%◌, ◌^◌, ◌<◌, ◌≤◌, inl, inr, List, [], ◌∷◌, ◌++◌}
use Rattle.std.proofs.Common.{length, get_or, set, replicate, refl, sym, ap, ◌∙◌, subst, arith}
use Rattle.std.proofs.Math.ListN.{length-set}
use Rattle.std.proofs.lemmas.Bool.Decides.{eqb_tells}
use Rattle.std.proofs.lemmas.List.{get_or-set_same, get_or-set_other, get_or-replicate, length-replicate}
use Rattle.std.proofs.lemmas.List.FromFn.{length-map-range_with_len, get_or-map-range_with_len}
use Rattle.flow_parts.specs.declared.fragment.Fragment.{Fragment}
use Rattle.record_ledger.specs.Buckets.{slot_number, two_bits, counts_of, AddUp, CountsSlots, IsCountedAlone}
use Rattle.record_ledger.proofs.Counted.{counted_more, counts_added}

pub four : (P : ℕ → Type 0) → P 0 → P 1 → P 2 → P 3 → (k : ℕ) → k < 4 → P k
four P a b c d zero l = a
four P a b c d (suc zero) l = b
four P a b c d (suc (suc zero)) l = c
four P a b c d (suc (suc (suc zero))) l = d
four P a b c d (suc (suc (suc (suc k)))) l = absurd (omega (arith, l))

-- a shift by so many pairs of bits
pub shift_is : (k : ℕ) → k < 4 → 2 ^ (k * 2) ≡ 4 ^ k
shift_is = four (λ k. 2 ^ (k * 2) ≡ 4 ^ k) refl refl refl refl

pub shifted : (k : ℕ) → k < 4 → 1 * 2 ^ (k * 2) % 256 ≡ 4 ^ k
shifted = four (λ k. 1 * 2 ^ (k * 2) % 256 ≡ 4 ^ k) refl refl refl refl

-- one more at a place of an octet, where there was none or one
pub fits : (o k : ℕ) → k < 4 → o < 2 ^ 8 → two_bits o k < 2 → o + 4 ^ k < 2 ^ 8
fits o k low small few = four (λ k. two_bits o k < 2 → o + 4 ^ k < 2 ^ 8)
    (λ h. omega (arith, small, h)) (λ h. omega (arith, small, h)) (λ h. omega (arith, small, h))
    (λ h. omega (arith, small, h)) k low few

pub raised : (o k : ℕ) → k < 4 → two_bits o k < 2 → two_bits (o + 4 ^ k) k ≡ two_bits o k + 1
raised o k low few = four (λ k. two_bits o k < 2 → two_bits (o + 4 ^ k) k ≡ two_bits o k + 1)
    (λ h. omega (arith, h)) (λ h. omega (arith, h)) (λ h. omega (arith, h)) (λ h. omega (arith, h)) k low few

pub left : (o k j : ℕ) → k < 4 → j < 4 → j ≢ k → two_bits o k < 2 → two_bits (o + 4 ^ k) j ≡ two_bits o j
left o k j low low' off few = four (λ k. j ≢ k → two_bits o k < 2 → two_bits (o + 4 ^ k) j ≡ two_bits o j)
    (four (λ j. j ≢ 0 → two_bits o 0 < 2 → two_bits (o + 4 ^ 0) j ≡ two_bits o j)
    (λ n h. absurd (n refl)) (λ n h. omega (arith, h)) (λ n h. omega (arith, h)) (λ n h. omega (arith, h)) j low')
    (four (λ j. j ≢ 1 → two_bits o 1 < 2 → two_bits (o + 4 ^ 1) j ≡ two_bits o j)
    (λ n h. omega (arith, h)) (λ n h. absurd (n refl)) (λ n h. omega (arith, h)) (λ n h. omega (arith, h)) j low')
    (four (λ j. j ≢ 2 → two_bits o 2 < 2 → two_bits (o + 4 ^ 2) j ≡ two_bits o j)
    (λ n h. omega (arith, h)) (λ n h. omega (arith, h)) (λ n h. absurd (n refl)) (λ n h. omega (arith, h)) j low')
    (four (λ j. j ≢ 3 → two_bits o 3 < 2 → two_bits (o + 4 ^ 3) j ≡ two_bits o j)
    (λ n h. omega (arith, h)) (λ n h. omega (arith, h)) (λ n h. omega (arith, h)) (λ n h. absurd (n refl)) j low')
    k low off few

module _ (packed : List ℕ) where
  pub many_counts : length (counts_of packed) ≡ 4 * length packed
  many_counts = length-map-range_with_len (λ slot. two_bits (get_or packed (slot / 4) 0) (slot % 4)) 0
      (4 * length packed)

  pub count_is : (slot : ℕ) → slot < 4 * length packed
      → get_or (counts_of packed) slot 0 ≡ two_bits (get_or packed (slot / 4) 0) (slot % 4)
  count_is slot low = get_or-map-range_with_len (λ slot. two_bits (get_or packed (slot / 4) 0) (slot % 4)) 0
      (4 * length packed) slot slot 0 low (omega arith)

-- nothing is counted
pub none_counted : (n : ℕ) → 1 ≤ n → CountsSlots [] (counts_of (replicate n 0))
none_counted n some = (
  omega (arith, many_counts (replicate n 0), many', some),
  λ slot l. (λ e. refl, λ e. absurd (omega (arith, e, zero' slot l))),
)
  where
    many' : length {A = ℕ} (replicate n 0) ≡ n
    many' = length-replicate {A = ℕ} n 0

    zero' : (slot : ℕ) → slot < length (counts_of (replicate n 0)) → get_or (counts_of (replicate n 0)) slot 0 ≡ 0
    zero' slot l =
        let low : slot < 4 * length {A = ℕ} (replicate n 0) = omega (arith, l, many_counts (replicate n 0)) in
        count_is (replicate n 0) slot low
        ∙ ap (λ o. two_bits o (slot % 4))
        (get_or-replicate n (slot / 4) 0 0 (omega (arith, low, many')))
        ∙ four (λ k. two_bits 0 k ≡ 0) refl refl refl refl (slot % 4) (omega arith)

-- one more fragment is counted in its octet
module _ (packed : List ℕ) (slot octet : ℕ) (low : slot < 4 * length packed) where
  abbrev next : List ℕ
  next = set packed (slot / 4) octet

  abbrev was : ℕ
  was = get_or packed (slot / 4) 0

  many : length next ≡ length packed
  many = length-set packed (slot / 4) octet

  in_octet : slot / 4 < length packed
  in_octet = omega (arith, low)

  here : get_or (counts_of next) slot 0 ≡ two_bits octet (slot % 4)
  here = count_is next slot (omega (arith, many, low))
      ∙ ap (λ o. two_bits o (slot % 4)) (get_or-set_same packed (slot / 4) octet 0 in_octet)

  others : ((k : ℕ) → k < 4 → k ≢ slot % 4 → two_bits octet k ≡ two_bits was k)
      → (s : ℕ) → s < 4 * length packed → s ≢ slot → get_or (counts_of next) s 0 ≡ get_or (counts_of packed) s 0
  others same s l off = count_is next s (omega (arith, many, l))
      ∙ elim (eqb_tells (s / 4) (slot / 4)) [
        | inl on ↦
            ap (λ i. two_bits (get_or next i 0) (s % 4)) on.1
            ∙ ap (λ o. two_bits o (s % 4)) (get_or-set_same packed (slot / 4) octet 0 in_octet)
            ∙ same (s % 4) (omega arith) (λ e. off (omega (arith, e, on.1)))
            ∙ ap (λ i. two_bits (get_or packed i 0) (s % 4)) (sym on.1)
        | inr apart ↦
            ap (λ o. two_bits o (s % 4)) (get_or-set_other packed (slot / 4) (s / 4) octet 0 apart.1)
      ]
      ∙ sym (count_is packed s l)

  pub octet_counted : (before : List Fragment) (part : Fragment) → slot ≡ slot_number part.key (4 * length packed)
      → 1 ≤ two_bits octet (slot % 4) → (two_bits octet (slot % 4) ≡ 1 → two_bits was (slot % 4) ≡ 0)
      → ((k : ℕ) → k < 4 → k ≢ slot % 4 → two_bits octet k ≡ two_bits was k)
      → CountsSlots before (counts_of packed) → CountsSlots (before ++ part ∷ []) (counts_of next)
  octet_counted before part is some first same h =
      let e = many_counts packed in
      counted_more before (counts_of packed) (counts_of next) part slot
      (many_counts next ∙ ap (λ n. 4 * n) many ∙ sym e)
      (is ∙ ap (slot_number part.key) (sym e))
      (omega (arith, here, some))
      (λ one. count_is packed slot low ∙ first (sym here ∙ one))
      (λ s l off. others same s (omega (arith, l, e)) off)
      h

-- the octets of some counts and of others, added
pub octets_added : (one other both : List ℕ) → length other ≡ length one → length both ≡ length one
    → ((at : ℕ) → at < length one → AddUp (get_or one at 0) (get_or other at 0) (get_or both at 0))
    → (before more : List Fragment) → CountsSlots before (counts_of one) → CountsSlots more (counts_of other)
    → CountsSlots (before ++ more) (counts_of both)
octets_added one other both same long each before more h k =
    let m = many_counts one in
    counts_added before more (counts_of one) (counts_of other) (counts_of both)
    (many_counts other ∙ ap (λ n. 4 * n) same ∙ sym m) (many_counts both ∙ ap (λ n. 4 * n) long ∙ sym m)
    (λ s l.
    let low : s < 4 * length one = omega (arith, l, m) in
    let a = count_is one s low in
    let b = count_is other s (omega (arith, low, same)) in
    let c = count_is both s (omega (arith, low, long)) in
    let up = each (s / 4) (omega (arith, low)) (s % 4) (omega arith) in (
      λ e. (let none = up.0 (sym c ∙ e) in omega (arith, a, b, none)),
      λ e. (let once = up.1 (sym c ∙ e) in omega (arith, a, b, once)),
    ))
    h k

-- the count of one is read from its octet
pub one_alone : (packed : List ℕ) (slot : ℕ) (part : Fragment) → slot < 4 * length packed
    → slot ≡ slot_number part.key (4 * length packed) → two_bits (get_or packed (slot / 4) 0) (slot % 4) ≡ 1
    → IsCountedAlone (counts_of packed) part
one_alone packed slot part low is one =
    let many = many_counts packed in
    let e : slot_number part.key (length (counts_of packed)) ≡ slot = ap (slot_number part.key) many ∙ sym is in
    subst (λ s. (s < length (counts_of packed)) × (get_or (counts_of packed) s 0 ≡ 1)) (sym e)
    (omega (arith, low, many), count_is packed slot low ∙ one)
