-- Lists in order.
use Rattle.std.proofs.Common.{◌≡◌, ℕ, suc, ◌+◌, ◌-◌, ◌<◌, ◌≤◌, Bool, true, false, inl, inr, List, [], ◌∷◌, ◌++◌, length}
use Rattle.std.proofs.Common.{get_or, take, refl, sym, ap, ◌∙◌, subst, arith, length-append, All, Contains}
use Rattle.std.specs.Cmp.{IsTotalOrder, IsStrictWeakOrder}
use Rattle.std.specs.List.Sorted.{IsSortedBy}
use Rattle.std.specs.Ordering.{is_lt, nat_cmp, ordering_then}
use Rattle.std.specs.declared.cmp.Ordering.{Ordering}
use Rattle.std.specs.declared.cmp.Ordering.TheVariants.{Less, Equal, Greater}
use Rattle.std.proofs.lemmas.Bool.{cases_lt}
use Rattle.std.proofs.lemmas.Cmp.{nat_cmp_total, on_total, then_total, tied_itself, ranked, by_ranked}
use Rattle.std.proofs.lemmas.List.{get_or-take, get_or_append_left, get_or_at, length-take}
use Rattle.std.proofs.lemmas.List.Elements.{All-append, All-cons, All-nil, All-weaker, All-contains}
use Rattle.std.proofs.lemmas.List.Elements.{All-contains_itself, Contains-append_left, Contains-append_right}
use Rattle.std.proofs.lemmas.List.Sorted.{ranks_by, sorted_far}
use Rattle.flow_key.specs.declared.key.FlowKey.{FlowKey}
use Rattle.flow_key.specs.Key.{key_order}
use Rattle.flow_key.proofs.KeyOrder.{key_order_total, tied_keys, tied_numbers, tied_first, tied_second}
use Rattle.flow_parts.specs.declared.fragment.Fragment.{Fragment}
use Rattle.flow_parts.specs.declared.timeouts.Timeouts.{Timeouts}
use Rattle.flow_parts.specs.Joining.{IsJoinable}
use Rattle.flow_parts.proofs.Members.{All-one}
use Rattle.flow_parts.proofs.PartWords.{part_same}
use Rattle.record_ledger.specs.declared.record.FlowRecord.{FlowRecord}
use Rattle.record_ledger.specs.Order.{key_then_last, joining_order, written_order}
use Rattle.record_ledger.specs.Steps.{Rises, NotAfter, NoneJoinable}

pub gathering_total : IsTotalOrder key_then_last
gathering_total = then_total (on_total (λ (f : Fragment). f.key) key_order_total)
    (on_total (λ (f : Fragment). f.last) nat_cmp_total)

pub written_total : IsTotalOrder written_order
written_total = then_total (on_total (λ (r : FlowRecord). r.part.last) nat_cmp_total)
    (on_total (λ (r : FlowRecord). r.part.key) key_order_total)

-- the order of joining is total, and only equal fragments tie
pub joining_total : IsTotalOrder joining_order
joining_total = then_total (on_total (λ (f : Fragment). f.key) key_order_total)
    (then_total (on_total (λ (f : Fragment). f.last) nat_cmp_total)
    (then_total (on_total (λ (f : Fragment). f.first) nat_cmp_total)
    (then_total (on_total (λ (f : Fragment). f.packets) nat_cmp_total)
    (then_total (on_total (λ (f : Fragment). f.octets) nat_cmp_total)
    (on_total (λ (f : Fragment). f.flags) nat_cmp_total)))))

pub joining_exact : (f g : Fragment) → joining_order f g ≡ Equal → f ≡ g
joining_exact f g e =
    let one = tied_second (key_order f.key g.key) _ e in
    let two = tied_second (nat_cmp f.last g.last) _ one in
    let three = tied_second (nat_cmp f.first g.first) _ two in
    let four = tied_second (nat_cmp f.packets g.packets) _ three in
    part_same f g
    (tied_keys f.key g.key (tied_first _ _ e))
    (tied_numbers f.packets g.packets (tied_first _ _ three))
    (tied_numbers f.octets g.octets (tied_first _ _ four))
    (tied_numbers f.first g.first (tied_first _ _ two))
    (tied_numbers f.last g.last (tied_first _ _ one))
    (tied_numbers f.flags g.flags (tied_second (nat_cmp f.octets g.octets) _ four))

pub joining_weak : IsStrictWeakOrder (λ (f g : Fragment). is_lt (joining_order f g))
joining_weak = ranks_by joining_total (λ (f : Fragment). f)

pub by_key_weak : IsStrictWeakOrder (λ (x y : FlowRecord). is_lt (joining_order x.part y.part))
by_key_weak = ranks_by joining_total (λ (r : FlowRecord). r.part)

-- what comes before by all fields comes before by key and last time
pub not_less_shorter : (o p q : Ordering) → is_lt (ordering_then o (ordering_then p q)) ≡ false
    → is_lt (ordering_then o p) ≡ false
not_less_shorter Less p q e = e
not_less_shorter Equal Less q e = e
not_less_shorter Equal Equal q e = refl
not_less_shorter Equal Greater q e = e
not_less_shorter Greater p q e = e

pub not_after : (f g : Fragment) → is_lt (joining_order g f) ≡ false → NotAfter f g
not_after f g = not_less_shorter (key_order g.key f.key) (nat_cmp g.last f.last) _

pub written_weak : IsStrictWeakOrder (λ (x y : FlowRecord). is_lt (written_order x y))
written_weak = ranks_by written_total (λ (r : FlowRecord). r)

module _ {X : Type 0} where
  pub All-front : (P : X → Type 0) (xs ys : List X) → All P (xs ++ ys) → All P xs
  All-front P xs ys h = All-weaker (Contains xs) P
      (λ x c. All-contains P (xs ++ ys) x h (Contains-append_left xs ys x c)) xs (All-contains_itself xs)

  pub All-back : (P : X → Type 0) (xs ys : List X) → All P (xs ++ ys) → All P ys
  All-back P xs ys h = All-weaker (Contains ys) P
      (λ x c. All-contains P (xs ++ ys) x h (Contains-append_right xs ys x c)) ys (All-contains_itself ys)

  -- what is sorted rises
  pub rises_from_sorted : (lt : X → X → Bool) → IsStrictWeakOrder lt → (xs : List X) → IsSortedBy lt xs
      → Rises (λ x y. lt y x ≡ false) xs
  rises_from_sorted lt o [] up = tt
  rises_from_sorted lt o (x ∷ xs) up = (
    λ k d h. sorted_far lt o (x ∷ xs) up 0 (suc k) d (omega arith) (omega arith),
    rises_from_sorted lt o xs (λ k d low h.
        let e : suc k + 1 ≡ suc (k + 1) = omega arith in
        subst (λ n. lt (get_or (x ∷ xs) n d) (get_or xs k d) ≡ false) e (up (suc k) d (omega arith) (omega arith))),
  )

  module _ (R : X → X → Type 0) where
    pub rises_back : (xs ys : List X) → Rises R (xs ++ ys) → Rises R ys
    rises_back [] ys h = h
    rises_back (x ∷ xs) ys h = rises_back xs ys h.1

    -- each element of the front stands to the one after it
    pub rises_across : (xs : List X) (y : X) (ys : List X) → Rises R (xs ++ y ∷ ys) → All (λ x. R x y) xs
    rises_across [] y ys h = All-nil (λ x. R x y)
    rises_across (x ∷ xs) y ys h = All-cons (λ z. R z y) x xs
        (All-contains (R x) (xs ++ y ∷ ys) y h.0 (Contains-append_right xs (y ∷ ys) y (0, omega arith, refl)))
        (rises_across xs y ys h.1)

    -- an end of the front is left out, and the next element is put in another's place that stands alike
    pub rises_settled : (s t : List X) (f w : X) (rest : List X) → ((x : X) → R x f → R x w) → ((x : X) → R f x → R w x)
        → Rises R ((s ++ t) ++ f ∷ rest) → Rises R ((s ++ w ∷ []) ++ rest)
    rises_settled [] t f w rest into onto h =
        let back = rises_back t (f ∷ rest) h in
        (All-weaker (R f) (R w) onto rest back.0, back.1)
    rises_settled (x ∷ s) t f w rest into onto h = (
      All-append (R x) (s ++ w ∷ []) rest
          (All-append (R x) s (w ∷ [])
          (All-front (R x) s t (All-front (R x) (s ++ t) (f ∷ rest) h.0))
          (All-one (R x) w
          (into x (All-contains (R x) (f ∷ rest) f (All-back (R x) (s ++ t) (f ∷ rest) h.0) (0, omega arith, refl)))))
          (All-back (R x) (f ∷ []) rest (All-back (R x) (s ++ t) (f ∷ rest) h.0)),
      rises_settled s t f w rest into onto h.1,
    )

-- numbers of which the first isn't below the second
pub not_less : (x y : ℕ) → is_lt (nat_cmp x y) ≡ false → y ≤ x
not_less x y e = by_ranked (x < y) (x ≡ y) (y < x) (nat_cmp x y) (ranked x y (nat_cmp x y) refl)
    (λ less l. absurd (let e' : true ≡ false = ap is_lt (sym less) ∙ e in cc)) (λ tie q. omega arith)
    (λ more g. omega arith)

pub keys_tie : (a b : FlowKey) → a ≡ b → key_order a b ≡ Equal
keys_tie a b e = subst (λ k. key_order a k ≡ Equal) e (tied_itself key_order_total a)

-- a fragment that isn't after another of its key doesn't end after it
pub not_after_last : (f part : Fragment) → NotAfter f part → f.key ≡ part.key → f.last ≤ part.last
not_after_last f part h e =
    let tie : key_order part.key f.key ≡ Equal = keys_tie part.key f.key (sym e) in
    not_less part.last f.last (sym (ap (λ o. is_lt (ordering_then o (nat_cmp part.last f.last))) tie) ∙ h)

pub latest : (S : List Fragment) (part : Fragment) (rest : List Fragment) → Rises NotAfter (S ++ part ∷ rest)
    → All (λ f. f.key ≡ part.key → f.last ≤ part.last) S
latest S part rest h = All-weaker (λ f. NotAfter f part) (λ f. f.key ≡ part.key → f.last ≤ part.last)
    (λ f n. not_after_last f part n) S (rises_across NotAfter S part rest h)

-- a fragment with another's key and last time stands alike
pub alike : (f w : Fragment) → w.key ≡ f.key → w.last ≡ f.last → (x : Fragment) → NotAfter x f → NotAfter x w
alike f w k l x h = ap (λ key. is_lt (ordering_then (key_order key x.key) (nat_cmp w.last x.last))) k
    ∙ ap (λ n. is_lt (ordering_then (key_order f.key x.key) (nat_cmp n x.last))) l ∙ h

pub alike' : (f w : Fragment) → w.key ≡ f.key → w.last ≡ f.last → (x : Fragment) → NotAfter f x → NotAfter w x
alike' f w k l x h = ap (λ key. is_lt (ordering_then (key_order x.key key) (nat_cmp x.last w.last))) k
    ∙ ap (λ n. is_lt (ordering_then (key_order x.key f.key) (nat_cmp x.last n))) l ∙ h

module _ (limits : Timeouts) where
  pub none_taken : (n : ℕ) (S : List Fragment) → n ≤ length S → NoneJoinable limits S → NoneJoinable limits (take n S)
  none_taken n S le h = λ k d l j.
      let long = length-take n S in
      h k d (omega arith) (let e = get_or-take n S k d (omega arith) in
      let e' = get_or-take n S (k + 1) d (omega arith) in
      subst (λ g. IsJoinable limits (get_or S k d) g) e'
      (subst (λ f. IsJoinable limits f (get_or (take n S) (k + 1) d)) e j))

  pub none_pushed : (s : List Fragment) (w : Fragment) → NoneJoinable limits s
      → ((d : Fragment) → 0 < length s → ¬ IsJoinable limits (get_or s (length s - 1) d) w)
      → NoneJoinable limits (s ++ w ∷ [])
  none_pushed s w h top = λ k d l j.
      let long = length-append s (w ∷ []) in
      let e : get_or (s ++ w ∷ []) k d ≡ get_or s k d = get_or_append_left s (w ∷ []) d k (omega arith) in
      elim (cases_lt (k + 1) (length s)) [
        | inl m ↦ h k d m (let e' = get_or_append_left s (w ∷ []) d (k + 1) m in
            subst (λ g. IsJoinable limits (get_or s k d) g) e'
            (subst (λ f. IsJoinable limits f (get_or (s ++ w ∷ []) (k + 1) d)) e j))
        | inr m ↦ (let last : k ≡ length s - 1 = omega arith in
            let e' : get_or (s ++ w ∷ []) (k + 1) d ≡ w = get_or_at s w [] d (k + 1) (omega arith) in
            top d (omega arith) (subst (λ n. IsJoinable limits (get_or s n d) w) last
            (subst (λ g. IsJoinable limits (get_or s k d) g) e'
            (subst (λ f. IsJoinable limits f (get_or (s ++ w ∷ []) (k + 1) d)) e j))))
      ]
