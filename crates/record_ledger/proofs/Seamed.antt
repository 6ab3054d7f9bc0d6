-- Places in lists of shares, each list sorted by itself: all of them, one list after the other, are in order.
use Rattle.std.proofs.Common.{◌≡◌, ℕ, suc, ◌<◌, ◌≤◌, Bool, true, false, cond, List, [], ◌∷◌, ◌++◌, All, IsPermutation}
use Rattle.std.proofs.Common.{◌+◌, length, get_or, take, drop, refl, sym, ap, ◌∙◌, subst, arith, length-append}
use Rattle.std.specs.Prelude.{IsSorted, nat_lt}
use Rattle.std.specs.List.{AllZip}
use Rattle.std.specs.Ordering.{MatchOrdering, is_lt, nat_cmp, ordering_then}
use Rattle.std.specs.declared.vec.Vec.{Vec}
use Rattle.std.specs.declared.alloc.Global.{Global}
use Rattle.std.specs.declared.cmp.Ordering.{Ordering}
use Rattle.std.specs.declared.cmp.Ordering.TheVariants.{Less, Equal, Greater}
use Rattle.std.proofs.lemmas.Bool.{ltb-true, ltb-false}
use Rattle.std.proofs.lemmas.Cmp.{ranked}
use Rattle.std.proofs.lemmas.List.Elements.{All-append, All-nil, All-weaker}
use Rattle.std.proofs.lemmas.List.Sorted.{All-permutation, IsPermutation-append, IsPermutation-refl, IsPermutation-trans}
use Rattle.std.proofs.lemmas.List.{flat_map_more, take_more}
use Rattle.flow_parts.proofs.Permuted.{AllZip-length}
use Rattle.record_ledger.specs.Buckets.{AreShared, SharedFrom, place_order, places_of, record_order, share_number}
use Rattle.record_ledger.specs.Steps.{Rises}
use Rattle.record_ledger.specs.declared.place.Place.{Place}
use Rattle.record_ledger.specs.declared.store.Store.{Store}
use Rattle.record_ledger.proofs.Behind.{Behind}
use Rattle.record_ledger.proofs.Placed.{places_weak, sorted_from_rises}
use Rattle.record_ledger.proofs.Rising.{rises_from_sorted}
use Rattle.record_ledger.proofs.Settled.{given_back, rises_append}

-- the places of the lists up to one more
pub places_taken : (lists : List (Vec Place Global)) (i : ℕ) (list : Vec Place Global) → i < length lists
    → list ≡ get_or lists i list → places_of (take i lists) ++ list.items ≡ places_of (take (i + 1) lists)
places_taken lists i list l is = flat_map_more (λ (v : Vec Place Global). v.items) [] (take i lists) list
    ∙ ap places_of (ap (λ v. take i lists ++ v ∷ []) is ∙ sym (take_more lists i list l))

-- and how many these are
pub places_counted : (lists : List (Vec Place Global)) (i : ℕ) (list : Vec Place Global) → i < length lists
    → list ≡ get_or lists i list
    → length (places_of (take (i + 1) lists)) ≡ length (places_of (take i lists)) + length list.items
places_counted lists i list l is = ap length (sym (places_taken lists i list l is))
    ∙ length-append (places_of (take i lists)) list.items

-- a time of an earlier share is less
pub earlier_share : (ends : List ℕ) (s t : ℕ) → share_number ends s < share_number ends t → s < t
earlier_share [] s t l = absurd (omega arith)
earlier_share (end ∷ ends) s t l = look (nat_lt s end) (nat_lt t end) refl refl l (earlier_share ends s t)
  where
    look : (b c : Bool) → nat_lt s end ≡ b → nat_lt t end ≡ c
        → cond b 0 (suc (share_number ends s)) < cond c 0 (suc (share_number ends t))
        → (share_number ends s < share_number ends t → s < t) → s < t
    look true true e f l rest = absurd (omega (arith, l))
    look true false e f l rest = omega (arith, ltb-true s end e, ltb-false t end f)
    look false true e f l rest = absurd (omega (arith, l))
    look false false e f l rest = rest (omega (arith, l))

module _ (store : Store) where
  -- a place whose last time is later doesn't come before
  later : (p q : Place) → p.last < q.last → is_lt (place_order store q p) ≡ false
  later p q l = go (nat_cmp q.last p.last) (ranked q.last p.last (nat_cmp q.last p.last) refl)
    where
      go : (o : Ordering) → MatchOrdering o (q.last < p.last) (q.last ≡ p.last) (p.last < q.last)
          → is_lt (ordering_then o (ordering_then (nat_cmp q.leading p.leading) (record_order store q p))) ≡ false
      go Less h = absurd (omega (arith, h, l))
      go Equal h = absurd (omega (arith, h, l))
      go Greater h = refl

  -- a list is sorted: it has the places that it had, in order
  abbrev pub Sorts : Vec Place Global → Vec Place Global → Type 0
  Sorts before after = IsPermutation before.items after.items × IsSorted (place_order store) after.items

  -- lists that are sorted each have the places that they had
  pub same_places : (olds news : List (Vec Place Global)) → AllZip Sorts olds news
      → IsPermutation (places_of olds) (places_of news)
  same_places [] [] z = IsPermutation-refl []
  same_places [] (n ∷ news) z = absurd z
  same_places (o ∷ olds) [] z = absurd z
  same_places (o ∷ olds) (n ∷ news) z = IsPermutation-append o.items n.items (places_of olds) (places_of news) z.0.0
      (same_places olds news z.1)

  module _ (ends : List ℕ) where
    abbrev OfShare : ℕ → Place → Type 0
    OfShare share p = share_number ends p.last ≡ share

    abbrev FromShare : ℕ → Place → Type 0
    FromShare share p = share ≤ share_number ends p.last

    -- the places from a share on
    from_share : (i : ℕ) (olds news : List (Vec Place Global)) → AllZip Sorts olds news → SharedFrom ends i olds
        → All (FromShare i) (places_of news)
    from_share i [] [] z h = All-nil (FromShare i)
    from_share i [] (n ∷ news) z h = absurd z
    from_share i (o ∷ olds) [] z h = absurd z
    from_share i (o ∷ olds) (n ∷ news) z h = All-append (FromShare i) n.items (places_of news)
        (All-permutation (FromShare i) o.items n.items z.0.0
        (All-weaker (OfShare i) (FromShare i) (λ p e. omega (arith, e)) o.items h.0))
        (All-weaker (FromShare (suc i)) (FromShare i) (λ p l. omega (arith, l)) (places_of news)
        (from_share (suc i) olds news z.1 h.1))

    abbrev InOrder : Place → Place → Type 0
    InOrder p q = is_lt (place_order store q p) ≡ false

    in_order_from : (i : ℕ) (olds news : List (Vec Place Global)) → AllZip Sorts olds news → SharedFrom ends i olds
        → Rises InOrder (places_of news)
    in_order_from i [] [] z h = tt
    in_order_from i [] (n ∷ news) z h = absurd z
    in_order_from i (o ∷ olds) [] z h = absurd z
    in_order_from i (o ∷ olds) (n ∷ news) z h = rises_append InOrder n.items (places_of news)
        (rises_from_sorted (λ p q. is_lt (place_order store p q)) (places_weak store) n.items z.0.1)
        (in_order_from (suc i) olds news z.1 h.1)
        (All-weaker (OfShare i) (λ p. All (InOrder p) (places_of news))
        (λ p e. All-weaker (FromShare (suc i)) (InOrder p)
        (λ q l. later p q (earlier_share ends p.last q.last (omega (arith, e, l)))) (places_of news)
        (from_share (suc i) olds news z.1 h.1)) n.items
        (All-permutation (OfShare i) o.items n.items z.0.0 h.0))

    -- lists of shares that are sorted each are in order together
    pub seamed : (i : ℕ) (olds news : List (Vec Place Global)) → AllZip Sorts olds news → SharedFrom ends i olds
        → IsSorted (place_order store) (places_of news)
    seamed i olds news z h = sorted_from_rises (λ p q. is_lt (place_order store p q)) (places_of news)
        (in_order_from i olds news z h)

  -- the places of pieces and buckets, in order
  pub record AreOrdered (alone after : List Place) : Type 0 where
    pub same : IsPermutation (alone ++ Behind store) after
    pub sorted : IsSorted (place_order store) after

  -- lists that were lent to be added to, and again to be sorted
  pub ordered : (ends : List ℕ) (n : ℕ) (alone lent added lent' sorted : List (Vec Place Global)) → n ≡ length alone
      → lent ≡ alone → length added ≡ length lent
      → IsPermutation (places_of lent ++ Behind store) (places_of added) → (AreShared ends lent → AreShared ends added)
      → AreShared ends alone → lent' ≡ take n (added ++ drop (length added) alone) → AllZip Sorts lent' sorted
      → AreOrdered (places_of alone)
      (places_of (take n (sorted ++ drop (length sorted) (take n (added ++ drop (length added) alone)))))
  ordered ends n alone lent added lent' sorted long is many more shared given is' z =
      let all : take n (added ++ drop (length added) alone) ≡ added =
      given_back n alone lent added long is (sym many) in
      let every : AllZip Sorts added sorted = subst (λ l. AllZip Sorts l sorted) (is' ∙ all) z in
      let as_many : length added ≡ length sorted = AllZip-length Sorts added sorted every in
      let back : take n (sorted ++ drop (length sorted) (take n (added ++ drop (length added) alone))) ≡ sorted =
      given_back n (take n (added ++ drop (length added) alone)) added sorted
      (omega (arith, long, many, ap length is, ap length all)) (sym all) as_many in
      let places : IsPermutation (places_of alone ++ Behind store) (places_of added) =
      subst (λ l. IsPermutation (places_of l ++ Behind store) (places_of added)) is more in
      subst (λ l. AreOrdered (places_of alone) (places_of l)) (sym back) (record {
        same = IsPermutation-trans (places_of alone ++ Behind store) (places_of added) (places_of sorted) places
            (same_places added sorted every);
        sorted = seamed ends 0 added sorted every (shared (subst (AreShared ends) (sym is) given)).1;
      })
