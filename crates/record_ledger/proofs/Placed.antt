-- Places of records in a store, and their order.
use Rattle.std.proofs.Common.{◌≡◌, ℕ, zero, suc, ◌+◌, ◌<◌, Bool, false, Option, Some, None, List, [], ◌∷◌, ◌++◌, length}
use Rattle.std.proofs.Common.{get_or, refl, sym, ap, ◌∙◌, subst, arith, All, IsPermutation, ◌≤◌, true, cond, filter}
use Rattle.std.specs.Prelude.{slice_get, IsSorted}
use Rattle.std.specs.Cmp.{IsTotalOrder, IsStrictWeakOrder}
use Rattle.std.specs.List.{AllZip}
use Rattle.std.specs.List.Sorted.{IsSortedBy}
use Rattle.std.specs.Option.{option_cmp}
use Rattle.std.specs.Ordering.{MatchOrdering, is_lt, nat_cmp, ordering_then, ordering_reverse}
use Rattle.std.specs.declared.cmp.Ordering.{Ordering}
use Rattle.std.specs.declared.cmp.Ordering.TheVariants.{Less, Equal, Greater}
use Rattle.std.proofs.lemmas.Cmp.{nat_cmp_total, on_total, then_total, ranked, tied_itself}
use Rattle.std.proofs.lemmas.List.Elements.{All-cons, All-nil, All-head, All-tail}
use Rattle.std.proofs.lemmas.List.Sorted.{ranks_by}
use Rattle.flow_key.specs.Key.{key_order}
use Rattle.flow_key.specs.declared.key.FlowKey.{FlowKey}
use Rattle.flow_key.proofs.KeyOrder.{key_order_total, tied_numbers, tied_first, tied_second}
use Rattle.flow_parts.proofs.Permuted.{AllZip-permutation}
use Rattle.record_ledger.specs.declared.record.FlowRecord.{FlowRecord}
use Rattle.record_ledger.specs.declared.place.Place.{Place}
use Rattle.record_ledger.specs.declared.store.Store.{Store}
use Rattle.record_ledger.specs.Buckets.{EndInTurn, IsPlace, IsPlaceOf, leading_number, listed, place_order, record_at}
use Rattle.record_ledger.specs.Buckets.{records_at, seat_order}
use Rattle.record_ledger.specs.Lawful.{of_key}
use Rattle.record_ledger.specs.Order.{written_order}
use Rattle.record_ledger.specs.Steps.{Rises}
use Rattle.record_ledger.proofs.Filtered.{IsPermutation-filter, NotLess, one_sorted}
use Rattle.record_ledger.proofs.Gathered.{has_key, key_from_test}
use Rattle.record_ledger.proofs.Keyed.{rises_filter}
use Rattle.record_ledger.proofs.Leads.{leading_first}
use Rattle.record_ledger.proofs.Rising.{rises_from_sorted, not_less_shorter, keys_tie}

sorted_more : {X : Type 0} (lt : X → X → Bool) (x : X) (xs : List X) → All (λ y. lt y x ≡ false) xs → IsSortedBy lt xs
    → (k : ℕ) (d : X) → k + 1 < length (x ∷ xs) → lt (get_or (x ∷ xs) (k + 1) d) (get_or (x ∷ xs) k d) ≡ false
sorted_more lt x xs all up zero d l = all 0 d (omega arith)
sorted_more lt x xs all up (suc k) d l =
    let e : suc (k + 1) ≡ suc k + 1 = omega arith in
    subst (λ n. lt (get_or (x ∷ xs) n d) (get_or xs k d) ≡ false) e (up k d (omega arith) (omega arith))

-- a rising list is sorted
pub sorted_from_rises : {X : Type 0} (lt : X → X → Bool) (xs : List X) → Rises (λ x y. lt y x ≡ false) xs
    → IsSortedBy lt xs
sorted_from_rises lt [] up = λ k d low l. absurd (omega arith)
sorted_from_rises lt (x ∷ xs) up = λ k d low l. sorted_more lt x xs up.0 (sorted_from_rises lt xs up.1) k d l

pub some_at : {X : Type 0} (xs : List X) (i : ℕ) → i < length xs
    → (x : X) × (slice_get xs i ≡ Some x) × (x ≡ get_or xs i x)
some_at [] i l = absurd (omega arith)
some_at (x ∷ xs) zero l = (x, refl, refl)
some_at (x ∷ xs) (suc i) l = some_at xs i (omega arith)

-- the order of records by key, and of none before any, is total
options_total : IsTotalOrder (option_cmp (λ (r s : FlowRecord). key_order r.part.key s.part.key))
options_total = record { antisymm = back; trans = onward; congr = alike }
  where
    o : IsTotalOrder (λ (r s : FlowRecord). key_order r.part.key s.part.key)
    o = on_total (λ (r : FlowRecord). r.part.key) key_order_total

    O : Option FlowRecord → Option FlowRecord → Ordering
    O = option_cmp (λ (r s : FlowRecord). key_order r.part.key s.part.key)

    back : (p q : Option FlowRecord) → O p q ≡ ordering_reverse (O q p)
    back None None = refl
    back None (Some s) = refl
    back (Some r) None = refl
    back (Some r) (Some s) = o.antisymm r s

    onward : (p q t : Option FlowRecord) → O p q ≡ Less → O q t ≡ Less → O p t ≡ Less
    onward None None t e f = absurd (cc)
    onward None (Some s) None e f = absurd (cc)
    onward None (Some s) (Some u) e f = refl
    onward (Some r) None t e f = absurd (cc)
    onward (Some r) (Some s) None e f = absurd (cc)
    onward (Some r) (Some s) (Some u) e f = o.trans r s u e f

    alike : (p q t : Option FlowRecord) → O p q ≡ Equal → O p t ≡ O q t
    alike None None t e = refl
    alike None (Some s) t e = absurd (cc)
    alike (Some r) None t e = absurd (cc)
    alike (Some r) (Some s) None e = refl
    alike (Some r) (Some s) (Some u) e = o.congr r s u e

least_is : (x y : ℕ) → y ≤ x → is_lt (nat_cmp x y) ≡ false
least_is x y l = go (nat_cmp x y) (ranked x y (nat_cmp x y) refl)
  where
    go : (o : Ordering) → MatchOrdering o (x < y) (x ≡ y) (y < x) → is_lt o ≡ false
    go Less h = absurd (omega (arith, h, l))
    go Equal h = refl
    go Greater h = refl

seats_total : IsTotalOrder seat_order
seats_total = then_total (on_total (λ (p : Place). p.bucket) nat_cmp_total)
    (on_total (λ (p : Place). p.at) nat_cmp_total)

-- not less by the first, ties by the two that follow, and not less by the last of four comparisons
in_four : (o n k t : Ordering) → is_lt o ≡ false → n ≡ Equal → k ≡ Equal → is_lt t ≡ false
    → is_lt (ordering_then o (ordering_then n (ordering_then k t))) ≡ false
in_four Less n k t e m f g = absurd (let never : true ≡ false = e in cc)
in_four Equal n k t e m f g = (λ i. is_lt (ordering_then (m i) (ordering_then (f i) t))) ∙ g
in_four Greater n k t e m f g = refl

-- not less by the first three of four comparisons
not_less_nested : (o n k t : Ordering) → is_lt (ordering_then o (ordering_then n (ordering_then k t))) ≡ false
    → is_lt (ordering_then o (ordering_then n k)) ≡ false
not_less_nested Less n k t e = e
not_less_nested Equal n k t e = not_less_shorter n k t e
not_less_nested Greater n k t e = refl

abbrev has_at : FlowKey → Option FlowRecord → Bool
has_at key None = false
has_at key (Some r) = has_key key r

module _ (store : Store) where
  places_total : IsTotalOrder (place_order store)
  places_total = then_total (on_total (λ (p : Place). p.last) nat_cmp_total)
      (then_total (on_total (λ (p : Place). p.leading) nat_cmp_total)
      (then_total (on_total (record_at store) options_total) seats_total))

  -- only a place itself ties with it
  places_exact : (p q : Place) → place_order store p q ≡ Equal → p ≡ q
  places_exact p q e =
      let ties = tied_second (nat_cmp p.last q.last) _ e in
      let one = tied_second (nat_cmp p.leading q.leading) _ ties in
      let two = tied_second (option_cmp (λ (r s : FlowRecord). key_order r.part.key s.part.key) (record_at store p)
      (record_at store q)) _ one in
      let last = tied_numbers p.last q.last (tied_first _ _ e) in
      let leading = tied_numbers p.leading q.leading (tied_first _ _ ties) in
      let bucket = tied_numbers p.bucket q.bucket (tied_first _ _ two) in
      let at = tied_numbers p.at q.at (tied_second (nat_cmp p.bucket q.bucket) _ two) in
      λ i. record { last = last i; leading = leading i; bucket = bucket i; at = at i }

  pub places_weak : IsStrictWeakOrder (λ (p q : Place). is_lt (place_order store p q))
  places_weak = ranks_by places_total (λ (p : Place). p)

  pub are_places : (rs : List FlowRecord) (ps : List Place) → AllZip (IsPlaceOf store) rs ps → All (IsPlace store) ps
  are_places [] [] h = All-nil (IsPlace store)
  are_places [] (p ∷ ps) h = absurd h
  are_places (r ∷ rs) [] h = absurd h
  are_places (r ∷ rs) (p ∷ ps) h = All-cons (IsPlace store) p ps (r, h.0.here) (are_places rs ps h.1)

  -- the records at the places of records are these
  pub read : (rs : List FlowRecord) (ps : List Place) → AllZip (IsPlaceOf store) rs ps → records_at store ps ≡ rs
  read [] [] h = refl
  read [] (p ∷ ps) h = absurd h
  read (r ∷ rs) [] h = absurd h
  read (r ∷ rs) (p ∷ ps) h =
      ap (λ o. listed o ++ records_at store ps) h.0.here ∙ ap (λ l. r ∷ l) (read rs ps h.1)

  -- places stand as their records do
  same_order : (r s : FlowRecord) (p q : Place) → IsPlaceOf store r p → IsPlaceOf store s q
      → ordering_then (nat_cmp p.last q.last) (ordering_then (nat_cmp p.leading q.leading)
      (option_cmp (λ (r s : FlowRecord). key_order r.part.key s.part.key) (record_at store p) (record_at store q)))
      ≡ written_order r s
  same_order r s p q h k =
      (λ i. ordering_then (nat_cmp (h.last i) (k.last i)) (ordering_then (nat_cmp (h.leading i) (k.leading i))
      (option_cmp (λ (r s : FlowRecord). key_order r.part.key s.part.key) (h.here i) (k.here i))))
      ∙ ap (ordering_then (nat_cmp r.part.last s.part.last)) (leading_first r.part.key s.part.key)

  after_all : (r : FlowRecord) (p : Place) → IsPlaceOf store r p → (rs : List FlowRecord) (ps : List Place)
      → AllZip (IsPlaceOf store) rs ps → All (λ q. is_lt (place_order store q p) ≡ false) ps
      → All (λ s. is_lt (written_order s r) ≡ false) rs
  after_all r p h [] [] z k = All-nil (λ s. is_lt (written_order s r) ≡ false)
  after_all r p h [] (q ∷ ps) z k = absurd z
  after_all r p h (s ∷ rs) [] z k = absurd z
  after_all r p h (s ∷ rs) (q ∷ ps) z k =
      All-cons (λ s. is_lt (written_order s r) ≡ false) s rs
      (sym (ap is_lt (same_order s r q p z.0 h)) ∙ not_less_nested (nat_cmp q.last p.last) (nat_cmp q.leading p.leading)
      _ (seat_order q p)
      (All-head (λ q. is_lt (place_order store q p) ≡ false) q ps k))
      (after_all r p h rs ps z.1 (All-tail (λ q. is_lt (place_order store q p) ≡ false) q ps k))

  pub in_written_order : (rs : List FlowRecord) (ps : List Place) → AllZip (IsPlaceOf store) rs ps
      → Rises (λ p q. is_lt (place_order store q p) ≡ false) ps → Rises (λ r s. is_lt (written_order s r) ≡ false) rs
  in_written_order [] [] z up = tt
  in_written_order [] (p ∷ ps) z up = absurd z
  in_written_order (r ∷ rs) [] z up = absurd z
  in_written_order (r ∷ rs) (p ∷ ps) z up = (after_all r p z.0 rs ps z.1 up.0, in_written_order rs ps z.1 up.1)

  -- there are as many records as places
  pub as_many : (ps : List Place) → All (IsPlace store) ps → length (records_at store ps) ≡ length ps
  as_many [] h = refl
  as_many (p ∷ ps) h =
      ap (λ o. length (listed o ++ records_at store ps)) (All-head (IsPlace store) p ps h).1
      ∙ ap suc (as_many ps (All-tail (IsPlace store) p ps h))

  -- places of records of one key stand by where they are
  abbrev pub KeyAhead : Place → Place → Type 0
  KeyAhead p q = (r s : FlowRecord) → record_at store p ≡ Some r → record_at store q ≡ Some s
      → r.part.key ≡ s.part.key → seat_order p q ≡ Less

  pub record_of : (ps : List Place) (k : ℕ) (p : Place) (r d : FlowRecord) → All (IsPlace store) ps → k < length ps
      → record_at store (get_or ps k p) ≡ Some r → get_or (records_at store ps) k d ≡ r
  record_of [] k p r d h l e = absurd (omega arith)
  record_of (q ∷ ps) zero p r d h l e = ap (λ o. get_or (listed o ++ records_at store ps) 0 d) e
  record_of (q ∷ ps) (suc k) p r d h l e =
      ap (λ o. get_or (listed o ++ records_at store ps) (suc k) d) (All-head (IsPlace store) q ps h).1
      ∙ record_of ps k p r d (All-tail (IsPlace store) q ps h) (omega arith) e

  -- the places of all records, sorted
  pub all_sorted : (rs : List FlowRecord) (ps qs : List Place) → AllZip (IsPlaceOf store) rs ps → IsPermutation ps qs
      → IsSorted (place_order store) qs
      → All (IsPlace store) qs × IsPermutation rs (records_at store qs)
      × IsSorted written_order (records_at store qs)
  all_sorted rs ps qs z perm sorted =
      let y = AllZip-permutation (IsPlaceOf store) rs ps qs z perm in
      let same : records_at store qs ≡ y.0 = read y.0 qs y.2 in (
        are_places y.0 qs y.2,
        subst (IsPermutation rs) (sym same) y.1,
        subst (IsSorted written_order) (sym same)
            (sorted_from_rises (λ r s. is_lt (written_order r s)) y.0
            (in_written_order y.0 qs y.2
            (rises_from_sorted (λ p q. is_lt (place_order store p q)) places_weak qs sorted))),
      )

  -- the records of a key at some places are those at its places
  module _ (key : FlowKey) where
    abbrev HasAt : Place → Bool
    HasAt p = has_at key (record_at store p)

    of_places : (ps : List Place) → of_key key (records_at store ps) ≡ records_at store (filter HasAt ps)
    of_places [] = refl
    of_places (p ∷ ps) = look (record_at store p) refl (of_places ps)
      where
        put : (r : FlowRecord) (b : Bool) → record_at store p ≡ Some r
            → of_key key (records_at store ps) ≡ records_at store (filter HasAt ps)
            → cond b (r ∷ of_key key (records_at store ps)) (of_key key (records_at store ps))
            ≡ records_at store (cond b (p ∷ filter HasAt ps) (filter HasAt ps))
        put r true e rest = ap (λ l. r ∷ l) rest ∙ ap (λ o. listed o ++ records_at store (filter HasAt ps)) (sym e)
        put r false e rest = rest

        look : (o : Option FlowRecord) → record_at store p ≡ o
            → of_key key (records_at store ps) ≡ records_at store (filter HasAt ps)
            → of_key key (listed o ++ records_at store ps) ≡ records_at store (cond (has_at key o) (p ∷ filter HasAt ps)
            (filter HasAt ps))
        look None e rest = rest
        look (Some r) e rest = put r (has_key key r) e rest

    -- two places of the key, in the order of the buckets
    abbrev InTurn : Place → Place → Type 0
    InTurn p q = HasAt p ≡ true → HasAt q ≡ true → is_lt (place_order store q p) ≡ false

    two_in_turn : (r s : FlowRecord) (p q : Place) → IsPlaceOf store r p → IsPlaceOf store s q
        → (r.part.key ≡ s.part.key → r.part.last ≤ s.part.last) → KeyAhead p q → InTurn p q
    two_in_turn r s p q h k up ahead a b =
        let one : r.part.key ≡ key = key_from_test key r (sym (ap (has_at key) h.here) ∙ a) in
        let two : s.part.key ≡ key = key_from_test key s (sym (ap (has_at key) k.here) ∙ b) in
        let last : p.last ≤ q.last = (let l = up (one ∙ sym two) in omega (arith, l, h.last, k.last)) in
        in_four (nat_cmp q.last p.last) (nat_cmp q.leading p.leading)
        (option_cmp (λ (r s : FlowRecord). key_order r.part.key s.part.key) (record_at store q) (record_at store p))
        (seat_order q p) (least_is q.last p.last last)
        ((λ i. nat_cmp (k.leading i) (h.leading i))
        ∙ (λ i. nat_cmp (leading_number s.part.key) (leading_number ((one ∙ sym two) i)))
        ∙ tied_itself nat_cmp_total (leading_number s.part.key))
        ((λ i. option_cmp (λ (r s : FlowRecord). key_order r.part.key s.part.key) (k.here i) (h.here i))
        ∙ keys_tie s.part.key r.part.key (two ∙ sym one))
        (ap is_lt (seats_total.antisymm q p
        ∙ ap ordering_reverse (ahead r s h.here k.here (one ∙ sym two))))

    one_in_turn : (r : FlowRecord) (p : Place) → IsPlaceOf store r p → (rs : List FlowRecord) (ps : List Place)
        → AllZip (IsPlaceOf store) rs ps
        → All (λ (s : FlowRecord). r.part.key ≡ s.part.key → r.part.last ≤ s.part.last) rs
        → All (KeyAhead p) ps → All (InTurn p) ps
    one_in_turn r p h [] [] z up ahead = All-nil (InTurn p)
    one_in_turn r p h [] (q ∷ ps) z up ahead = absurd z
    one_in_turn r p h (s ∷ rs) [] z up ahead = absurd z
    one_in_turn r p h (s ∷ rs) (q ∷ ps) z up ahead = All-cons (InTurn p) q ps
        (two_in_turn r s p q h z.0
        (All-head (λ (s : FlowRecord). r.part.key ≡ s.part.key → r.part.last ≤ s.part.last) s rs up)
        (All-head (KeyAhead p) q ps ahead))
        (one_in_turn r p h rs ps z.1
        (All-tail (λ (s : FlowRecord). r.part.key ≡ s.part.key → r.part.last ≤ s.part.last) s rs up)
        (All-tail (KeyAhead p) q ps ahead))

    all_in_turn : (rs : List FlowRecord) (ps : List Place) → AllZip (IsPlaceOf store) rs ps → EndInTurn rs
        → Rises KeyAhead ps → Rises InTurn ps
    all_in_turn [] [] z up ahead = tt
    all_in_turn [] (p ∷ ps) z up ahead = absurd z
    all_in_turn (r ∷ rs) [] z up ahead = absurd z
    all_in_turn (r ∷ rs) (p ∷ ps) z up ahead =
        (one_in_turn r p z.0 rs ps z.1 up.0 ahead.0, all_in_turn rs ps z.1 up.1 ahead.1)

    -- sorting the places leaves the order of the records of a key
    pub key_in_order : (rs : List FlowRecord) (ps qs : List Place) → AllZip (IsPlaceOf store) rs ps → EndInTurn rs
        → Rises KeyAhead ps → IsPermutation ps qs → IsSorted (place_order store) qs
        → of_key key rs ≡ of_key key (records_at store qs)
    key_in_order rs ps qs z up ahead perm sorted =
        let same : filter HasAt ps ≡ filter HasAt qs =
        one_sorted places_total places_exact (filter HasAt ps) (filter HasAt qs) (IsPermutation-filter HasAt ps qs perm)
        (rises_filter HasAt InTurn (NotLess places_total) (λ p q a b h. h a b) ps
        (all_in_turn rs ps z up ahead))
        (rises_filter HasAt (NotLess places_total) (NotLess places_total) (λ p q a b h. h) qs
        (rises_from_sorted (λ p q. is_lt (place_order store p q)) places_weak qs sorted)) in
        ap (of_key key) (sym (read rs ps z)) ∙ of_places ps ∙ ap (records_at store) same ∙ sym (of_places qs)
