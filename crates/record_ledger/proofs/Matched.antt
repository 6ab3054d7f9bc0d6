-- The heaps of a lawful list are the sessions.
use Rattle.std.proofs.Common.{◌≡◌, ◌≢◌, ℕ, suc, ◌-◌, ◌<◌, ◌≤◌, max, Bool, true, false, cond, ◌&&◌, ◌⊎◌, inl, inr, List}
use Rattle.std.proofs.Common.{[], ◌∷◌, ◌++◌, length, refl, sym, ap, ◌∙◌, subst, arith, All, AllPairs, Any, Contains}
use Rattle.std.proofs.Common.{IsPermutation, filter, map, nat_le, Some}
use Rattle.std.specs.List.{AllZip}
use Rattle.std.specs.Ordering.{is_eq}
use Rattle.std.specs.declared.cmp.Ordering.TheVariants.{Less, Equal}
use Rattle.std.proofs.lemmas.Bool.{cases_lt, cases_Bool, and_parts, and_from, leb-true, le-leb}
use Rattle.std.proofs.lemmas.Cmp.{tied_itself}
use Rattle.std.proofs.lemmas.List.{append-nil}
use Rattle.std.proofs.lemmas.List.Elements.{All-contains, All-contains_itself, All-weaker, All-tail, filter-append}
use Rattle.std.proofs.lemmas.List.Sorted.{Contains-permutation, IsPermutation-sym, IsPermutation-trans}
use Rattle.flow_key.specs.declared.key.FlowKey.{FlowKey}
use Rattle.flow_key.specs.Key.{key_order}
use Rattle.packet_accept.specs.declared.packet.Packet.{Packet}
use Rattle.packet_accept.specs.Clock.{IsClock}
use Rattle.flow_parts.specs.declared.fragment.Fragment.{Fragment}
use Rattle.flow_parts.specs.declared.timeouts.Timeouts.{Timeouts}
use Rattle.flow_parts.specs.Heap.{IsLinked, IsHeap}
use Rattle.flow_parts.proofs.Members.{found, among}
use Rattle.flow_parts.proofs.Heaps.{IsHeap-permutation}
use Rattle.record_ledger.specs.declared.record.FlowRecord.{FlowRecord}
use Rattle.record_ledger.specs.Lawful.{of_key, IsLawful}
use Rattle.record_ledger.specs.Order.{written_order}
use Rattle.record_ledger.specs.Steps.{Rises}
use Rattle.record_ledger.proofs.Filtered.{IsPermutation-filter, kept_none}
use Rattle.record_ledger.proofs.Gathered.{has_key, key_from_test, up_written, rises_written}
use Rattle.record_ledger.proofs.Keyed.{part_of, tie_from_test, cons_cases, contains_head, contains_more}
use Rattle.record_ledger.proofs.Keyed.{filter_contains, contains_filter, pairs_from_rises}
use Rattle.record_ledger.proofs.Rising.{keys_tie, written_total}
use Rattle.flow_key.proofs.KeyOrder.{tied_keys}
use Rattle.flow_parts.specs.Ending.{Ends}
use Rattle.record_ledger.specs.Laws.{LawfulAreSessions}
use Rattle.record_ledger.specs.Sessions.{IsApart, IsSessions, IsUncut, AreRecordsOf}
use Rattle.record_ledger.proofs.Alone.{InTwo, Somewhere, all_apart}
use Rattle.flow_parts.proofs.Endings.{closed_ender}
use Rattle.record_ledger.proofs.Lying.{Lies, lies, spanned}
use Rattle.record_ledger.proofs.Meeting.{flat, contains_flat, flat_contains, pair_cases, in_packets, meet}

abbrev time_of : Packet → ℕ
time_of p = p.time

module _ (p : Packet → Bool) where
  kept_all : (xs : List Packet) → All (λ q. p q ≡ true) xs → filter p xs ≡ xs
  kept_all [] h = refl
  kept_all (x ∷ xs) h = ap (λ b. cond b (x ∷ filter p xs) (filter p xs)) (h 0 x (omega arith))
      ∙ ap (λ l. x ∷ l) (kept_all xs (All-tail (λ q. p q ≡ true) x xs h))

  none_kept : (T : List (List Packet)) → ((u : List Packet) → Contains T u → All (λ q. p q ≡ false) u)
      → filter p (flat T) ≡ []
  none_kept [] none = refl
  none_kept (u ∷ T) none = filter-append p u (flat T)
      ∙ ap (λ l. l ++ filter p (flat T)) (kept_none p u (none u (contains_head u T)))
      ∙ none_kept T (λ v c. none v (contains_more u T v c))

  -- of lists put together the filter keeps one
  pub only : (R : List Packet → List Packet → Type 0) (T : List (List Packet)) → AllPairs R T → (t : List Packet)
      → All (λ q. p q ≡ true) t
      → ((u : List Packet) → Contains T u → R t u ⊎ R u t → All (λ q. p q ≡ false) u) → Contains T t
      → filter p (flat T) ≡ t
  only R [] h t all none c = absurd (let below = c.1 in omega arith)
  only R (u ∷ T) h t all none c =
      let head : (v : List Packet) → Contains T v → R u v =
      λ v d. subst (λ z. R u z) (d.2) (h 0 (suc d.0) v (omega arith) (let below = d.1 in omega arith)) in
      filter-append p u (flat T) ∙ (elim (cons_cases u T t c) [
        | inl same ↦ ap (λ l. filter p u ++ l)
            (none_kept T (λ v d. none v (contains_more u T v d) (inl (subst (λ z. R z v) same (head v d)))))
            ∙ append-nil (filter p u) ∙ ap (filter p) same ∙ kept_all t all
        | inr d ↦ ap (λ l. l ++ filter p (flat T)) (kept_none p u (none u (contains_head u T) (inr (head t d))))
            ∙ only R T (λ i j e l m. h (suc i) (suc j) e (omega arith) (omega arith)) t all
            (λ v e. none v (contains_more u T v e)) d
      ])

-- the packet has the fragment's key and lies in its span
abbrev pub inside : Fragment → Packet → Bool
inside f p = is_eq (key_order p.key f.key) && (nat_le f.first p.time && nat_le p.time f.last)

inside_from : (f : Fragment) (p : Packet) → p.key ≡ f.key → f.first ≤ p.time → p.time ≤ f.last → inside f p ≡ true
inside_from f p e low high = and_from (is_eq (key_order p.key f.key)) (nat_le f.first p.time && nat_le p.time f.last)
    (ap is_eq (keys_tie p.key f.key e))
    (and_from (nat_le f.first p.time) (nat_le p.time f.last) (le-leb f.first p.time low) (le-leb p.time f.last high))

outside_from : (f : Fragment) (p : Packet) → (p.key ≡ f.key → f.first ≤ p.time → p.time ≤ f.last → ⊥)
    → inside f p ≡ false
outside_from f p never = elim (cases_Bool (inside f p)) [
  | inl e ↦ (let one = and_parts (is_eq (key_order p.key f.key)) (nat_le f.first p.time && nat_le p.time f.last) e in
      let two = and_parts (nat_le f.first p.time) (nat_le p.time f.last) one.1 in
      absurd (never (tied_keys p.key f.key (tie_from_test (key_order p.key f.key) one.0))
      (leb-true f.first p.time two.0) (leb-true p.time f.last two.1)))
  | inr e ↦ e
]

module _ (limits : Timeouts) where
  heap_of : (heaps : List (List Packet)) (L : List FlowRecord) → AllZip (IsHeap limits) heaps (map part_of L)
      → (r : FlowRecord) → Contains L r
      → (H : List Packet) × Contains heaps H × IsHeap limits H r.part
  heap_of [] [] h r c = absurd (let below = c.1 in omega arith)
  heap_of [] (x ∷ L) h r c = absurd h
  heap_of (H ∷ heaps) [] h r c = absurd h
  heap_of (H ∷ heaps) (x ∷ L) h r c = elim (cons_cases x L r c) [
    | inl same ↦ (H, contains_head H heaps, subst (λ (z : FlowRecord). IsHeap limits H z.part) same h.0)
    | inr d ↦ (let k = heap_of heaps L h.1 r d in (k.0, contains_more H heaps k.0 k.1, k.2))
  ]

  record_of : (heaps : List (List Packet)) (L : List FlowRecord) → AllZip (IsHeap limits) heaps (map part_of L)
      → (H : List Packet) → Contains heaps H
      → (r : FlowRecord) × Contains L r × IsHeap limits H r.part
  record_of [] L h K c = absurd (let below = c.1 in omega arith)
  record_of (H ∷ heaps) [] h K c = absurd h
  record_of (H ∷ heaps) (x ∷ L) h K c = elim (cons_cases H heaps K c) [
    | inl same ↦ (x, contains_head x L, subst (λ l. IsHeap limits l x.part) same h.0)
    | inr d ↦ (let k = record_of heaps L h.1 K d in (k.0, contains_more x L k.0 k.1, k.2))
  ]

  module _ (P : List Packet) (S : List (List Packet)) (h : IsSessions limits.idle P S) where
    -- a session whose packets are in the span of a fragment that lies in it is what the span keeps of all sessions
    kept : (s : List Packet) (f : Fragment) → Lies limits P S h s f
        → ((x : Packet) → Contains s x → (f.first ≤ x.time) × (x.time ≤ f.last)) → filter (inside f) (flat S) ≡ s
    kept s f l spans = only (inside f) (IsApart limits.idle) S h.apart s
        (All-weaker (Contains s) (λ x. inside f x ≡ true)
        (λ x c. let k = spans x c in inside_from f x (l.one_key x c) k.0 k.1) s (All-contains_itself s))
        (λ u c apart. All-weaker (Contains u) (λ x. inside f x ≡ false)
        (λ x d. outside_from f x (λ key low high.
        let same = spanned limits P S h u s f c l x d key low high in
        let far : IsApart limits.idle s s = elim apart
        [ inl a ↦ subst (λ z. IsApart limits.idle s z) same a | inr a ↦ subst (λ z. IsApart limits.idle z s) same a ] in
        let d' : Contains s x = subst (λ z. Contains z x) same d in
        let never =
        All-contains (λ (z : Packet). x.key ≡ z.key → limits.idle < max (x.time - z.time) (z.time - x.time)) s x
        (All-contains
        (λ (y : Packet). All (λ (z : Packet). y.key ≡ z.key → limits.idle < max (y.time - z.time) (z.time - y.time)) s)
        s x far d') d' refl in
        omega arith))
        u (All-contains_itself u))
        l.inside

    -- a heap that is one of the lists lies in itself
    heap_lies : (H : List Packet) (f : Fragment) → Contains S H → IsHeap limits H f → Lies limits P S h H f
    heap_lies H f c heap = record {
      inside = c;
      one_key = λ p d. All-contains (λ (q : Packet). q.key ≡ f.key) H p heap.one_key d;
      begins = heap.first.reached;
      stops = heap.last.reached;
      ender = λ closed. (let w = found Ends H (closed_ender H f heap.one_key heap.flags closed) in
          among (λ (p : Packet). Ends p × (p.time ≡ f.last)) H w.0 w.1
          (w.2, All-contains (λ (p : Packet). Ends p → p.time ≡ f.last) H w.0 heap.ended w.1 w.2));
    }

  module _ (P : List Packet) (S : List (List Packet)) (h : IsSessions limits.idle P S) (uncut : All (IsUncut limits) S)
      (L : List FlowRecord) (lawful : IsLawful limits P L) (strict : Rises (λ a b. written_order a b ≡ Less) L) where
    heaps : List (List Packet)
    heaps = lawful.shared.heaps

    heap_in : (H : List Packet) (q : Packet) → Contains heaps H → Contains H q → Contains P q
    unfolding heaps
    heap_in H q c d = Contains-permutation (flat heaps) P q (IsPermutation-sym P (flat heaps) lawful.shared.whole)
        (contains_flat heaps H q c d)

    record_with : (x : Packet) → Contains P x
        → (H : List Packet) × (r : FlowRecord) × Contains heaps H × Contains H x × Contains L r × IsHeap limits H r.part
    unfolding heaps
    record_with x c =
        let k = flat_contains heaps x (Contains-permutation P (flat heaps) x lawful.shared.whole c) in
        let r = record_of heaps L lawful.shared.each k.0 k.1 in
        (k.0, r.0, k.1, k.2, r.1, r.2)

    heap_with : (r : FlowRecord) → Contains L r → (H : List Packet) × Contains heaps H × IsHeap limits H r.part
    unfolding heaps
    heap_with r c = heap_of heaps L lawful.shared.each r c

    lies_at : (H : List Packet) (r : FlowRecord) → Contains heaps H → IsHeap limits H r.part
        → (s : List Packet) × Lies limits P S h s r.part × ((q : Packet) → Contains H q → Contains s q)
    lies_at H r c heap = lies limits P S h H r.part (λ q d. heap_in H q c d) heap

    apart_at : (key : FlowKey) → Rises (InTwo limits P S h uncut) (of_key key L)
    apart_at key = all_apart limits P S h uncut key (of_key key L) (up_written key L strict) (lawful.apart key)
        (All-weaker (Contains (of_key key L)) (Somewhere limits P S h uncut key)
        (λ r c. let d = filter_contains (has_key key) L r c in let k = heap_with r d.0 in
        let l = lies_at k.0 r k.1 k.2 in (key_from_test key r d.1, (l.0, l.1)))
        (of_key key L) (All-contains_itself (of_key key L)))
        (λ x c e. let k = record_with x c in
        let key' = sym (All-contains (λ (p : Packet). p.key ≡ k.1.part.key) k.0 x k.5.one_key k.3) ∙ e in
        inl (
          k.1,
          contains_filter (has_key key) L k.1 k.4 (ap is_eq (keys_tie k.1.part.key key key')),
          All-contains (λ (p : Packet). k.1.part.first ≤ p.time) k.0 x k.5.first.bound k.3,
          All-contains (λ (p : Packet). p.time ≤ k.1.part.last) k.0 x k.5.last.bound k.3,
        ))

    -- two records that lie in one session are one
    one_record : (r b : FlowRecord) → Contains L r → Contains L b → (s : List Packet) → Lies limits P S h s r.part
        → Lies limits P S h s b.part → r ≡ b
    one_record r b c d s l m =
        let v = found (λ (p : Packet). p.time ≡ r.part.first) s l.begins in
        let key : b.part.key ≡ r.part.key = sym (m.one_key v.0 v.1) ∙ l.one_key v.0 v.1 in
        let k : FlowKey = r.part.key in
        elim (pair_cases (InTwo limits P S h uncut) (of_key k L)
        (pairs_from_rises (InTwo limits P S h uncut) (of_key k L) (apart_at k)) r b
        (contains_filter (has_key k) L r c (ap is_eq (keys_tie r.part.key k refl)))
        (contains_filter (has_key k) L b d (ap is_eq (keys_tie b.part.key k key)))) [
          | inl same ↦ same
          | inr (inl two) ↦ absurd (two s l m)
          | inr (inr two) ↦ absurd (two s m l)
        ]

    -- heaps of two records are apart
    apart_two : (H K : List Packet) (r b : FlowRecord) → Contains heaps H → Contains heaps K → Contains L r
        → Contains L b → IsHeap limits H r.part → IsHeap limits K b.part
        → (r ≡ b → ⊥) → IsApart limits.idle H K
    apart_two H K r b c d e f heap heap' two =
        All-weaker (Contains H)
        (λ (p : Packet). All (λ (q : Packet). p.key ≡ q.key → limits.idle < max (p.time - q.time) (q.time - p.time)) K)
        (λ p in_H. All-weaker (Contains K) (λ (q : Packet). p.key ≡ q.key
        → limits.idle < max (p.time - q.time) (q.time - p.time))
        (λ q in_K key. elim (cases_lt limits.idle (max (p.time - q.time) (q.time - p.time))) [
          | inl far ↦ far
          | inr near ↦ (
              let s = lies_at H r c heap in
              let t = lies_at K b d heap' in
              let same = meet limits.idle P S h s.0 t.0 p q s.1.inside t.1.inside (s.2 p in_H) (t.2 q in_K)
              (key, omega arith, omega arith) in
              absurd (two (one_record r b e f s.0 s.1 (subst (λ l. Lies limits P S h l b.part) (sym same) t.1))))
        ])
        K (All-contains_itself K))
        H (All-contains_itself H)

    rise_apart : (hs : List (List Packet)) (rs : List FlowRecord) → AllZip (IsHeap limits) hs (map part_of rs)
        → Rises (λ a b. written_order a b ≡ Less) rs
        → ((H : List Packet) → Contains hs H → Contains heaps H) → ((r : FlowRecord) → Contains rs r → Contains L r)
        → Rises (IsApart limits.idle) hs
    rise_apart [] rs z up into onto = tt
    rise_apart (H ∷ hs) [] z up into onto = absurd z
    rise_apart (H ∷ hs) (r ∷ rs) z up into onto = (
      All-weaker (Contains hs) (IsApart limits.idle H)
          (λ K c. let b = record_of hs rs z.1 K c in
          apart_two H K r b.0 (into H (contains_head H hs)) (into K (contains_more H hs K c))
          (onto r (contains_head r rs)) (onto b.0 (contains_more r rs b.0 b.1)) z.0 b.2
          (λ same. let less = All-contains (λ x. written_order r x ≡ Less) rs b.0 up.0 b.1 in
          let tie : written_order r b.0 ≡ Equal = subst (λ x. written_order r x ≡ Equal) same
          (tied_itself written_total r) in
          let never : Less ≡ Equal = sym less ∙ tie in
          cc))
          hs (All-contains_itself hs),
      rise_apart hs rs z.1 up.1 (λ K c. into K (contains_more H hs K c)) (λ b c. onto b (contains_more r rs b c)),
    )

    -- the heaps are sessions
    heaps_sessions : IsSessions limits.idle P heaps
    unfolding heaps
    heaps_sessions = record {
      whole = lawful.shared.whole;
      some = All-weaker (Contains heaps) (λ l. l ≢ []) (λ H c e. let r = record_of heaps L lawful.shared.each H c in
          let v = found (λ (p : Packet). p.time ≡ r.0.part.first) H r.2.first.reached in
          let below = v.1.1 in let none = ap length e in omega arith) heaps (All-contains_itself heaps);
      one_key = All-weaker (Contains heaps) (λ l. All (λ (p : Packet). All (λ (q : Packet). p.key ≡ q.key) l) l)
          (λ H c. let r = record_of heaps L lawful.shared.each H c in
          All-weaker (λ (p : Packet). p.key ≡ r.0.part.key) (λ (p : Packet). All (λ (q : Packet). p.key ≡ q.key) H)
          (λ p e. All-weaker (λ (q : Packet). q.key ≡ r.0.part.key) (λ (q : Packet). p.key ≡ q.key)
          (λ q e'. e ∙ sym e') H r.2.one_key) H r.2.one_key) heaps (All-contains_itself heaps);
      linked = All-weaker (Contains heaps) (IsLinked limits.idle)
          (λ H c. let r = record_of heaps L lawful.shared.each H c in r.2.linked) heaps (All-contains_itself heaps);
      apart = pairs_from_rises (IsApart limits.idle) heaps
          (rise_apart heaps L lawful.shared.each strict (λ H c. c) (λ r c. c));
    }

    -- the session that a record's heap lies in is a heap of its fragment
    same_packets : (H : List Packet) (r : FlowRecord) → Contains heaps H → Contains L r → IsHeap limits H r.part
        → (s : List Packet) → Lies limits P S h s r.part → IsHeap limits s r.part
    unfolding heaps
    same_packets H r c d heap s l =
        let spans : (x : Packet) → Contains s x → (r.part.first ≤ x.time) × (x.time ≤ r.part.last) = λ x in_s.
        (let k = record_with x (in_packets limits.idle P S h s x l.inside in_s) in
        let t = lies_at k.0 k.1 k.2 k.5 in
        let same = meet limits.idle P S h s t.0 x x l.inside t.1.inside in_s (t.2 x k.3)
        (refl, omega arith, omega arith) in
        let one = one_record r k.1 d k.4 s l (subst (λ z. Lies limits P S h z k.1.part) (sym same) t.1) in
        let first : r.part.first ≡ k.1.part.first = ap (λ (z : FlowRecord). z.part.first) one in
        let last : r.part.last ≡ k.1.part.last = ap (λ (z : FlowRecord). z.part.last) one in
        let low = All-contains (λ (p : Packet). k.1.part.first ≤ p.time) k.0 x k.5.first.bound k.3 in
        let high = All-contains (λ (p : Packet). p.time ≤ k.1.part.last) k.0 x k.5.last.bound k.3 in
        (omega arith, omega arith)) in
        let of_heap = kept P heaps heaps_sessions H r.part (heap_lies P heaps heaps_sessions H r.part c heap)
        (λ x e. (
          All-contains (λ (p : Packet). r.part.first ≤ p.time) H x heap.first.bound e,
          All-contains
              (λ (p : Packet). p.time ≤ r.part.last) H x heap.last.bound e,
        )) in
        let of_session = kept P S h s r.part l spans in
        let moved : IsPermutation (filter (inside r.part) (flat heaps)) (filter (inside r.part) (flat S))
        = IsPermutation-filter (inside r.part) (flat heaps) (flat S)
        (IsPermutation-trans (flat heaps) P (flat S) (IsPermutation-sym P (flat heaps) lawful.shared.whole) h.whole) in
        IsHeap-permutation limits H s r.part
        (subst (λ z. IsPermutation z s) of_heap
        (subst (λ z. IsPermutation (filter (inside r.part) (flat heaps)) z) of_session moved)) heap

    pub records_of : AreRecordsOf limits P S L
    records_of = record {
      each = All-weaker (Contains L) (λ r. Any (λ s. IsHeap limits s r.part) S)
          (λ r c. let k = heap_with r c in let s = lies_at k.0 r k.1 k.2 in
          among (λ s. IsHeap limits s r.part) S s.0 s.1.inside (same_packets k.0 r k.1 c k.2 s.0 s.1)) L
          (All-contains_itself L);
      all = All-weaker (Contains S) (λ s. Any (λ r. IsHeap limits s r.part) L)
          (λ s c. let v = some_in s (All-contains (λ l. l ≢ []) S s h.some c) in
          let k = record_with v.0 (in_packets limits.idle P S h s v.0 c v.1) in
          let t = lies_at k.0 k.1 k.2 k.5 in
          let same = meet limits.idle P S h t.0 s v.0 v.0 t.1.inside c (t.2 v.0 k.3) v.1
          (refl, omega arith, omega arith) in
          among (λ r. IsHeap limits s r.part) L k.1 k.4
          (subst (λ z. IsHeap limits z k.1.part) same (same_packets k.0 k.1 k.2 k.4 k.5 t.0 t.1))) S
          (All-contains_itself S);
      ordered = pairs_from_rises (λ a b. written_order a b ≡ Less) L strict;
      reasons = lawful.reasons;
    }
      where
        some_in : (s : List Packet) → s ≢ [] → (x : Packet) × Contains s x
        some_in [] ne = absurd (ne refl)
        some_in (x ∷ s) ne = (x, contains_head x s)

pub lawful_are_sessions : LawfulAreSessions
lawful_are_sessions limits P S h uncut L lawful =
    records_of limits P S h uncut L lawful (rises_written limits (λ now. IsClock P (Some now)) P L lawful)
