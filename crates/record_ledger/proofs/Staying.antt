-- The records of fragments that stay where they lie, beside those of buckets that were settled.
use Rattle.std.proofs.Common.{Vec, Global, ◌≡◌, ◌≢◌, ℕ, ◌+◌, ◌-◌, ◌^◌, ◌<◌, ◌≤◌, Bool, true, false, cond, Option, Some, None, List, [], ◌∷◌, ◌++◌, length}
use Rattle.std.proofs.Common.{sum_by, arith, refl, sym, ap, ◌∙◌, subst, unwrap_or, All, IsPermutation}
use Rattle.std.specs.Prelude.{IsSorted, nat_lt, slice_get, option_and_then, if◌then◌else◌}
use native.Mathlib.Decide.{dec_lt}
use Rattle.std.specs.List.{AllZip}
use Rattle.std.specs.Vec.{with_items}
use Rattle.std.specs.Ordering.{is_eq, is_lt}
use Rattle.std.specs.declared.cmp.Ordering.TheVariants.{Less}
use Rattle.std.proofs.lemmas.List.{map-append}
use Rattle.std.proofs.lemmas.List.Elements.{All-append, All-cons, All-nil, All-head, All-tail, All-weaker}
use Rattle.std.proofs.lemmas.List.Sorted.{IsPermutation-refl, sum_by-IsPermutation}
use Rattle.std.proofs.lemmas.List.Sums.{sum_by-append}
use Rattle.std.proofs.lemmas.Bool.{lt-ltb}
use Rattle.std.proofs.lemmas.Option.{slice_get_within}
use Rattle.flow_key.specs.declared.key.FlowKey.{FlowKey}
use Rattle.flow_key.specs.Key.{key_order}
use Rattle.packet_accept.specs.Ending.{is_tcp_end}
use Rattle.packet_accept.specs.declared.packet.Packet.{Packet}
use Rattle.flow_parts.specs.declared.fragment.Fragment.{Fragment}
use Rattle.flow_parts.specs.declared.timeouts.Timeouts.{Timeouts}
use Rattle.flow_parts.specs.Reaching.{Reaches}
use Rattle.flow_parts.specs.Reaching.Reaches.{moved, onward}
use Rattle.flow_parts.specs.Sharing.{SharesOut}
use Rattle.flow_parts.proofs.Permuted.{AllZip-length}
use Rattle.flow_parts.proofs.Reaching.{itself, both}
use Rattle.record_ledger.specs.declared.record.FlowRecord.{FlowRecord}
use Rattle.record_ledger.specs.declared.store.Store.{Store}
use Rattle.record_ledger.specs.declared.place.Place.{Place}
use Rattle.record_ledger.specs.Buckets.{Bucket, Piece, records_of, LieFrom, AreDealt, EndInTurn, IsPlaceOf}
use Rattle.record_ledger.specs.Buckets.{IsPartPlaceOf, alone_record, record_at, part_in, part_of_piece, item_at, leading_number}
use Rattle.record_ledger.specs.RecordWith.{record_where}
use Rattle.record_ledger.specs.Gathered.{AreJoined, IsGathered, parts_with}
use Rattle.record_ledger.specs.Lawful.{parts_of, of_key, reason_of, EachWithNext, StandsApart, HasReason, IsLawfulBy}
use Rattle.record_ledger.specs.Order.{joining_order, key_then_last, written_order}
use Rattle.record_ledger.specs.Regrouping.{Regroups}
use Rattle.record_ledger.specs.Steps.{Rises}
use Rattle.record_ledger.proofs.Exact.{parts_of_key, joined_of}
use Rattle.record_ledger.proofs.Filtered.{IsPermutation-filter}
use Rattle.record_ledger.proofs.Gathered.{has_key, key_from_test, none_left, not_true, untied, Untied, Before}
use Rattle.record_ledger.proofs.Gathered.{up_gathered, no_tie, regrouped, lawful_by}
use Rattle.record_ledger.proofs.Keyed.{part_of, All-unmap, All-of_map, rises_unmap, rises_weaker}
use Rattle.record_ledger.proofs.Placed.{sorted_from_rises}
use Rattle.record_ledger.proofs.Rising.{All-back}
use Rattle.record_ledger.proofs.Settled.{Settled, Short, Strict, all_reached, still_lie, each_apart, each_reason}
use Rattle.record_ledger.proofs.Settled.{each_joined, each_strict, keys_kept, lifted, rises_append, none_tie}
use Rattle.record_ledger.proofs.Settled.{all_in_turn, given_back}

abbrev Unlike : FlowRecord → FlowRecord → Type 0
Unlike r s = r.part.key ≢ s.part.key

-- a reason has 8 bits
few : (closed idle : Bool) → cond closed 3 (cond idle 1 4) < 2 ^ 8
few true idle = omega arith
few false true = omega arith
few false false = omega arith

module _ (limits : Timeouts) (clock : ℕ) where
  -- the record has the reason of a fragment that none follows
  abbrev pub HasLast : FlowRecord → Type 0
  HasLast r = r.reason ≡ reason_of limits clock r.part None

  -- a fragment as a record
  abbrev AsRecord : Fragment → Option FlowRecord → Type 0
  AsRecord f o = (r : FlowRecord) × (o ≡ Some r) × (r.part ≡ f) × HasLast r

  as_record_by : (f : Fragment) (n : ℕ) → n ≡ reason_of limits clock f None → n < 2 ^ 8 → (d : Dec (n < 2 ^ 8))
      → AsRecord f (record_where n d f)
  unfolding record_where
  as_record_by f n is low (yes fits) = (record { part = f; reason = n; sized = fits }, refl, refl, is)
  as_record_by f n is low (no wide) = absurd (wide low)

  as_record : (f : Fragment) → AsRecord f (alone_record limits clock f)
  as_record f = as_record_by f (reason_of limits clock f None) refl
      (few (is_tcp_end f.key.protocol f.flags) (nat_lt (f.last + limits.idle) clock))
      (dec_lt (reason_of limits clock f None) (2 ^ 8))

-- the place of a fragment names one of the pieces
module _ (pieces : List Piece) where
  below_by : (p : Place) (f : Fragment) (o : Option Piece) → slice_get pieces p.bucket ≡ o
      → part_of_piece o p.at ≡ Some f → p.bucket < length pieces
  below_by p f None is e = absurd (cc)
  below_by p f (Some piece) is e = slice_get_within pieces p.bucket piece is

  one_below : (f : Fragment) (p : Place) → IsPartPlaceOf pieces f p → p.bucket < length pieces
  one_below f p h = below_by p f (slice_get pieces p.bucket) refl h.here

  all_below : (A : List Fragment) (ps : List Place) → AllZip (IsPartPlaceOf pieces) A ps
      → All (λ (p : Place). p.bucket < length pieces) ps
  all_below [] [] z = All-nil (λ (p : Place). p.bucket < length pieces)
  all_below [] (p ∷ ps) z = absurd z
  all_below (f ∷ A) [] z = absurd z
  all_below (f ∷ A) (p ∷ ps) z = All-cons (λ (p : Place). p.bucket < length pieces) p ps (one_below f p z.0)
      (all_below A ps z.1)

-- the records of the fragments that stay
module _ (store : Store) where
  abbrev Firsts : List Fragment → List Place → Type 0
  Firsts A ps = (F : List FlowRecord) × AllZip (IsPlaceOf store) F ps × (parts_of F ≡ A)
      × All (HasLast store.timeouts store.clock) F

  at_place : (f : Fragment) (p : Place) (o : Option FlowRecord) → IsPartPlaceOf store.pieces.items f p
      → p.bucket < length store.pieces.items → alone_record store.timeouts store.clock f ≡ o → record_at store p ≡ o
  at_place f p o h l e =
      ap (λ b. if b then option_and_then (alone_record store.timeouts store.clock) (part_in store.pieces.items p)
      else item_at (slice_get store.buckets.items (p.bucket - length store.pieces.items)) p.at)
      (lt-ltb p.bucket (length store.pieces.items) l)
      ∙ ap (option_and_then (alone_record store.timeouts store.clock)) h.here ∙ e

  pub firsts : (A : List Fragment) (ps : List Place) → AllZip (IsPartPlaceOf store.pieces.items) A ps → Firsts A ps
  firsts [] [] z = ([], tt, refl, All-nil (HasLast store.timeouts store.clock))
  firsts [] (p ∷ ps) z = absurd z
  firsts (f ∷ A) [] z = absurd z
  firsts (f ∷ A) (p ∷ ps) z =
      let r = as_record store.timeouts store.clock f in
      let rest = firsts A ps z.1 in (
        r.0 ∷ rest.0,
        (
          record {
            here = at_place f p (Some r.0) z.0 (one_below store.pieces.items f p z.0) r.1;
            last = z.0.last ∙ sym (ap (λ (g : Fragment). g.last) r.2);
            leading = z.0.leading ∙ sym (ap (λ (g : Fragment). leading_number g.key) r.2);
          },
          rest.1,
        ),
        ap (λ g. g ∷ parts_of rest.0) r.2 ∙ ap (λ l. f ∷ l) rest.2,
        All-cons (HasLast store.timeouts store.clock) r.0 rest.0 r.3 rest.3,
      )

-- one fragment is what becomes of it
one_joined : (limits : Timeouts) (f : Fragment) → AreJoined limits (f ∷ []) (f ∷ [])
one_joined limits f = record {
  line = f ∷ [];
  same = IsPermutation-refl (f ∷ []);
  sorted = sorted_from_rises (λ f g. is_lt (joining_order f g)) (f ∷ [])
      (All-nil (λ g. is_lt (joining_order g f) ≡ false), tt);
  joined = (f ∷ [], refl, refl);
}

-- a record of another key than the one before is not of the key of that
of_none : (key : FlowKey) (r : FlowRecord) (xs : List FlowRecord) → has_key key r ≡ true → All (Unlike r) xs
    → of_key key xs ≡ []
of_none key r xs on apart = none_left key xs (All-weaker (Unlike r) (λ s. has_key key s ≡ false)
    (λ s n. not_true (has_key key s) (λ is. n (key_from_test key r on ∙ sym (key_from_test key s is)))) xs apart)

-- what holds of the records of a key in two lists, and of each record alone, holds also behind records of other keys
module _ (key : FlowKey) (Q : List FlowRecord → List FlowRecord → Type 0) (O R : List FlowRecord)
    (here : Q (of_key key O) (of_key key R)) where
  one_more : (r : FlowRecord) (xs ys : List FlowRecord) (b : Bool) → has_key key r ≡ b → All (Unlike r) xs
      → All (Unlike r) ys → Q (r ∷ []) (r ∷ []) → Q (of_key key xs) (of_key key ys)
      → Q (cond b (r ∷ of_key key xs) (of_key key xs)) (cond b (r ∷ of_key key ys) (of_key key ys))
  one_more r xs ys true e a b one more =
      subst (λ l. Q (r ∷ l) (r ∷ of_key key ys)) (sym (of_none key r xs e a))
      (subst (λ l. Q (r ∷ []) (r ∷ l)) (sym (of_none key r ys e b)) one)
  one_more r xs ys false e a b one more = more

  pub behind_both : (F : List FlowRecord) → Rises Unlike F → All (λ r. All (Unlike r) O) F
      → All (λ r. All (Unlike r) R) F → All (λ r. Q (r ∷ []) (r ∷ [])) F
      → Q (of_key key (F ++ O)) (of_key key (F ++ R))
  behind_both [] up a b one = here
  behind_both (r ∷ F) up a b one = one_more r (F ++ O) (F ++ R) (has_key key r) refl
      (All-append (Unlike r) F O up.0 (All-head (λ r. All (Unlike r) O) r F a))
      (All-append (Unlike r) F R up.0 (All-head (λ r. All (Unlike r) R) r F b))
      (All-head (λ r. Q (r ∷ []) (r ∷ [])) r F one)
      (behind_both F up.1 (All-tail (λ r. All (Unlike r) O) r F a) (All-tail (λ r. All (Unlike r) R) r F b)
      (All-tail (λ r. Q (r ∷ []) (r ∷ [])) r F one))

module _ (limits : Timeouts) (clock : ℕ) where
  module _ (parts : List Fragment) (pieces : List Piece) (order : List Place) (os bs : List Bucket)
      (dealt : AreDealt parts pieces order os) (z : AllZip (Settled limits clock) os bs)
      (F : List FlowRecord) (are : parts_of F ≡ dealt.alone) (last : All (HasLast limits clock) F) where
    abbrev T : List FlowRecord
    T = F ++ records_of bs

    lie : LieFrom (length os) 0 bs
    lie = still_lie limits clock (length os) 0 os bs z dealt.by_key

    unlike : Rises Unlike F
    unlike = rises_unmap part_of (λ (f g : Fragment). f.key ≢ g.key) F
        (subst (Rises (λ (f g : Fragment). f.key ≢ g.key)) (sym are) dealt.unlike)

    apart_before : All (λ r. All (Unlike r) (records_of os)) F
    apart_before = All-unmap part_of
        (λ (f : Fragment). All (λ (r : FlowRecord). f.key ≢ r.part.key) (records_of os)) F
        (subst (All (λ (f : Fragment). All (λ (r : FlowRecord). f.key ≢ r.part.key) (records_of os))) (sym are)
        dealt.unlike_others)

    apart : All (λ r. All (Unlike r) (records_of bs)) F
    apart = All-weaker (λ r. All (Unlike r) (records_of os)) (λ r. All (Unlike r) (records_of bs))
        (λ r h. All-unmap part_of (λ (f : Fragment). r.part.key ≢ f.key) (records_of bs)
        (keys_kept limits (λ k. r.part.key ≢ k) (parts_of (records_of os)) (parts_of (records_of bs))
        (all_reached limits clock os bs z)
        (All-of_map part_of (λ (f : Fragment). r.part.key ≢ f.key) (records_of os) h))) F apart_before

    -- what holds of the records of a key in the buckets, and of each that stays, holds of the records of the key
    of_each : (key : FlowKey) (P : List FlowRecord → Type 0) → P (of_key key (records_of bs))
        → All (λ r. P (r ∷ [])) F → P (of_key key T)
    of_each key P here one = behind_both key (λ _ l. P l) (records_of bs) (records_of bs) here F unlike apart apart one

    reached : Reaches limits parts (parts_of T)
    reached = onward parts (dealt.alone ++ parts_of (records_of os)) (parts_of T)
        (moved parts (dealt.alone ++ parts_of (records_of os)) dealt.whole)
        (subst (Reaches limits (dealt.alone ++ parts_of (records_of os)))
        (ap (λ l. l ++ parts_of (records_of bs)) (sym are) ∙ sym (map-append part_of F (records_of bs)))
        (both limits dealt.alone dealt.alone (parts_of (records_of os)) (parts_of (records_of bs))
        (itself limits dealt.alone) (all_reached limits clock os bs z)))

    pub all_regroup : (L : List FlowRecord) → IsPermutation T L → Regroups parts L
    all_regroup L perm = regrouped limits parts (parts_of T) T L refl reached perm

    none_tied : All (Strict limits clock) bs → Rises Untied T
    none_tied strict = rises_append Untied F (records_of bs)
        (rises_weaker Unlike Untied (λ r s n. untied r s n (written_order r s) refl) F unlike)
        (none_tie (length os) 0 bs lie
        (All-weaker (Strict limits clock) (λ (b : Bucket). Rises Untied b.items)
        (λ b up. rises_weaker (λ (r s : FlowRecord). key_then_last r.part s.part ≡ Less) Untied
        (λ r s l. no_tie r s l (written_order r s) refl) b.items up) bs strict))
        (All-weaker (λ r. All (Unlike r) (records_of bs)) (λ r. All (Untied r) (records_of bs))
        (λ r h. All-weaker (Unlike r) (Untied r) (λ s n. untied r s n (written_order r s) refl) (records_of bs) h) F apart)

    each_before : All (Strict limits clock) bs → (key : FlowKey) → Rises Before (of_key key T)
    each_before strict key = of_each key (Rises Before)
        (lifted key (Rises Before) tt (length os) 0 bs lie
        (All-weaker (Strict limits clock) (λ (b : Bucket). Rises Before (of_key key b.items))
        (λ b up. up_gathered key b.items up) bs strict))
        (All-weaker (HasLast limits clock) (λ r. Rises Before (r ∷ [])) (λ r h. (All-nil (Before r), tt)) F last)

    with_reasons : (key : FlowKey) → EachWithNext (HasReason limits clock) (of_key key T)
    with_reasons key = of_each key (EachWithNext (HasReason limits clock))
        (lifted key (EachWithNext (HasReason limits clock)) tt (length os) 0 bs lie
        (each_reason limits clock key os bs z))
        (All-weaker (HasLast limits clock) (λ r. EachWithNext (HasReason limits clock) (r ∷ [])) (λ r h. (h, tt)) F last)

    standing_apart : (key : FlowKey) → EachWithNext (StandsApart limits) (of_key key T)
    standing_apart key = of_each key (EachWithNext (StandsApart limits))
        (lifted key (EachWithNext (StandsApart limits)) tt (length os) 0 bs lie (each_apart limits clock key os bs z))
        (All-weaker (HasLast limits clock) (λ r. EachWithNext (StandsApart limits) (r ∷ [])) (λ r h. (tt, tt)) F last)

    pub all_lawful : (now : Option ℕ) (L : List FlowRecord) → clock ≡ unwrap_or now 0
        → IsPermutation T L → IsSorted written_order L
        → (packets : List Packet) → SharesOut limits packets parts → IsLawfulBy limits now packets L
    all_lawful now L is perm sorted = lawful_by limits now parts T L reached
        (λ short. let strict = each_strict limits clock os bs z
        (All-back (Short limits clock) (parts_of F) (parts_of (records_of bs))
        (subst (All (Short limits clock)) (map-append part_of F (records_of bs)) short)) in
        (none_tied strict, each_before strict))
        standing_apart
        (λ key. subst (λ n. EachWithNext (HasReason limits n) (of_key key T)) is (with_reasons key))
        perm sorted

    pub in_turn : EndInTurn T
    in_turn = rises_append (λ (r s : FlowRecord). r.part.key ≡ s.part.key → r.part.last ≤ s.part.last) F (records_of bs)
        (rises_weaker Unlike (λ (r s : FlowRecord). r.part.key ≡ s.part.key → r.part.last ≤ s.part.last)
        (λ r s n e. absurd (n e)) F unlike)
        (all_in_turn limits clock (length os) 0 os bs z lie)
        (All-weaker (λ r. All (Unlike r) (records_of bs))
        (λ (r : FlowRecord). All (λ (s : FlowRecord). r.part.key ≡ s.part.key → r.part.last ≤ s.part.last)
        (records_of bs))
        (λ r h. All-weaker (Unlike r) (λ (s : FlowRecord). r.part.key ≡ s.part.key → r.part.last ≤ s.part.last)
        (λ s n e. absurd (n e)) (records_of bs) h) F apart)

    -- the fragments are those that stay, and those of the buckets
    whole : IsPermutation parts (parts_of (F ++ records_of os))
    whole = subst (IsPermutation parts)
        (ap (λ l. l ++ parts_of (records_of os)) (sym are) ∙ sym (map-append part_of F (records_of os))) dealt.whole

    joined_each : (key : FlowKey)
        → AreJoined limits (parts_of (of_key key (F ++ records_of os))) (parts_of (of_key key T))
    joined_each key = behind_both key (λ xs ys. AreJoined limits (parts_of xs) (parts_of ys)) (records_of os)
        (records_of bs) (each_joined limits clock key (length os) 0 os bs z dealt.by_key lie) F unlike apart_before apart
        (All-weaker (HasLast limits clock) (λ r. AreJoined limits (r.part ∷ []) (r.part ∷ [])) (λ r h. one_joined limits r.part) F last)

    -- where the records of each key stay in their order
    pub all_gathered : (L : List FlowRecord) → IsSorted written_order L
        → ((key : FlowKey) → of_key key T ≡ of_key key L) → IsGathered limits clock parts L
    all_gathered L sorted same = record {
      ordered = sorted;
      joined = λ key. joined_of limits (parts_with key (parts_of (F ++ records_of os))) (parts_with key parts)
          (parts_of (of_key key L))
          (IsPermutation-filter (λ f. is_eq (key_order f.key key)) parts (parts_of (F ++ records_of os)) whole)
          (subst (λ fs. AreJoined limits fs (parts_of (of_key key L))) (sym (parts_of_key key (F ++ records_of os)))
          (subst (λ rs. AreJoined limits (parts_of (of_key key (F ++ records_of os))) (parts_of rs)) (same key)
          (joined_each key)));
      reasons = λ key. subst (EachWithNext (HasReason limits clock)) (same key) (with_reasons key);
    }

-- fragments that are dealt, buckets that are lent and settled, and the records of both, put into order
module _ (limits : Timeouts) (clock : ℕ) (parts : List Fragment) (pieces : Vec Piece Global) (order : List Place)
    (old : Vec Bucket Global) (lent new : List Bucket) (dealt : AreDealt parts pieces.items order old.items)
    (same : lent ≡ old.items) (z : AllZip (Settled limits clock) lent new) where
  abbrev pub store : Store
  store = record { pieces = pieces; buckets = with_items old new; timeouts = limits; clock = clock }

  settled : AllZip (Settled limits clock) old.items new
  settled = subst (λ l. AllZip (Settled limits clock) l new) same z

  given : store.buckets.items ≡ new
  given = given_back old.len old.items lent new old.ok.0 same (AllZip-length (Settled limits clock) lent new z)

  pub first : Firsts store dealt.alone order
  first = firsts store dealt.alone order dealt.places

  -- no two of those that stay have one key
  pub first_unlike : Rises Unlike first.0
  first_unlike = unlike limits clock parts pieces.items order old.items new dealt settled first.0 first.2 first.3

  pub first_below : All (λ (p : Place). p.bucket < length pieces.items) order
  first_below = all_below pieces.items dealt.alone order dealt.places

  module _ (L : List FlowRecord) where
    abbrev Permuted : Type 0
    Permuted = (F : List FlowRecord) → AllZip (IsPlaceOf store) F order
        → IsPermutation (F ++ records_of store.buckets.items) L

    permuted : Permuted → IsPermutation (first.0 ++ records_of new) L
    permuted perm = subst (λ l. IsPermutation (first.0 ++ records_of l) L) given (perm first.0 first.1)

    pub regrouped_all : Permuted → Regroups parts L
    regrouped_all perm = all_regroup limits clock parts pieces.items order old.items new dealt settled first.0 first.2
        first.3 L (permuted perm)

    pub lawful_all : (now : Option ℕ) → clock ≡ unwrap_or now 0 → Permuted → IsSorted written_order L
        → (packets : List Packet) → SharesOut limits packets parts → IsLawfulBy limits now packets L
    lawful_all now is perm = all_lawful limits clock parts pieces.items order old.items new dealt settled first.0 first.2
        first.3 now L is (permuted perm)

    pub gathered_all : IsSorted written_order L
        → ((F : List FlowRecord) → AllZip (IsPlaceOf store) F order → EndInTurn (F ++ records_of store.buckets.items)
        → (key : FlowKey) → of_key key (F ++ records_of store.buckets.items) ≡ of_key key L)
        → IsGathered limits clock parts L
    gathered_all sorted by_key = all_gathered limits clock parts pieces.items order old.items new dealt settled first.0
        first.2 first.3 L sorted
        (subst (λ l. EndInTurn (first.0 ++ records_of l)
        → (key : FlowKey) → of_key key (first.0 ++ records_of l) ≡ of_key key L) given (by_key first.0 first.1)
        (in_turn limits clock parts pieces.items order old.items new dealt settled first.0 first.2 first.3))

-- what is moved to buckets is no more than all
pub no_more : (f : Fragment → ℕ) (parts alone others : List Fragment) → IsPermutation parts (alone ++ others)
    → sum_by f others ≤ sum_by f parts
no_more f parts alone others perm =
    (let same = sum_by-IsPermutation f parts (alone ++ others) perm in
    omega (arith, same, sum_by-append f alone others))
