-- What is joined and sorted is lawful.
use Rattle.std.proofs.Common.{◌≡◌, ℕ, suc, ◌+◌, ◌-◌, ◌<◌, ◌≤◌, Bool, true, false, cond, Option, Some, None, List, []}
use Rattle.std.proofs.Common.{◌∷◌, length, get_or, drop, map, refl, sym, ap, ◌∙◌, subst, arith, All, IsPermutation}
use Rattle.std.proofs.Common.{flat_map, unwrap_or, inl, inr, Contains, ◌++◌, ◌≢◌, ◌⊎◌}
use Rattle.std.specs.Prelude.{IsSorted}
use Rattle.std.proofs.lemmas.List.{map-append}
use Rattle.std.specs.List.{AllZip}
use Rattle.std.specs.List.Sorted.{IsSortedBy}
use Rattle.std.specs.Ordering.{is_lt, is_eq, nat_cmp}
use Rattle.std.specs.declared.cmp.Ordering.{Ordering}
use Rattle.std.specs.declared.cmp.Ordering.TheVariants.{Less, Equal, Greater}
use Rattle.std.proofs.lemmas.List.Elements.{All-cons, All-nil, All-tail, All-weaker, All-contains, All-append}
use Rattle.std.proofs.lemmas.List.Elements.{Contains-append_cases, Contains-append_left, Contains-append_right}
use Rattle.std.proofs.lemmas.List.Sorted.{Contains-permutation, IsPermutation-sym, IsPermutation-refl}
use Rattle.std.proofs.lemmas.List.Sorted.{IsPermutation-trans, IsPermutation-map}
use Rattle.std.proofs.lemmas.Map.Keys.{IsDistinct-IsPermutation}
use Rattle.flow_key.specs.declared.key.FlowKey.{FlowKey}
use Rattle.flow_key.specs.Key.{key_order}
use Rattle.flow_key.proofs.KeyOrder.{key_order_total, tied_keys, tied_numbers, tied_first, tied_second}
use Rattle.packet_accept.specs.declared.packet.Packet.{Packet}
use Rattle.flow_parts.specs.declared.fragment.Fragment.{Fragment}
use Rattle.flow_parts.specs.declared.timeouts.Timeouts.{Timeouts}
use Rattle.flow_parts.specs.Heap.{IsHeap}
use Rattle.flow_parts.specs.Joining.{IsJoinable}
use Rattle.flow_parts.specs.Sharing.{SharesOut}
use Rattle.flow_parts.proofs.Members.{found}
use Rattle.packet_accept.proofs.Permuted.{flat_map-permutation}
use Rattle.flow_parts.proofs.Permuted.{AllZip-permutation}
use Rattle.flow_parts.proofs.Shares.{permuted, together}
use Rattle.record_ledger.specs.declared.record.FlowRecord.{FlowRecord}
use Rattle.record_ledger.specs.Order.{key_then_last, written_order}
use Rattle.record_ledger.specs.Regrouping.{IsTogether, Regroups}
use Rattle.packet_accept.specs.Clock.{IsClock}
use Rattle.record_ledger.specs.Lawful.{of_key, first_part, EachWithNext, StandsApart, HasReason, reason_of}
use Rattle.record_ledger.specs.Lawful.{IsLawfulAt, IsLawfulBy}
use Rattle.record_ledger.specs.Laws.{HasNoTies, OwnClockIsGiven, LawfulTogether}
use Rattle.flow_parts.specs.Reaching.{Reaches}
use Rattle.record_ledger.specs.Steps.{Rises, NotAfter, NoneJoinable, next_of_key}
use Rattle.record_ledger.proofs.Keyed.{part_of, first_not_less, second_less, first_less, both_tie, tie_from_test}
use Rattle.record_ledger.proofs.Keyed.{less_numbers, less_from_greater, less_than_rest, less_otherwise, less_no_tie}
use Rattle.record_ledger.proofs.Keyed.{tie_flips, rises_distinct, distinct_from_rises, rises_more, filter_contains}
use Rattle.record_ledger.proofs.Keyed.{contains_filter, rises_filter, same_rising, pairs_from_rises, All-unmap}
use Rattle.record_ledger.proofs.Keyed.{rises_weaker, contains_head}
use Rattle.flow_parts.proofs.Reaching.{shared}
use Rattle.record_ledger.proofs.Reaching.{grouped, grouped_start}
use Rattle.record_ledger.proofs.Rising.{gathering_total, written_total, written_weak, keys_tie, rises_from_sorted}

-- R holds of each record and the next one, where that has its key
abbrev pub Beside : (FlowRecord → Option Fragment → Type 0) → List FlowRecord → Type 0
Beside R [] = Unit {0}
Beside R (r ∷ rest) = R r (next_of_key r.part (map part_of rest)) × Beside R rest

module _ (limits : Timeouts) where
  pub beside_reasons : (clock : ℕ) (T : List FlowRecord) (W : List Fragment) → map part_of T ≡ W
      → ((k : ℕ) (d : FlowRecord) → k < length T
      → (get_or T k d).reason ≡ reason_of limits clock (get_or T k d).part
      (next_of_key (get_or T k d).part (drop (k + 1) W)))
      → Beside (HasReason limits clock) T
  beside_reasons clock [] W e h = tt
  beside_reasons clock (r ∷ T) W e h =
      let h' = subst (λ w. (k : ℕ) (d : FlowRecord) → k < length (r ∷ T)
      → (get_or (r ∷ T) k d).reason ≡ reason_of limits clock (get_or (r ∷ T) k d).part
      (next_of_key (get_or (r ∷ T) k d).part (drop (k + 1) w))) (sym e) h in (
        h' 0 r (omega arith),
        beside_reasons clock T (map part_of T) refl (λ k d l.
            let e' : suc k + 1 ≡ suc (k + 1) = omega arith in
            subst (λ n. (get_or T k d).reason ≡ reason_of limits clock (get_or T k d).part
            (next_of_key (get_or T k d).part (drop n (r.part ∷ map part_of T)))) e' (h' (suc k) d (omega arith))),
      )

  none_tail : (f : Fragment) (W : List Fragment) → NoneJoinable limits (f ∷ W) → NoneJoinable limits W
  none_tail f W h = λ k d l j.
      let e : suc (k + 1) ≡ suc k + 1 = omega arith in
      h (suc k) d (omega arith) (subst (λ n. IsJoinable limits (get_or W k d) (get_or (f ∷ W) n d)) e j)

  apart_next : (r n : FlowRecord) (b : Bool) → ¬ IsJoinable limits r.part n.part
      → StandsApart limits r (cond b (Some n.part) None)
  apart_next r n true h = h
  apart_next r n false h = tt

  pub beside_apart : (T : List FlowRecord) → NoneJoinable limits (map part_of T) → Beside (StandsApart limits) T
  beside_apart [] h = tt
  beside_apart (r ∷ []) h = (tt, tt)
  beside_apart (r ∷ n ∷ T) h = (
    apart_next r n (is_eq (key_order n.part.key r.part.key)) (h 0 r.part (omega arith)),
    beside_apart (n ∷ T) (none_tail r.part (map part_of (n ∷ T)) h),
  )

  -- spans of fragments that stand for packets
  short_at : (heaps : List (List Packet)) (F : List Fragment) → AllZip (IsHeap limits) heaps F
      → All (λ f. f.last - f.first ≤ limits.active) F
  short_at [] [] h = All-nil (λ f. f.last - f.first ≤ limits.active)
  short_at [] (f ∷ F) h = absurd h
  short_at (x ∷ heaps) [] h = absurd h
  short_at (x ∷ heaps) (f ∷ F) h = All-cons (λ f. f.last - f.first ≤ limits.active) f F h.0.short (short_at heaps F h.1)

  -- two of one key with one last time are joinable
  ties_join : (f g : Fragment) → f.last - f.first ≤ limits.active → g.last - g.first ≤ limits.active
      → key_then_last g f ≡ Equal → IsJoinable limits f g
  ties_join f g a b e =
      let key = tied_keys g.key f.key (tied_first (key_order g.key f.key) (nat_cmp g.last f.last) e) in
      let last = tied_numbers g.last f.last (tied_second (key_order g.key f.key) (nat_cmp g.last f.last) e) in
      let low = f.spanned in
      let low' = g.spanned in
      record {
        one_key = sym key;
        near = omega arith;
        short = omega arith;
        one_closed =
            λ closed. omega arith;
        other_closed = λ closed. omega arith;
      }

  less_next : (f g : Fragment) → f.last - f.first ≤ limits.active → g.last - g.first ≤ limits.active
      → ¬ IsJoinable limits f g
      → (q : Ordering) → key_then_last g f ≡ q → is_lt q ≡ false → key_then_last f g ≡ Less
  less_next f g a b apart Less e h = absurd (let e' : true ≡ false = h in cc)
  less_next f g a b apart Equal e h = absurd (apart (ties_join f g a b e))
  less_next f g a b apart Greater e h = less_from_greater gathering_total f g e

  pub strictly : (W : List Fragment) → Rises NotAfter W → NoneJoinable limits W
      → All (λ f. f.last - f.first ≤ limits.active) W → Rises (λ a b. key_then_last a b ≡ Less) W
  strictly [] h k s = tt
  strictly (f ∷ []) h k s = (All-nil (λ b. key_then_last f b ≡ Less), tt)
  strictly (f ∷ g ∷ W) h k s = rises_more gathering_total f g W
      (less_next f g (s 0 f (omega arith)) (s 1 f (omega arith)) (k 0 f (omega arith)) (key_then_last g f) refl
      (h.0 0 f (omega arith)))
      (strictly (g ∷ W) h.1 (none_tail f (g ∷ W) k) (All-tail (λ f. f.last - f.first ≤ limits.active) f (g ∷ W) s))

abbrev pub has_key : FlowKey → FlowRecord → Bool
has_key key r = is_eq (key_order r.part.key key)

pub key_from_test : (key : FlowKey) (r : FlowRecord) → has_key key r ≡ true → r.part.key ≡ key
key_from_test key r e = tied_keys r.part.key key (tie_from_test (key_order r.part.key key) e)

-- records of one key tie by key
pub same_keys : (key : FlowKey) (a b : FlowRecord) → has_key key a ≡ true → has_key key b ≡ true
    → key_order a.part.key b.part.key ≡ Equal
same_keys key a b e f = keys_tie a.part.key b.part.key (key_from_test key a e ∙ sym (key_from_test key b f))

pub none_left : (key : FlowKey) (xs : List FlowRecord) → All (λ m. has_key key m ≡ false) xs → of_key key xs ≡ []
none_left key [] h = refl
none_left key (x ∷ xs) h =
    ap (λ b. cond b (x ∷ of_key key xs) (of_key key xs)) (h 0 x (omega arith))
    ∙ none_left key xs (All-tail (λ m. has_key key m ≡ false) x xs h)

-- where the next record of a sorted list has another key, no later one has this one's
none_later : (r n : FlowRecord) (rest : List FlowRecord) → NotAfter r.part n.part
    → All (NotAfter n.part) (map part_of rest) → has_key r.part.key n ≡ false
    → All (λ m. has_key r.part.key m ≡ false) rest
none_later r n rest h all e =
    let less : key_order r.part.key n.part.key ≡ Less =
    less_otherwise key_order_total r.part.key n.part.key (key_order n.part.key r.part.key) refl
    (first_not_less (key_order n.part.key r.part.key) (nat_cmp n.part.last r.part.last) h) e in
    All-weaker (λ m. NotAfter n.part m.part) (λ m. has_key r.part.key m ≡ false)
    (λ m k. less_no_tie key_order_total r.part.key m.part.key
    (less_than_rest key_order_total r.part.key n.part.key m.part.key less (key_order m.part.key n.part.key) refl
    (first_not_less (key_order m.part.key n.part.key) (nat_cmp m.part.last n.part.last) k)))
    rest (All-unmap part_of (NotAfter n.part) rest all)

next_is : (r n : FlowRecord) (rest : List FlowRecord) → (b : Bool) → has_key r.part.key n ≡ b
    → (b ≡ false → of_key r.part.key rest ≡ [])
    → cond b (Some n.part) None ≡ first_part (cond b (n ∷ of_key r.part.key rest) (of_key r.part.key rest))
next_is r n rest true e none = refl
next_is r n rest false e none = ap first_part (sym (none refl))

next_first : (r : FlowRecord) (rest : List FlowRecord) → All (NotAfter r.part) (map part_of rest)
    → Rises NotAfter (map part_of rest)
    → next_of_key r.part (map part_of rest) ≡ first_part (of_key r.part.key rest)
next_first r [] h k = refl
next_first r (n ∷ rest) h k = next_is r n rest (has_key r.part.key n) refl
    (λ e. none_left r.part.key rest (none_later r n rest (h 0 r.part (omega arith)) k.0 e))

module _ (R : FlowRecord → Option Fragment → Type 0) where
  -- what holds of the records of a key with their next ones, where the first of a list may be of the key
  pub head_holds : (r : FlowRecord) (F : List FlowRecord) (b : Bool) → b ≡ true → EachWithNext R (cond b (r ∷ F) F)
      → R r (first_part F)
  head_holds r F true e h = h.0
  head_holds r F false e h = absurd (let e' : false ≡ true = e in cc)

  pub tail_holds : (r : FlowRecord) (F : List FlowRecord) (b : Bool) → EachWithNext R (cond b (r ∷ F) F)
      → EachWithNext R F
  tail_holds r F true h = h.1
  tail_holds r F false h = h

  keyed_at : (key : FlowKey) (r : FlowRecord) (rest : List FlowRecord) → (b : Bool) → has_key key r ≡ b
      → (has_key key r ≡ true → R r (first_part (of_key key rest)))
      → EachWithNext R (of_key key rest) → EachWithNext R (cond b (r ∷ of_key key rest) (of_key key rest))
  keyed_at key r rest true e h k = (h e, k)
  keyed_at key r rest false e h k = k

  -- in a list that is sorted by key, the next record of a key is the next one of the list, where that has the key
  pub keyed : (T : List FlowRecord) → Rises NotAfter (map part_of T) → Beside R T → (key : FlowKey)
      → EachWithNext R (of_key key T)
  keyed [] h b key = tt
  keyed (r ∷ T) h b key = keyed_at key r T (has_key key r) refl
      (λ e. subst (λ k. R r (first_part (of_key k T))) (key_from_test key r e)
      (subst (R r) (next_first r T h.0 h.1) b.0))
      (keyed T h.1 b.1 key)

-- the records of one key rise by their last times, in either order
pub up_gathered : (key : FlowKey) (T : List FlowRecord)
    → Rises (λ (a b : FlowRecord). key_then_last a.part b.part ≡ Less) T
    → Rises (λ (a b : FlowRecord). a.part.last < b.part.last) (of_key key T)
up_gathered key T h = rises_filter (has_key key) (λ (a b : FlowRecord). key_then_last a.part b.part ≡ Less)
    (λ (a b : FlowRecord). a.part.last < b.part.last)
    (λ a b e f l. less_numbers a.part.last b.part.last
    (second_less (key_order a.part.key b.part.key) (nat_cmp a.part.last b.part.last) (same_keys key a b e f) l)) T h

pub up_written : (key : FlowKey) (L : List FlowRecord) → Rises (λ (a b : FlowRecord). written_order a b ≡ Less) L
    → Rises (λ (a b : FlowRecord). a.part.last < b.part.last) (of_key key L)
up_written key L h = rises_filter (has_key key) (λ (a b : FlowRecord). written_order a b ≡ Less)
    (λ (a b : FlowRecord). a.part.last < b.part.last)
    (λ a b e f l. less_numbers a.part.last b.part.last
    (first_less (nat_cmp a.part.last b.part.last) (key_order a.part.key b.part.key) (same_keys key a b e f) l)) L h

-- what differs by key and last time differs in the written order
pub no_tie : (a b : FlowRecord) → key_then_last a.part b.part ≡ Less → (q : Ordering) → written_order a b ≡ q
    → is_eq q ≡ false
no_tie a b l Less e = refl
no_tie a b l Greater e = refl
no_tie a b l Equal e =
    let last = tied_first (nat_cmp a.part.last b.part.last) (key_order a.part.key b.part.key) e in
    let key = tied_second (nat_cmp a.part.last b.part.last) (key_order a.part.key b.part.key) e in
    let tie : key_then_last a.part b.part ≡ Equal =
    both_tie (key_order a.part.key b.part.key) (nat_cmp a.part.last b.part.last) key last in
    let never : Less ≡ Equal = sym l ∙ tie in
    cc

-- the two differ in the written order
abbrev pub Untied : FlowRecord → FlowRecord → Type 0
Untied a b = is_eq (written_order a b) ≡ false

-- the first ends before the other
abbrev pub Before : FlowRecord → FlowRecord → Type 0
Before a b = a.part.last < b.part.last

-- records without ties, of which those of each key rise, and the same in the written order
module _ (T L : List FlowRecord) (perm : IsPermutation T L) (apart : Rises Untied T)
    (up : (key : FlowKey) → Rises Before (of_key key T))
    (sorted : IsSortedBy (λ (a b : FlowRecord). is_lt (written_order a b)) L) where
  written : Rises (λ (a b : FlowRecord). written_order a b ≡ Less) L
  written = rises_distinct written_total L
      (rises_from_sorted (λ (a b : FlowRecord). is_lt (written_order a b)) written_weak L sorted)
      (IsDistinct-IsPermutation (λ (a b : FlowRecord). is_eq (written_order a b)) (tie_flips written_total) T L perm
      (distinct_from_rises (λ (a b : FlowRecord). is_eq (written_order a b)) T apart))

  same_of_key : (key : FlowKey) → of_key key T ≡ of_key key L
  same_of_key key = same_rising Before (λ a b l m. omega arith)
      (of_key key T) (of_key key L) (up key) (up_written key L written)
      (λ z c. let k = filter_contains (has_key key) T z c in
      contains_filter (has_key key) L z (Contains-permutation T L z perm k.0) k.1)
      (λ z c. let k = filter_contains (has_key key) L z c in
      contains_filter (has_key key) T z (Contains-permutation L T z (IsPermutation-sym T L perm) k.0) k.1)

each_record : (groups : List (List Fragment)) (T : List FlowRecord) → AllZip IsTogether groups (map part_of T)
    → AllZip (λ group (r : FlowRecord). IsTogether group r.part) groups T
each_record [] [] h = h
each_record [] (r ∷ T) h = absurd h
each_record (x ∷ groups) [] h = absurd h
each_record (x ∷ groups) (r ∷ T) h = (h.0, each_record groups T h.1)

-- the records regroup the parts
pub regrouped : (limits : Timeouts) (parts W : List Fragment) (T L : List FlowRecord) → map part_of T ≡ W
    → Reaches limits parts W → IsPermutation T L → Regroups parts L
regrouped limits parts W T L e r perm =
    let g = grouped limits parts parts W r (grouped_start parts) in
    let each = each_record g.groups T (subst (AllZip IsTogether g.groups) (sym e) g.each) in
    let z = AllZip-permutation (λ group (s : FlowRecord). IsTogether group s.part) g.groups T L each perm in
    record {
      groups = z.0;
      whole = IsPermutation-trans parts (flat_map (λ (group : List Fragment). group) g.groups)
          (flat_map (λ (group : List Fragment). group) z.0) g.whole
          (flat_map-permutation (λ (group : List Fragment). group) g.groups z.0 z.1);
      each = z.2;
    }

-- the clock of packets is one
own_clock : (packets : List Packet) (clock : Option ℕ) (c : ℕ) → IsClock packets clock → IsClock packets (Some c)
    → clock ≡ Some c
own_clock packets None c h k =
    absurd (let f = found (λ (p : Packet). p.time ≡ c) packets k.reached in let below = f.1.1 in
    let none = ap length h in omega arith)
own_clock packets (Some b) c h k =
    let f = found (λ (p : Packet). p.time ≡ b) packets h.reached in
    let g = found (λ (p : Packet). p.time ≡ c) packets k.reached in
    let low = All-contains (λ (p : Packet). p.time ≤ c) packets f.0 k.bound f.1 in
    let high = All-contains (λ (p : Packet). p.time ≤ b) packets g.0 h.bound g.1 in
    let at = f.2 in
    let at' = g.2 in
    let same : b ≡ c = omega arith in
    ap Some same

-- what is lawful by the packets' own clock is lawful, and the other way round
pub by_own_clock : OwnClockIsGiven
by_own_clock limits packets clock L at = (
  λ lawful. record {
    shared = lawful.shared;
    ordered = lawful.ordered;
    apart = lawful.apart;
    reasons = λ c is key. lawful.reasons c (own_clock packets clock c at is) key;
  },
  λ lawful. record {
    shared = lawful.shared;
    ordered = lawful.ordered;
    apart = lawful.apart;
    reasons = λ c is key. lawful.reasons c (subst (IsClock packets) is at) key;
  },
)

-- the records are lawful for whatever packets the parts share out, by any clock
pub lawful_by : (limits : Timeouts) (clock : Option ℕ) (parts : List Fragment) (T L : List FlowRecord)
    → Reaches limits parts (map part_of T)
    → (All (λ f. f.last - f.first ≤ limits.active) (map part_of T)
    → Rises Untied T × ((key : FlowKey) → Rises Before (of_key key T)))
    → ((key : FlowKey) → EachWithNext (StandsApart limits) (of_key key T))
    → ((key : FlowKey) → EachWithNext (HasReason limits (unwrap_or clock 0)) (of_key key T))
    → IsPermutation T L → IsSortedBy (λ (a b : FlowRecord). is_lt (written_order a b)) L
    → (packets : List Packet) → SharesOut limits packets parts → IsLawfulBy limits clock packets L
lawful_by limits clock parts T L r strict apart reasons perm sorted packets shares =
    let shares' : SharesOut limits packets (map part_of T) = shared limits packets parts (map part_of T) r shares in
    let up = strict (short_at limits shares'.heaps (map part_of T) shares'.each) in
    let same = same_of_key T L perm up.0 up.1 sorted in
    record {
      shared = permuted limits packets packets (map part_of T) (map part_of L) (IsPermutation-refl packets)
          (IsPermutation-map part_of T L perm) shares';
      ordered = sorted;
      apart = λ key. subst (EachWithNext (StandsApart limits)) (same key) (apart key);
      reasons = λ c is key. subst (λ n. EachWithNext (HasReason limits n) (of_key key L))
          (ap (λ o. unwrap_or o 0) is)
          (subst (EachWithNext (HasReason limits (unwrap_or clock 0))) (same key) (reasons key));
    }

-- lawful lists have no ties
module _ (limits : Timeouts) where
  apart_of_two : (a c : FlowRecord) (F : List FlowRecord) (b b' : Bool)
      → EachWithNext (StandsApart limits) (cond b (a ∷ cond b' (c ∷ F) F) (cond b' (c ∷ F) F))
      → b ≡ true → b' ≡ true → ¬ IsJoinable limits a.part c.part
  apart_of_two a c F true true h e e' = h.0
  apart_of_two a c F true false h e e' = absurd (cc)
  apart_of_two a c F false b' h e e' = absurd (cc)

  pub itself : (key : FlowKey) (r : FlowRecord) → r.part.key ≡ key → has_key key r ≡ true
  itself key r e = ap is_eq (keys_tie r.part.key key e)

  less_written : (a c : FlowRecord) → a.part.last - a.part.first ≤ limits.active
      → c.part.last - c.part.first ≤ limits.active
      → (key_then_last c.part a.part ≡ Equal → ¬ IsJoinable limits a.part c.part)
      → (q : Ordering) → written_order c a ≡ q → is_lt q ≡ false → written_order a c ≡ Less
  less_written a c s t apart Less e h = absurd (let e' : true ≡ false = h in cc)
  less_written a c s t apart Greater e h = less_from_greater written_total a c e
  less_written a c s t apart Equal e h =
      let last = tied_first (nat_cmp c.part.last a.part.last) (key_order c.part.key a.part.key) e in
      let key = tied_second (nat_cmp c.part.last a.part.last) (key_order c.part.key a.part.key) e in
      let tie : key_then_last c.part a.part ≡ Equal =
      both_tie (key_order c.part.key a.part.key) (nat_cmp c.part.last a.part.last) key last in
      absurd (apart tie (ties_join limits a.part c.part s t tie))

  no_ties_at : (L : List FlowRecord) → Rises (λ (a b : FlowRecord). is_lt (written_order b a) ≡ false) L
      → ((key : FlowKey) → EachWithNext (StandsApart limits) (of_key key L))
      → All (λ (r : FlowRecord). r.part.last - r.part.first ≤ limits.active) L
      → Rises (λ (a b : FlowRecord). written_order a b ≡ Less) L
  no_ties_at [] h k s = tt
  no_ties_at (a ∷ []) h k s = (All-nil (λ (b : FlowRecord). written_order a b ≡ Less), tt)
  no_ties_at (a ∷ c ∷ L) h k s = rises_more written_total a c L
      (less_written a c (s 0 a (omega arith)) (s 1 a (omega arith))
      (λ tie. apart_of_two a c (of_key a.part.key L) (has_key a.part.key a) (has_key a.part.key c) (k a.part.key)
      (itself a.part.key a refl)
      (itself a.part.key c
      (tied_keys c.part.key a.part.key
      (tied_first (key_order c.part.key a.part.key) (nat_cmp c.part.last a.part.last) tie))))
      (written_order c a) refl (h.0 0 a (omega arith)))
      (no_ties_at (c ∷ L) h.1 (λ key. tail_holds (StandsApart limits) a (of_key key (c ∷ L)) (has_key key a) (k key))
      (All-tail (λ (r : FlowRecord). r.part.last - r.part.first ≤ limits.active) a (c ∷ L) s))

pub rises_written : (limits : Timeouts) (IsNow : ℕ → Type 0) (packets : List Packet) (L : List FlowRecord)
    → IsLawfulAt limits IsNow packets L → Rises (λ (a b : FlowRecord). written_order a b ≡ Less) L
rises_written limits IsNow packets L lawful =
    no_ties_at limits L
    (rises_from_sorted (λ (a b : FlowRecord). is_lt (written_order a b)) written_weak L lawful.ordered) lawful.apart
    (All-unmap part_of (λ f. f.last - f.first ≤ limits.active) L
    (short_at limits lawful.shared.heaps (map part_of L) lawful.shared.each))

pub no_ties : HasNoTies
no_ties limits packets L lawful = pairs_from_rises (λ (a b : FlowRecord). written_order a b ≡ Less) L
    (rises_written limits (λ c. IsClock packets (Some c)) packets L lawful)

pub not_true : (b : Bool) → (b ≡ true → ⊥) → b ≡ false
not_true true h = absurd (h refl)
not_true false h = refl

pub untied : (r s : FlowRecord) → r.part.key ≢ s.part.key → (q : Ordering) → written_order r s ≡ q → is_eq q ≡ false
untied r s n Less e = refl
untied r s n Greater e = refl
untied r s n Equal e = absurd (n (tied_keys r.part.key s.part.key
    (tied_second (nat_cmp r.part.last s.part.last) (key_order r.part.key s.part.key) e)))

-- lists of records that are lawful for packets of other keys
module _ (limits : Timeouts) (IsNow : ℕ → Type 0) (packets others : List Packet) (L M B : List FlowRecord)
    (h : IsLawfulAt limits IsNow packets L) (k : IsLawfulAt limits IsNow others M)
    (unlike : All (λ (r : FlowRecord). All (λ (s : FlowRecord). r.part.key ≢ s.part.key) M) L)
    (perm : IsPermutation (L ++ M) B) (sorted : IsSorted written_order B) where
  abbrev Under : FlowRecord → FlowRecord → Type 0
  Under a b = is_eq (written_order a b) ≡ false

  across : (L : List FlowRecord) → Rises Under L → Rises Under M
      → All (λ (r : FlowRecord). All (λ (s : FlowRecord). r.part.key ≢ s.part.key) M) L → Rises Under (L ++ M)
  across [] a b u = b
  across (r ∷ L) a b u = (
    All-append (Under r) L M a.0
        (All-weaker (λ (s : FlowRecord). r.part.key ≢ s.part.key) (Under r)
        (λ s n. untied r s n (written_order r s) refl) M
        (u 0 r (omega arith))),
    across L a.1 b (All-tail (λ (r : FlowRecord). All (λ (s : FlowRecord). r.part.key ≢ s.part.key) M) r L u),
  )

  apart_in : (L : List FlowRecord) → Rises (λ (a b : FlowRecord). written_order a b ≡ Less) L → Rises Under L
  apart_in L = rises_weaker (λ (a b : FlowRecord). written_order a b ≡ Less) Under (λ a b l. ap is_eq l) L

  strict : Rises (λ (a b : FlowRecord). written_order a b ≡ Less) B
  strict = rises_distinct written_total B
      (rises_from_sorted (λ (a b : FlowRecord). is_lt (written_order a b)) written_weak B sorted)
      (IsDistinct-IsPermutation (λ (a b : FlowRecord). is_eq (written_order a b)) (tie_flips written_total) (L ++ M) B
      perm (distinct_from_rises (λ (a b : FlowRecord). is_eq (written_order a b)) (L ++ M)
      (across L (apart_in L (rises_written limits IsNow packets L h))
      (apart_in M (rises_written limits IsNow others M k))
      unlike)))

  -- the records of a key are all of the one list or all of the other
  same_as : (key : FlowKey) (F G : List FlowRecord) → Rises (λ (a b : FlowRecord). written_order a b ≡ Less) F
      → ((z : FlowRecord) → Contains B z → Contains F z ⊎ Contains G z)
      → ((z : FlowRecord) → Contains F z → Contains B z)
      → of_key key G ≡ [] → of_key key B ≡ of_key key F
  same_as key F G up into from none = same_rising (λ (a b : FlowRecord). a.part.last < b.part.last)
      (λ a b l m. omega arith) (of_key key B) (of_key key F) (up_written key B strict) (up_written key F up)
      (λ z c. let b = filter_contains (has_key key) B z c in
      elim (into z b.0) [
        | inl f ↦ contains_filter (has_key key) F z f b.1
        | inr g ↦ absurd (let in_none = contains_filter (has_key key) G z g b.1 in
            let below = in_none.1 in let empty = ap length none in omega arith)
      ])
      (λ z c. let f = filter_contains (has_key key) F z c in contains_filter (has_key key) B z (from z f.0) f.1)

  in_either : (z : FlowRecord) → Contains B z → Contains L z ⊎ Contains M z
  in_either z c =
      Contains-append_cases L M z (Contains-permutation B (L ++ M) z (IsPermutation-sym (L ++ M) B perm) c)

  which : (key : FlowKey) (F : List FlowRecord) → of_key key L ≡ F → (of_key key L ≡ []) ⊎ (of_key key M ≡ [])
  which key [] e = inl e
  which key (r ∷ F) e =
      let r_in : Contains (of_key key L) r = subst (λ l. Contains l r) (sym e) (contains_head r F) in
      let r_is = filter_contains (has_key key) L r r_in in
      inr (none_left key M
      (All-weaker (λ (s : FlowRecord). r.part.key ≢ s.part.key) (λ s. has_key key s ≡ false)
      (λ s n. not_true (has_key key s) (λ is. n (key_from_test key r r_is.1 ∙ sym (key_from_test key s is)))) M
      (All-contains (λ (r : FlowRecord). All (λ (s : FlowRecord). r.part.key ≢ s.part.key) M) L r unlike r_is.0)))

  one_of : (key : FlowKey) → (of_key key B ≡ of_key key L) ⊎ (of_key key B ≡ of_key key M)
  one_of key = elim (which key (of_key key L) refl) [
    | inl none ↦ inr (same_as key M L (rises_written limits IsNow others M k)
        (λ z c. elim (in_either z c) [ inl l ↦ inr l | inr m ↦ inl m ])
        (λ z c. Contains-permutation (L ++ M) B z perm (Contains-append_right L M z c)) none)
    | inr none ↦ inl (same_as key L M (rises_written limits IsNow packets L h) in_either
        (λ z c. Contains-permutation (L ++ M) B z perm (Contains-append_left L M z c)) none)
  ]

  of_one : (R : FlowRecord → Option Fragment → Type 0) → ((key : FlowKey) → EachWithNext R (of_key key L))
      → ((key : FlowKey) → EachWithNext R (of_key key M)) → (key : FlowKey) → EachWithNext R (of_key key B)
  of_one R a b key = elim (one_of key) [
    | inl e ↦ subst (EachWithNext R) (sym e) (a key)
    | inr e ↦ subst (EachWithNext R) (sym e) (b key)
  ]

  pub lawful_both : IsLawfulAt limits IsNow (packets ++ others) B
  lawful_both = record {
    shared = permuted limits (packets ++ others) (packets ++ others) (map part_of L ++ map part_of M) (map part_of B)
        (IsPermutation-refl (packets ++ others))
        (subst (λ l. IsPermutation l (map part_of B)) (map-append part_of L M)
        (IsPermutation-map part_of (L ++ M) B perm))
        (together limits packets others (map part_of L) (map part_of M) h.shared k.shared);
    ordered = sorted;
    apart = of_one (StandsApart limits) h.apart k.apart;
    reasons = λ c is. of_one (HasReason limits c) (h.reasons c is) (k.reasons c is);
  }

pub lawful_together : LawfulTogether
lawful_together limits clock packets others L M B h k unlike perm sorted =
    lawful_both limits (λ now. clock ≡ Some now) packets others L M B h k unlike perm sorted
