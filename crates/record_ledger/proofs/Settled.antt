-- Buckets that were settled: what holds of the records of each key holds of them in all buckets together.
use Rattle.std.proofs.Common.{◌≡◌, ◌≢◌, ℕ, suc, ◌-◌, ◌<◌, ◌≤◌, ◌⊎◌, inl, inr, false, List, [], ◌∷◌, ◌++◌}
use Rattle.std.proofs.Common.{length, get_or, refl, sym, ap, ◌∙◌, subst, arith, append-nil, All}
use Rattle.std.proofs.Common.{Result, Ok, Err, IfOk, take, drop}
use Rattle.std.specs.List.{AllZip}
use Rattle.std.specs.declared.cmp.Ordering.TheVariants.{Less}
use Rattle.std.proofs.lemmas.Bool.{cases_lt}
use Rattle.std.proofs.lemmas.List.{map-append, take_at}
use Rattle.std.proofs.lemmas.List.Elements.{All-append, All-cons, All-nil, All-head, All-tail, All-weaker, All-contains}
use Rattle.std.proofs.lemmas.List.Elements.{All-contains_itself, filter-append}
use Rattle.std.proofs.lemmas.List.Sorted.{Contains-permutation, IsPermutation-sym}
use Rattle.flow_key.specs.declared.key.FlowKey.{FlowKey}
use Rattle.flow_key.specs.Key.{set_number}
use Rattle.flow_parts.specs.declared.fragment.Fragment.{Fragment}
use Rattle.flow_parts.specs.declared.timeouts.Timeouts.{Timeouts}
use Rattle.flow_parts.specs.Reaching.{Reaches}
use Rattle.flow_parts.specs.Reaching.Reaches.{moved, joined, onward}
use Rattle.flow_parts.proofs.Reaching.{itself, both}
use Rattle.record_ledger.specs.declared.record.FlowRecord.{FlowRecord}
use Rattle.record_ledger.specs.Buckets.{Bucket, records_of, LieFrom, AreSettled, EndInTurn}
use Rattle.record_ledger.specs.Gathered.{AreJoined, parts_with}
use Rattle.record_ledger.specs.Lawful.{parts_of, of_key, EachWithNext, StandsApart, HasReason}
use Rattle.record_ledger.specs.Order.{key_then_last, written_order}
use Rattle.record_ledger.specs.Steps.{Rises, NotAfter}
use Rattle.record_ledger.proofs.Coming.{joined_of_key}
use Rattle.record_ledger.proofs.Exact.{parts_of_key, nothing_joined}
use Rattle.record_ledger.proofs.Gathered.{has_key, key_from_test, none_left, not_true, untied, Untied, keyed}
use Rattle.record_ledger.proofs.Gathered.{beside_reasons, beside_apart, strictly}
use Rattle.record_ledger.proofs.Keyed.{part_of, All-unmap, All-of_map, rises_unmap, rises_weaker}
use Rattle.record_ledger.proofs.Rising.{All-front, All-back, not_after_last}

-- what holds at each place holds of the lists
pub all-zip : {X : Type 0} (R : X → X → Type 0) (xs ys : List X) → length ys ≡ length xs
    → ((i : ℕ) (d : X) → i < length xs → R (get_or xs i d) (get_or ys i d)) → AllZip R xs ys
all-zip R [] [] len each = tt
all-zip R [] (y ∷ ys) len each = absurd (omega (arith, len))
all-zip R (x ∷ xs) [] len each = absurd (omega (arith, len))
all-zip R (x ∷ xs) (y ∷ ys) len each =
    (each 0 x (omega arith), all-zip R xs ys (omega (arith, len)) (λ i d lt. each (suc i) d (omega (arith, lt))))

-- two facts of an outcome, and what follows from them
pub both_ok : {T E : Type 0} {P Q S : T → Type 0} (r : Result T E) → IfOk r P → IfOk r Q → ((x : T) → P x → Q x → S x)
    → IfOk r S
both_ok (Ok x) p q f = f x p q
both_ok (Err e) p q f = tt

-- a lent list that is given back with as many elements
pub given_back : {X : Type 0} (n : ℕ) (before lent after : List X) → n ≡ length before → lent ≡ before
    → length lent ≡ length after → take n (after ++ drop (length after) before) ≡ after
given_back n before lent after long same as_long = take_at after (drop (length after) before) n
    (omega (arith, long, as_long, ap length same))

same_or_not : (a b : ℕ) → (a ≡ b) ⊎ (a ≢ b)
same_or_not a b = elim (cases_lt a b) [
  | inl l ↦ inr (λ e. absurd (omega (arith, l, e)))
  | inr g ↦ elim (cases_lt b a) [
    | inl l ↦ inr (λ e. absurd (omega (arith, l, e)))
    | inr k ↦ inl (omega arith)
  ]
]

-- a record of another bucket has another key
of_other : (key : FlowKey) (n i m : ℕ) (r : FlowRecord) → set_number key n ≡ m → set_number r.part.key n ≡ i → m ≢ i
    → has_key key r ≡ false
of_other key n i m r e f apart = not_true (has_key key r)
    (λ is. apart (sym e ∙ sym (ap (λ k. set_number k n) (key_from_test key r is)) ∙ f))

later : (n i : ℕ) (bs : List Bucket) → LieFrom n i bs
    → All (λ (r : FlowRecord). i ≤ set_number r.part.key n) (records_of bs)
later n i [] h = All-nil (λ (r : FlowRecord). i ≤ set_number r.part.key n)
later n i (b ∷ bs) h = All-append (λ (r : FlowRecord). i ≤ set_number r.part.key n) b.items (records_of bs)
    (All-weaker (λ (r : FlowRecord). set_number r.part.key n ≡ i) (λ (r : FlowRecord). i ≤ set_number r.part.key n)
    (λ r e. omega (arith, e)) b.items h.0)
    (All-weaker (λ (r : FlowRecord). suc i ≤ set_number r.part.key n) (λ (r : FlowRecord). i ≤ set_number r.part.key n)
    (λ r l. omega (arith, l)) (records_of bs) (later n (suc i) bs h.1))

none_before : (key : FlowKey) (n i m : ℕ) (bs : List Bucket) → LieFrom n i bs → set_number key n ≡ m → m < i
    → of_key key (records_of bs) ≡ []
none_before key n i m bs h e l = none_left key (records_of bs)
    (All-weaker (λ (r : FlowRecord). i ≤ set_number r.part.key n) (λ r. has_key key r ≡ false)
    (λ r low. of_other key n (set_number r.part.key n) m r e refl (λ same. absurd (omega (arith, same, low, l))))
    (records_of bs) (later n i bs h))

-- the records of a key are all in its bucket
all_here : (key : FlowKey) (n i m : ℕ) (b : Bucket) (bs : List Bucket) → LieFrom n i (b ∷ bs) → set_number key n ≡ m
    → m ≡ i → of_key key (b.items ++ records_of bs) ≡ of_key key b.items
all_here key n i m b bs h e same = filter-append (has_key key) b.items (records_of bs)
    ∙ ap (λ l. of_key key b.items ++ l) (none_before key n (suc i) m bs h.1 e (omega (arith, same)))
    ∙ append-nil (of_key key b.items)

none_here : (key : FlowKey) (n i m : ℕ) (b : Bucket) (bs : List Bucket) → LieFrom n i (b ∷ bs) → set_number key n ≡ m
    → m ≢ i → of_key key (b.items ++ records_of bs) ≡ of_key key (records_of bs)
none_here key n i m b bs h e apart = filter-append (has_key key) b.items (records_of bs)
    ∙ ap (λ l. l ++ of_key key (records_of bs))
    (none_left key b.items (All-weaker (λ (r : FlowRecord). set_number r.part.key n ≡ i) (λ r. has_key key r ≡ false)
    (λ r f. of_other key n i m r e f apart) b.items h.0))

-- so what holds of those of one bucket holds of all
module _ (key : FlowKey) (P : List FlowRecord → Type 0) (none : P []) where
  one_of : (n i m : ℕ) (b : Bucket) (bs : List Bucket) → LieFrom n i (b ∷ bs) → set_number key n ≡ m
      → P (of_key key b.items) → P (of_key key (records_of bs)) → P (of_key key (b.items ++ records_of bs))
  one_of n i m b bs h e p q = elim (same_or_not m i) [
    | inl same ↦ subst P (sym (all_here key n i m b bs h e same)) p
    | inr apart ↦ subst P (sym (none_here key n i m b bs h e apart)) q
  ]

  pub lifted : (n i : ℕ) (bs : List Bucket) → LieFrom n i bs → All (λ (b : Bucket). P (of_key key b.items)) bs
      → P (of_key key (records_of bs))
  lifted n i [] h p = none
  lifted n i (b ∷ bs) h p = one_of n i (set_number key n) b bs h refl
      (All-head (λ (b : Bucket). P (of_key key b.items)) b bs p)
      (lifted n (suc i) bs h.1 (All-tail (λ (b : Bucket). P (of_key key b.items)) b bs p))

pub rises_append : {X : Type 0} (R : X → X → Type 0) (xs ys : List X) → Rises R xs → Rises R ys
    → All (λ x. All (R x) ys) xs → Rises R (xs ++ ys)
rises_append R [] ys h k a = k
rises_append R (x ∷ xs) ys h k a = (
  All-append (R x) xs ys h.0 (All-head (λ x. All (R x) ys) x xs a),
  rises_append R xs ys h.1 k (All-tail (λ x. All (R x) ys) x xs a),
)

-- records of two buckets don't tie
pub none_tie : (n i : ℕ) (bs : List Bucket) → LieFrom n i bs → All (λ (b : Bucket). Rises Untied b.items) bs
    → Rises Untied (records_of bs)
none_tie n i [] h k = tt
none_tie n i (b ∷ bs) h k = rises_append Untied b.items (records_of bs)
    (All-head (λ (b : Bucket). Rises Untied b.items) b bs k)
    (none_tie n (suc i) bs h.1 (All-tail (λ (b : Bucket). Rises Untied b.items) b bs k))
    (All-weaker (λ (r : FlowRecord). set_number r.part.key n ≡ i) (λ r. All (Untied r) (records_of bs))
    (λ r e. All-weaker (λ (s : FlowRecord). suc i ≤ set_number s.part.key n) (Untied r)
    (λ s l. untied r s (λ same. (let sets = ap (λ k. set_number k n) same in absurd (omega (arith, sets, e, l))))
    (written_order r s) refl) (records_of bs) (later n (suc i) bs h.1)) b.items h.0)

-- the records of a key end in turn
pub all_in_turn : (limits : Timeouts) (clock n i : ℕ) (os bs : List Bucket)
    → AllZip (λ (o b : Bucket). AreSettled limits clock o.items b.items) os bs → LieFrom n i bs
    → EndInTurn (records_of bs)
all_in_turn limits clock n i [] [] z h = tt
all_in_turn limits clock n i [] (b ∷ bs) z h = absurd z
all_in_turn limits clock n i (o ∷ os) [] z h = absurd z
all_in_turn limits clock n i (o ∷ os) (b ∷ bs) z h =
    rises_append (λ (r s : FlowRecord). r.part.key ≡ s.part.key → r.part.last ≤ s.part.last) b.items (records_of bs)
    (rises_weaker (λ (r s : FlowRecord). NotAfter r.part s.part)
    (λ (r s : FlowRecord). r.part.key ≡ s.part.key → r.part.last ≤ s.part.last)
    (λ r s k. not_after_last r.part s.part k) b.items (rises_unmap part_of NotAfter b.items z.0.sorted))
    (all_in_turn limits clock n (suc i) os bs z.1 h.1)
    (All-weaker (λ (r : FlowRecord). set_number r.part.key n ≡ i)
    (λ (r : FlowRecord). All (λ (s : FlowRecord). r.part.key ≡ s.part.key → r.part.last ≤ s.part.last) (records_of bs))
    (λ r e. All-weaker (λ (s : FlowRecord). suc i ≤ set_number s.part.key n)
    (λ (s : FlowRecord). r.part.key ≡ s.part.key → r.part.last ≤ s.part.last)
    (λ s l same. (let sets = ap (λ k. set_number k n) same in absurd (omega (arith, sets, e, l))))
    (records_of bs) (later n (suc i) bs h.1)) b.items h.0)

-- joining leaves the keys
pub keys_kept : (limits : Timeouts) (P : FlowKey → Type 0) (F G : List Fragment) → Reaches limits F G
    → All (λ (f : Fragment). P f.key) F → All (λ (f : Fragment). P f.key) G
keys_kept limits P F G (moved _ _ s) h = All-weaker (λ x. _) (λ (f : Fragment). P f.key)
    (λ x c. All-contains (λ (f : Fragment). P f.key) F x h (Contains-permutation G F x (IsPermutation-sym F G s) c)) G
    (All-contains_itself G)
keys_kept limits P F G (joined f g w rest j u) h = All-cons (λ (f : Fragment). P f.key) w rest
    (subst P (sym u.key) (All-head (λ (f : Fragment). P f.key) f (g ∷ rest) h))
    (All-tail (λ (f : Fragment). P f.key) g rest (All-tail (λ (f : Fragment). P f.key) f (g ∷ rest) h))
keys_kept limits P F G (onward _ M _ r q) h = keys_kept limits P M G q (keys_kept limits P F M r h)

module _ (limits : Timeouts) (clock : ℕ) where
  abbrev pub Settled : Bucket → Bucket → Type 0
  Settled o b = AreSettled limits clock o.items b.items

  pub all_reached : (os bs : List Bucket) → AllZip Settled os bs
      → Reaches limits (parts_of (records_of os)) (parts_of (records_of bs))
  all_reached [] [] z = itself limits []
  all_reached [] (b ∷ bs) z = absurd z
  all_reached (o ∷ os) [] z = absurd z
  all_reached (o ∷ os) (b ∷ bs) z =
      subst (λ F. Reaches limits F (parts_of (b.items ++ records_of bs)))
      (sym (map-append part_of o.items (records_of os)))
      (subst (Reaches limits (parts_of o.items ++ parts_of (records_of os)))
      (sym (map-append part_of b.items (records_of bs)))
      (both limits (parts_of o.items) (parts_of b.items) (parts_of (records_of os)) (parts_of (records_of bs))
      z.0.reached (all_reached os bs z.1)))

  pub still_lie : (n i : ℕ) (os bs : List Bucket) → AllZip Settled os bs → LieFrom n i os → LieFrom n i bs
  still_lie n i [] [] z h = tt
  still_lie n i [] (b ∷ bs) z h = absurd z
  still_lie n i (o ∷ os) [] z h = absurd z
  still_lie n i (o ∷ os) (b ∷ bs) z h = (
    All-unmap part_of (λ (f : Fragment). set_number f.key n ≡ i) b.items
        (keys_kept limits (λ k. set_number k n ≡ i) (parts_of o.items) (parts_of b.items) z.0.reached
        (All-of_map part_of (λ (f : Fragment). set_number f.key n ≡ i) o.items h.0)),
    still_lie n (suc i) os bs z.1 h.1,
  )

  pub each_apart : (key : FlowKey) (os bs : List Bucket) → AllZip Settled os bs
      → All (λ (b : Bucket). EachWithNext (StandsApart limits) (of_key key b.items)) bs
  each_apart key [] [] z = All-nil (λ (b : Bucket). EachWithNext (StandsApart limits) (of_key key b.items))
  each_apart key [] (b ∷ bs) z = absurd z
  each_apart key (o ∷ os) [] z = absurd z
  each_apart key (o ∷ os) (b ∷ bs) z =
      All-cons (λ (b : Bucket). EachWithNext (StandsApart limits) (of_key key b.items)) b bs
      (keyed (StandsApart limits) b.items z.0.sorted (beside_apart limits b.items z.0.apart) key)
      (each_apart key os bs z.1)

  pub each_reason : (key : FlowKey) (os bs : List Bucket) → AllZip Settled os bs
      → All (λ (b : Bucket). EachWithNext (HasReason limits clock) (of_key key b.items)) bs
  each_reason key [] [] z = All-nil (λ (b : Bucket). EachWithNext (HasReason limits clock) (of_key key b.items))
  each_reason key [] (b ∷ bs) z = absurd z
  each_reason key (o ∷ os) [] z = absurd z
  each_reason key (o ∷ os) (b ∷ bs) z =
      All-cons (λ (b : Bucket). EachWithNext (HasReason limits clock) (of_key key b.items)) b bs
      (keyed (HasReason limits clock) b.items z.0.sorted
      (beside_reasons limits clock b.items (parts_of b.items) refl z.0.reasons) key)
      (each_reason key os bs z.1)

  -- the records of a key are what becomes of its fragments
  pub each_joined : (key : FlowKey) (n i : ℕ) (os bs : List Bucket) → AllZip Settled os bs → LieFrom n i os → LieFrom n i bs
      → AreJoined limits (parts_of (of_key key (records_of os))) (parts_of (of_key key (records_of bs)))
  each_joined key n i [] [] z h k = nothing_joined limits
  each_joined key n i [] (b ∷ bs) z h k = absurd z
  each_joined key n i (o ∷ os) [] z h k = absurd z
  each_joined key n i (o ∷ os) (b ∷ bs) z h k = elim (same_or_not (set_number key n) i) [
    | inl same ↦ subst (λ rs. AreJoined limits (parts_of rs) (parts_of (of_key key (b.items ++ records_of bs))))
        (sym (all_here key n i (set_number key n) o os h refl same))
        (subst (λ rs. AreJoined limits (parts_of (of_key key o.items)) (parts_of rs))
        (sym (all_here key n i (set_number key n) b bs k refl same))
        (subst (λ fs. AreJoined limits fs (parts_of (of_key key b.items))) (parts_of_key key o.items)
        (subst (AreJoined limits (parts_with key (parts_of o.items))) (parts_of_key key b.items)
        (joined_of_key limits (parts_of o.items) (parts_of b.items) key z.0.joined))))
    | inr apart ↦ subst (λ rs. AreJoined limits (parts_of rs) (parts_of (of_key key (b.items ++ records_of bs))))
        (sym (none_here key n i (set_number key n) o os h refl apart))
        (subst (λ rs. AreJoined limits (parts_of (of_key key (records_of os))) (parts_of rs))
        (sym (none_here key n i (set_number key n) b bs k refl apart))
        (each_joined key n (suc i) os bs z.1 h.1 k.1))
  ]

  abbrev pub Short : Fragment → Type 0
  Short f = f.last - f.first ≤ limits.active

  abbrev pub Strict : Bucket → Type 0
  Strict b = Rises (λ (r s : FlowRecord). key_then_last r.part s.part ≡ Less) b.items

  pub each_strict : (os bs : List Bucket) → AllZip Settled os bs → All Short (parts_of (records_of bs)) → All Strict bs
  each_strict [] [] z s = All-nil Strict
  each_strict [] (b ∷ bs) z s = absurd z
  each_strict (o ∷ os) [] z s = absurd z
  each_strict (o ∷ os) (b ∷ bs) z s =
      let s' = subst (All Short) (map-append part_of b.items (records_of bs)) s in
      All-cons Strict b bs
      (rises_unmap part_of (λ f g. key_then_last f g ≡ Less) b.items
      (strictly limits (parts_of b.items) z.0.sorted z.0.apart
      (All-front Short (parts_of b.items) (parts_of (records_of bs)) s')))
      (each_strict os bs z.1 (All-back Short (parts_of b.items) (parts_of (records_of bs)) s'))
