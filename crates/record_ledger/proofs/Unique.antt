-- Sessions have one list of records.
use Rattle.std.proofs.Common.{◌≡◌, ℕ, suc, ◌<◌, ◌≤◌, ◌^◌, Bool, true, false, cond, inl, inr, List, [], ◌∷◌, length}
use Rattle.std.proofs.Common.{get_or, drop, map, refl, sym, ap, ◌∙◌, subst, arith, AllPairs, Any, Contains, Option}
use Rattle.std.proofs.Common.{Some, None}
use mathlib.Core.HLevel.{is_prop→PathP}
use Rattle.std.proofs.Props.{props}
use Rattle.std.specs.Cmp.{IsTotalOrder}
use Rattle.std.specs.Int.{bit_at}
use Rattle.std.specs.Ordering.{is_eq, nat_cmp, ordering_then, ordering_reverse}
use Rattle.std.specs.declared.cmp.Ordering.{Ordering}
use Rattle.std.specs.declared.cmp.Ordering.TheVariants.{Less, Greater}
use Rattle.std.proofs.lemmas.Bool.{cases_lt}
use Rattle.std.proofs.lemmas.Cmp.{nat_cmp_total, on_total, then_total}
use Rattle.std.proofs.lemmas.List.Elements.{All-contains}
use Rattle.std.proofs.lemmas.Nat.Bits.{bit_at-lt, same_from_bits}
use Rattle.flow_key.specs.declared.key.FlowKey.{FlowKey}
use Rattle.flow_key.specs.Key.{key_order}
use Rattle.flow_key.proofs.KeyOrder.{key_order_total}
use Rattle.packet_accept.specs.Extremes.{IsGreatest}
use Rattle.packet_accept.specs.Clock.{IsClock}
use Rattle.packet_accept.specs.declared.packet.Packet.{Packet}
use Rattle.flow_parts.specs.declared.fragment.Fragment.{Fragment}
use Rattle.flow_parts.specs.declared.timeouts.Timeouts.{Timeouts}
use Rattle.flow_parts.proofs.Members.{found, IsGreatest-append, IsGreatest-one}
use Rattle.flow_parts.proofs.PartWords.{part_same}
use Rattle.record_ledger.specs.declared.record.FlowRecord.{FlowRecord}
use Rattle.record_ledger.specs.Lawful.{of_key, first_part, EachWithNext, HasReason, reason_of}
use Rattle.record_ledger.specs.Steps.{Rises}
use Rattle.record_ledger.proofs.Gathered.{has_key, head_holds, tail_holds}
use Rattle.record_ledger.proofs.Keyed.{part_of, All-of_map, same_rising, cons_cases, contains_head, contains_more}
use Rattle.record_ledger.proofs.Rising.{keys_tie}
use Rattle.flow_parts.specs.Heap.{IsHeap}
use Rattle.record_ledger.specs.Laws.{RecordsAreOne}
use Rattle.record_ledger.specs.Sessions.{IsSessions, AreRecordsOf}
use Rattle.record_ledger.proofs.Meeting.{in_packets}

-- the fragments of one heap are one
module _ (limits : Timeouts) (P : List Packet) (f g : Fragment) (a : IsHeap limits P f) (b : IsHeap limits P g) where
  same_flags : f.flags ≡ g.flags
  same_flags = same_from_bits f.flags g.flags (λ bit.
      let low = bit_at-lt f.flags bit in
      let low' = bit_at-lt g.flags bit in
      elim (cases_lt 0 (bit_at f.flags bit)) [
        | inl l ↦ (let e = (b.flags.bits bit).1 ((a.flags.bits bit).0 (omega arith)) in omega arith)
        | inr l ↦ elim (cases_lt 0 (bit_at g.flags bit)) [
          | inl m ↦ absurd (let e = (a.flags.bits bit).1 ((b.flags.bits bit).0 (omega arith)) in omega arith)
          | inr m ↦ omega arith
        ]
      ])

  pub same_part : f ≡ g
  same_part =
      let v = found (λ (p : Packet). p.time ≡ f.first) P a.first.reached in
      let v' = found (λ (p : Packet). p.time ≡ g.first) P b.first.reached in
      let w = found (λ (p : Packet). p.time ≡ f.last) P a.last.reached in
      let w' = found (λ (p : Packet). p.time ≡ g.last) P b.last.reached in
      let one = All-contains (λ (p : Packet). f.first ≤ p.time) P v'.0 a.first.bound v'.1 in
      let two = All-contains (λ (p : Packet). g.first ≤ p.time) P v.0 b.first.bound v.1 in
      let three = All-contains (λ (p : Packet). p.time ≤ f.last) P w'.0 a.last.bound w'.1 in
      let four = All-contains (λ (p : Packet). p.time ≤ g.last) P w.0 b.last.bound w.1 in
      let at = v.2 in
      let at' = v'.2 in
      let end = w.2 in
      let end' = w'.2 in
      part_same f g (sym (All-contains (λ (p : Packet). p.key ≡ f.key) P v.0 a.one_key v.1)
      ∙ All-contains (λ (p : Packet). p.key ≡ g.key) P v.0 b.one_key v.1)
      (a.count ∙ sym b.count) (a.octets ∙ sym b.octets) (omega arith) (omega arith) same_flags

-- a record is known by its fragment and its reason
pub record_same : (a b : FlowRecord) → a.part ≡ b.part → a.reason ≡ b.reason → a ≡ b
record_same a b p r =
    λ i. record {
      part = p i;
      reason = r i;
      sized =
          is_prop→PathP (λ j. r j < 2 ^ 8) (λ j. hlevel props) a.sized b.sized i;
    }

module _ {X Y : Type 0} (f : X → Y) where
  contains_map : (xs : List X) (x : X) → Contains xs x → Contains (map f xs) (f x)
  contains_map [] x c = absurd (let below = c.1 in omega arith)
  contains_map (y ∷ xs) x c = elim (cons_cases y xs x c) [
    | inl e ↦ subst (λ z. Contains (f y ∷ map f xs) z) (ap f e) (contains_head (f y) (map f xs))
    | inr d ↦ contains_more (f y) (map f xs) (f x) (contains_map xs x d)
  ]

  map_contains : (xs : List X) (z : Y) → Contains (map f xs) z → (x : X) × Contains xs x × (f x ≡ z)
  map_contains [] z c = absurd (let below = c.1 in omega arith)
  map_contains (y ∷ xs) z c = elim (cons_cases (f y) (map f xs) z c) [
    | inl e ↦ (y, contains_head y xs, e)
    | inr d ↦ (let k = map_contains xs z d in (k.0, contains_more y xs k.0 k.1, k.2))
  ]

  rises_map : (R : Y → Y → Type 0) (xs : List X) → AllPairs (λ a b. R (f a) (f b)) xs → Rises R (map f xs)
  rises_map R [] h = tt
  rises_map R (x ∷ xs) h = (
    All-of_map f (R (f x)) xs (λ k d l. h 0 (suc k) d (omega arith) (omega arith)),
    rises_map R xs (λ i j d l m. h (suc i) (suc j) d (omega arith) (omega arith)),
  )

abbrev pub part_order : Fragment → Fragment → Ordering
part_order f g = ordering_then (nat_cmp f.last g.last) (key_order f.key g.key)

pub part_order_total : IsTotalOrder part_order
part_order_total = then_total (on_total (λ (f : Fragment). f.last) nat_cmp_total)
    (on_total (λ (f : Fragment). f.key) key_order_total)

less_asym : (f g : Fragment) → part_order f g ≡ Less → part_order g f ≡ Less → ⊥
less_asym f g a b = (let e : Less ≡ Greater = sym a ∙ part_order_total.antisymm f g ∙ ap ordering_reverse b in cc)

-- the first fragment of a key
first_of : FlowKey → List Fragment → Option Fragment
first_of key [] = None
first_of key (f ∷ F) = cond (is_eq (key_order f.key key)) (Some f) (first_of key F)

first_at : (key : FlowKey) (L : List FlowRecord) → first_part (of_key key L) ≡ first_of key (map part_of L)
unfolding first_of
first_at key [] = refl
first_at key (r ∷ L) = step (has_key key r) ∙ ap (λ o. cond (has_key key r) (Some r.part) o) (first_at key L)
  where
    step : (b : Bool) → first_part (cond b (r ∷ of_key key L) (of_key key L))
        ≡ cond b (Some r.part) (first_part (of_key key L))
    step true = refl
    step false = refl

-- records with the same fragments and right reasons are the same
pub same_records : (limits : Timeouts) (clock : ℕ) (L M : List FlowRecord) → map part_of L ≡ map part_of M
    → ((key : FlowKey) → EachWithNext (HasReason limits clock) (of_key key L))
    → ((key : FlowKey) → EachWithNext (HasReason limits clock) (of_key key M)) → L ≡ M
same_records limits clock [] [] e h k = refl
same_records limits clock [] (m ∷ M) e h k = absurd (let n = ap length e in omega arith)
same_records limits clock (r ∷ L) [] e h k = absurd (let n = ap length e in omega arith)
same_records limits clock (r ∷ L) (m ∷ M) e h k =
    let part : r.part ≡ m.part = ap (λ l. get_or l 0 r.part) e in
    let rest : map part_of L ≡ map part_of M = ap (drop 1) e in
    let R = HasReason limits clock in
    let key : FlowKey = r.part.key in
    let one = head_holds R r (of_key key L) (has_key key r) (ap is_eq (keys_tie r.part.key key refl)) (h key) in
    let two = head_holds R m (of_key key M) (has_key key m)
    (ap is_eq (keys_tie m.part.key key (ap (λ (f : Fragment). f.key) (sym part)))) (k key) in
    let next : first_part (of_key key L) ≡ first_part (of_key key M) =
    first_at key L ∙ ap (first_of key) rest ∙ sym (first_at key M) in
    let reason : r.reason ≡ m.reason = one ∙ ap (λ f. reason_of limits clock f (first_part (of_key key L))) part
    ∙ ap (reason_of limits clock m.part) next ∙ sym two in
    ap (λ z. z ∷ L) (record_same r m part reason) ∙ ap (λ l. m ∷ l) (same_records limits clock L M rest
    (λ a. tail_holds R r (of_key a L) (has_key a r) (h a)) (λ a. tail_holds R m (of_key a M) (has_key a m) (k a)))

clock_of : (p : Packet) (P : List Packet) → (c : ℕ) × IsGreatest (λ (x : Packet). x.time) (p ∷ P) c
clock_of p [] = (p.time, IsGreatest-one (λ (x : Packet). x.time) p)
clock_of p (q ∷ P) = let k = clock_of q P in (
  _,
  IsGreatest-append (λ (x : Packet). x.time) (p ∷ []) (q ∷ P) p.time k.0
      (IsGreatest-one (λ (x : Packet). x.time) p) k.1,
)

clock_is : (P : List Packet) (x : Packet) → Contains P x → (c : ℕ) × IsClock P (Some c)
clock_is [] x c = absurd (let below = c.1 in omega arith)
clock_is (p ∷ P) x c = clock_of p P

module _ (limits : Timeouts) (P : List Packet) (S : List (List Packet)) (h : IsSessions limits.idle P S) where
  into : (L M : List FlowRecord) → AreRecordsOf limits P S L → AreRecordsOf limits P S M → (f : Fragment)
      → Contains (map part_of L) f → Contains (map part_of M) f
  into L M a b f c =
      let r = map_contains part_of L f c in
      let s = found (λ s. IsHeap limits s r.0.part) S
      (All-contains (λ r. Any (λ s. IsHeap limits s r.part) S) L r.0 a.each r.1) in
      let m = found (λ m. IsHeap limits s.0 m.part) M
      (All-contains (λ s. Any (λ m. IsHeap limits s m.part) M) S s.0 b.all s.1) in
      subst (Contains (map part_of M)) (same_part limits s.0 m.0.part r.0.part m.2 s.2 ∙ r.2)
      (contains_map part_of M m.0 m.1)

  same_parts : (L M : List FlowRecord) → AreRecordsOf limits P S L → AreRecordsOf limits P S M
      → map part_of L ≡ map part_of M
  same_parts L M a b = same_rising (λ f g. part_order f g ≡ Less) less_asym (map part_of L) (map part_of M)
      (rises_map part_of (λ f g. part_order f g ≡ Less) L a.ordered)
      (rises_map part_of (λ f g. part_order f g ≡ Less) M b.ordered) (into L M a b) (into M L b a)

  pub one : (L M : List FlowRecord) → AreRecordsOf limits P S L → AreRecordsOf limits P S M → L ≡ M
  one [] [] a b = refl
  one [] (m ∷ M) a b = absurd (let n = ap length (same_parts [] (m ∷ M) a b) in omega arith)
  one (r ∷ L) M a b =
      let s = found (λ s. IsHeap limits s r.part) S
      (All-contains (λ r. Any (λ s. IsHeap limits s r.part) S) (r ∷ L) r a.each (contains_head r L)) in
      let v = found (λ (p : Packet). p.time ≡ r.part.first) s.0 s.2.first.reached in
      let c = clock_is P v.0 (in_packets limits.idle P S h s.0 v.0 s.1 v.1) in
      same_records limits c.0 (r ∷ L) M (same_parts (r ∷ L) M a b) (a.reasons c.0 c.1) (b.reasons c.0 c.1)

pub records_are_one : RecordsAreOne
records_are_one limits P S h L M a b = one limits P S h L M a b
