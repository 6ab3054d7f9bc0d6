-- Fragments that regroup others, which regroup others again. Nothing here is about inputs, so it would fit beside
-- `IsGrouped` in `record_ledger` as well.
use Rattle.std.proofs.Common.{◌≡◌, ◌≤◌, ℕ, Bool, List, [], ◌∷◌, ◌++◌, length, sum_by, filter, map, refl, sym, ap, ◌∙◌}
use Rattle.std.proofs.Common.{subst, arith, inl, inr, All, Any, IsPermutation}
use Rattle.std.specs.List.{AllZip}
use Rattle.std.specs.Int.{bit_at}
use Rattle.std.proofs.lemmas.List.Concat.{flat_map-append}
use Rattle.std.proofs.lemmas.List.Elements.{All-append, All-nil, All-head, All-tail, All-weaker}
use Rattle.std.proofs.lemmas.List.Sums.{sum_by-append, sum_by-cons}
use Rattle.std.proofs.lemmas.List.Sorted.{IsPermutation-trans, IsPermutation-append}
use Rattle.packet_accept.proofs.Permuted.{flat_map-permutation}
use Rattle.flow_key.specs.declared.key.FlowKey.{FlowKey}
use Rattle.flow_parts.specs.declared.fragment.Fragment.{Fragment}
use Rattle.flow_parts.proofs.Members.{Any-append_left, Any-append_right, Any-append_cases, Any-one, one-Any, Any-weaker}
use Rattle.flow_parts.proofs.Permuted.{AllZip-append, AllZip-permutation}
use Rattle.record_ledger.specs.declared.record.FlowRecord.{FlowRecord}
use Rattle.record_ledger.specs.Regrouping.{IsTogether, Regroups}
use Rattle.record_ledger.proofs.Keyed.{part_of}
use Rattle.record_ledger.proofs.Reaching.{IsGrouped, grouped_start}
use Rattle.record_ledger.proofs.Filtered.{IsPermutation-filter}
use Rattle.join_program.proofs.Keyed.{flat, left_of}

abbrev packets_in : Fragment → ℕ
packets_in f = f.packets

abbrev octets_in : Fragment → ℕ
octets_in f = f.octets

-- what holds of lists taken together and of the fragments that they are
module _ (P : Fragment → Type 0) where
  pub all_in : ((x : List Fragment) (y : Fragment) → IsTogether x y → P y → All P x) → (xs : List (List Fragment))
      (ys : List Fragment) → AllZip IsTogether xs ys → All P ys → All P (flat xs)
  all_in step [] [] z h = All-nil P
  all_in step [] (y ∷ ys) z h = absurd z
  all_in step (x ∷ xs) [] z h = absurd z
  all_in step (x ∷ xs) (y ∷ ys) z h = All-append P x (flat xs) (step x y z.0 (All-head P y ys h))
      (all_in step xs ys z.1 (All-tail P y ys h))

  pub any_in : ((x : List Fragment) (y : Fragment) → IsTogether x y → P y → Any P x) → (xs : List (List Fragment))
      (ys : List Fragment) → AllZip IsTogether xs ys → Any P ys → Any P (flat xs)
  any_in step [] [] z a = a
  any_in step [] (y ∷ ys) z a = absurd z
  any_in step (x ∷ xs) [] z a = absurd z
  any_in step (x ∷ xs) (y ∷ ys) z a = elim (Any-append_cases P (y ∷ []) ys a) [
    | inl here ↦ Any-append_left P x (flat xs) (step x y z.0 (one-Any P y here))
    | inr there ↦ Any-append_right P x (flat xs) (any_in step xs ys z.1 there)
  ]

  any_from : ((x : List Fragment) (y : Fragment) → IsTogether x y → Any P x → P y) → (xs : List (List Fragment))
      (ys : List Fragment) → AllZip IsTogether xs ys → Any P (flat xs) → Any P ys
  any_from step [] [] z a = a
  any_from step [] (y ∷ ys) z a = absurd z
  any_from step (x ∷ xs) [] z a = absurd z
  any_from step (x ∷ xs) (y ∷ ys) z a = elim (Any-append_cases P x (flat xs) a) [
    | inl here ↦ Any-append_left P (y ∷ []) ys (Any-one P y (step x y z.0 here))
    | inr there ↦ Any-append_right P (y ∷ []) ys (any_from step xs ys z.1 there)
  ]

-- the sums are those of all lists
sums : (xs : List (List Fragment)) (ys : List Fragment) → AllZip IsTogether xs ys
    → (sum_by packets_in (flat xs) ≡ sum_by packets_in ys) × (sum_by octets_in (flat xs) ≡ sum_by octets_in ys)
sums [] [] z = (refl, refl)
sums [] (y ∷ ys) z = absurd z
sums (x ∷ xs) [] z = absurd z
sums (x ∷ xs) (y ∷ ys) z =
    let rest = sums xs ys z.1 in
    let some = rest.0 in
    let more = rest.1 in
    let packets = z.0.packets in
    let octets = z.0.octets in (
      omega (arith, sum_by-append packets_in x (flat xs), sum_by-cons packets_in y ys),
      omega (arith, sum_by-append octets_in x (flat xs), sum_by-cons octets_in y ys),
    )

-- what is taken together of fragments, each of which is a list taken together, is that of all these lists
module _ (xs : List (List Fragment)) (ys : List Fragment) (w : Fragment) (z : AllZip IsTogether xs ys)
    (h : IsTogether ys w) where
  abbrev Begins : Fragment → Type 0
  Begins f = f.first ≡ w.first

  abbrev Stops : Fragment → Type 0
  Stops f = f.last ≡ w.last

  begun : Any Begins (flat xs)
  begun = any_in Begins (λ x y t e. Any-weaker (λ (f : Fragment). f.first ≡ y.first) Begins (λ f e'. e' ∙ e) x
      t.first.reached) xs ys z h.first.reached

  pub taken_together : IsTogether (flat xs) w
  taken_together = record {
    some = λ none. absurd (let below = begun.2 in let empty = ap length none in omega arith);
    one_key = all_in (λ (f : Fragment). f.key ≡ w.key)
        (λ x y t e. All-weaker (λ (f : Fragment). f.key ≡ y.key) (λ (f : Fragment). f.key ≡ w.key) (λ f e'. e' ∙ e) x
        t.one_key) xs ys z h.one_key;
    packets = h.packets ∙ sym (sums xs ys z).0;
    octets = h.octets ∙ sym (sums xs ys z).1;
    flags = record {
      bits = λ bit.
          let Q : Fragment → Type 0 = λ f. bit_at f.flags bit ≡ 1 in (
            λ e. any_in Q (λ x y t one. (t.flags.bits bit).0 one) xs ys z ((h.flags.bits bit).0 e),
            λ a. (h.flags.bits bit).1 (any_from Q (λ x y t some. (t.flags.bits bit).1 some) xs ys z a),
          );
    };
    first = record {
      bound = all_in (λ (f : Fragment). w.first ≤ f.first)
          (λ x y t low. All-weaker (λ (f : Fragment). y.first ≤ f.first) (λ (f : Fragment). w.first ≤ f.first)
          (λ f low'. omega arith) x t.first.bound) xs ys z h.first.bound;
      reached = begun;
    };
    last = record {
      bound = all_in (λ (f : Fragment). f.last ≤ w.last)
          (λ x y t high. All-weaker (λ (f : Fragment). f.last ≤ y.last) (λ (f : Fragment). f.last ≤ w.last)
          (λ f high'. omega arith) x t.last.bound) xs ys z h.last.bound;
      reached = any_in Stops (λ x y t e. Any-weaker (λ (f : Fragment). f.last ≡ y.last) Stops (λ f e'. e' ∙ e) x
          t.last.reached) xs ys z h.last.reached;
    };
  }

-- lists that go together with two lists of fragments, the one behind the other
pub record Parted {X Y : Type 0} (R : X → Y → Type 0) (us : List X) (vs ws : List Y) : Type 0 where
  pub front : List X
  pub back : List X
  pub whole : us ≡ front ++ back
  pub before : AllZip R front vs
  pub behind : AllZip R back ws

pub parted : {X Y : Type 0} (R : X → Y → Type 0) (us : List X) (vs ws : List Y) → AllZip R us (vs ++ ws)
    → Parted R us vs ws
parted R us [] ws z = record { front = []; back = us; whole = refl; before = tt; behind = z }
parted R [] (v ∷ vs) ws z = absurd z
parted R (u ∷ us) (v ∷ vs) ws z =
    let rest = parted R us vs ws z.1 in
    record {
      front = u ∷ rest.front;
      back = rest.back;
      whole = ap (λ l. u ∷ l) rest.whole;
      before = (z.0, rest.before);
      behind = rest.behind;
    }

-- groups of groups as groups
record Merged (us : List (List Fragment)) (hs : List Fragment) : Type 0 where
  pub groups : List (List Fragment)
  pub same : flat us ≡ flat groups
  pub each : AllZip IsTogether groups hs

merged : (us gs : List (List Fragment)) (hs : List Fragment) → AllZip IsTogether us (flat gs)
    → AllZip IsTogether gs hs → Merged us hs
merged [] [] [] z t = record { groups = []; same = refl; each = tt }
merged (u ∷ us) [] [] z t = absurd z
merged us [] (h ∷ hs) z t = absurd t
merged us (g ∷ gs) [] z t = absurd t
merged us (g ∷ gs) (h ∷ hs) z t =
    let two = parted IsTogether us g (flat gs) z in
    let rest = merged two.back gs hs two.behind t.1 in
    record {
      groups = flat two.front ∷ rest.groups;
      same = ap flat two.whole ∙ flat_map-append (λ (group : List Fragment). group) two.front two.back
          ∙ ap (λ l. flat two.front ++ l) rest.same;
      each = (taken_together two.front g h two.before t.0, rest.each);
    }

-- regrouping goes on
pub grouped_onward : (F G H : List Fragment) → IsGrouped F G → IsGrouped G H → IsGrouped F H
grouped_onward F G H a b =
    let z = AllZip-permutation IsTogether a.groups G (flat b.groups) a.each b.whole in
    let all = merged z.0 b.groups H z.2 b.each in
    record {
      groups = all.groups;
      whole = subst (λ l. IsPermutation F l) all.same (IsPermutation-trans F (flat a.groups) (flat z.0) a.whole
          (flat_map-permutation (λ (group : List Fragment). group) a.groups z.0 z.1));
      each = all.each;
    }

-- permuted fragments regroup one another
pub grouped_moved : (F G : List Fragment) → IsPermutation F G → IsGrouped F G
grouped_moved F G s =
    let own = grouped_start G in
    record {
      groups = own.groups;
      whole = IsPermutation-trans F G (flat own.groups) s own.whole;
      each = own.each;
    }

-- it stands when lists are put together
pub grouped_beside : (F G F' G' : List Fragment) → IsGrouped F G → IsGrouped F' G' → IsGrouped (F ++ F') (G ++ G')
grouped_beside F G F' G' a b = record {
  groups = a.groups ++ b.groups;
  whole = subst (λ l. IsPermutation (F ++ F') l)
      (sym (flat_map-append (λ (group : List Fragment). group) a.groups b.groups))
      (IsPermutation-append F (flat a.groups) F' (flat b.groups) a.whole b.whole);
  each = AllZip-append IsTogether a.groups G b.groups G' a.each b.each;
}

-- and for the fragments of some keys
pub grouped_kept : (q : FlowKey → Bool) (F G : List Fragment) → IsGrouped F G
    → IsGrouped (filter (λ (f : Fragment). q f.key) F) (filter (λ (f : Fragment). q f.key) G)
grouped_kept q F G a =
    let left = left_of (λ (f : Fragment). f.key) IsTogether (λ group f h. h.one_key) q a.groups G a.each in
    record {
      groups = left.lists_left;
      whole = subst (λ l. IsPermutation (filter (λ (f : Fragment). q f.key) F) l) left.whole
          (IsPermutation-filter (λ (f : Fragment). q f.key) F (flat a.groups) a.whole);
      each = left.each;
    }

-- the fragments of records regroup what the records do
to_parts : (groups : List (List Fragment)) (records : List FlowRecord)
    → AllZip (λ group (r : FlowRecord). IsTogether group r.part) groups records
    → AllZip IsTogether groups (map part_of records)
to_parts [] [] z = tt
to_parts [] (r ∷ records) z = absurd z
to_parts (x ∷ groups) [] z = absurd z
to_parts (x ∷ groups) (r ∷ records) z = (z.0, to_parts groups records z.1)

to_records : (groups : List (List Fragment)) (records : List FlowRecord)
    → AllZip IsTogether groups (map part_of records)
    → AllZip (λ group (r : FlowRecord). IsTogether group r.part) groups records
to_records [] [] z = tt
to_records [] (r ∷ records) z = absurd z
to_records (x ∷ groups) [] z = absurd z
to_records (x ∷ groups) (r ∷ records) z = (z.0, to_records groups records z.1)

pub grouped_of : (parts : List Fragment) (records : List FlowRecord) → Regroups parts records
    → IsGrouped parts (map part_of records)
grouped_of parts records h =
    record { groups = h.groups; whole = h.whole; each = to_parts h.groups records h.each }

pub regroups_of : (parts : List Fragment) (records : List FlowRecord) → IsGrouped parts (map part_of records)
    → Regroups parts records
regroups_of parts records h =
    record { groups = h.groups; whole = h.whole; each = to_records h.groups records h.each }
