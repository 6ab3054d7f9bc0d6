-- Packets in order, cut at long gaps, are in sessions; so each list of packets has sessions.
use Rattle.std.proofs.Common.{◌≡◌, ◌≢◌, ℕ, ◌+◌, ◌-◌, ◌<◌, ◌≤◌, min, max, true, false, cond, ◌&&◌, nat_le, inl, inr}
use Rattle.std.proofs.Common.{List, [], ◌∷◌, ◌++◌, length, refl, sym, ap, ◌∙◌, subst, arith, All, Contains}
use Rattle.std.proofs.Common.{IsPermutation}
use Rattle.std.specs.Cmp.{IsStrictWeakOrder}
use Rattle.std.specs.Ordering.{is_eq, is_lt, nat_cmp, ordering_then}
use Rattle.std.specs.declared.cmp.Ordering.{Ordering}
use Rattle.std.specs.declared.cmp.Ordering.TheVariants.{Less, Equal, Greater}
use Rattle.std.proofs.lemmas.Bool.{cases_lt, cases_Bool, both_ways, and_parts, and_from, leb-true, le-leb}
use Rattle.std.proofs.lemmas.Cmp.{nat_cmp_total, on_total, then_total}
use Rattle.std.proofs.lemmas.List.Elements.{All-append, All-contains, All-contains_itself, All-cons, All-head, All-nil}
use Rattle.std.proofs.lemmas.List.Elements.{All-tail, All-weaker}
use Rattle.std.proofs.lemmas.List.Sorted.{All-permutation, IsPermutation-refl, IsPermutation-trans, IsPermutation-cons}
use Rattle.std.proofs.lemmas.List.Sorted.{IsPermutation-append_left, IsPermutation-to_front, ranks_by}
use Rattle.flow_key.specs.declared.key.FlowKey.{FlowKey}
use Rattle.flow_key.specs.Key.{key_order}
use Rattle.flow_key.proofs.KeyOrder.{key_order_total, tied_keys}
use Rattle.packet_accept.specs.Extremes.{IsLeast, IsGreatest}
use Rattle.packet_accept.specs.declared.packet.Packet.{Packet}
use Rattle.flow_parts.specs.Heap.{IsLinked}
use Rattle.flow_parts.proofs.Members.{All-one, IsLeast-append, IsLeast-one, IsGreatest-append, IsGreatest-one}
use Rattle.flow_parts.proofs.Walks.{IsLinked-append, IsLinked-one}
use Rattle.record_ledger.specs.Laws.{CutsAreSessions, HaveSessions}
use Rattle.record_ledger.specs.Sessions.{IsApart, IsSessions, key_then_time, put_before, cut}
use Rattle.record_ledger.specs.Steps.{Rises}
use Rattle.record_ledger.proofs.Keyed.{first_not_less, less_from_greater, tie_from_test, contains_head}
use Rattle.record_ledger.proofs.Keyed.{pairs_from_rises}
use Rattle.record_ledger.proofs.Meeting.{flat, Near}
use Rattle.record_ledger.proofs.Rising.{All-front, All-back, keys_tie, not_less, rises_from_sorted}

abbrev time_of : Packet → ℕ
time_of p = p.time

-- a list with a packet has a least and a greatest time
bounds : (p : Packet) (P : List Packet) → (a b : ℕ) × IsLeast time_of (p ∷ P) a × IsGreatest time_of (p ∷ P) b
bounds p [] = (p.time, p.time, IsLeast-one time_of p, IsGreatest-one time_of p)
bounds p (q ∷ P) =
    let k = bounds q P in (
      min p.time k.0,
      max p.time k.1,
      IsLeast-append time_of (p ∷ []) (q ∷ P) p.time k.0
          (IsLeast-one time_of p) k.2,
      IsGreatest-append time_of (p ∷ []) (q ∷ P) p.time k.1 (IsGreatest-one time_of p) k.3,
    )

-- the first of two packets doesn't come after the other
abbrev InOrder : Packet → Packet → Type 0
InOrder p q = is_lt (key_then_time q p) ≡ false

packets_weak : IsStrictWeakOrder (λ (x y : Packet). is_lt (key_then_time x y))
packets_weak = ranks_by (then_total (on_total (λ (p : Packet). p.key) key_order_total) (on_total time_of nat_cmp_total))
    (λ (p : Packet). p)

in_time : (p q : Packet) → InOrder p q → p.key ≡ q.key → p.time ≤ q.time
in_time p q o e = not_less q.time p.time
    (sym (ap (λ c. is_lt (ordering_then c (nat_cmp q.time p.time))) (keys_tie q.key p.key (sym e))) ∙ o)

module _ (idle : ℕ) where
  -- one list that can be a session
  record One (s : List Packet) : Type 0 where
    some : s ≢ []
    key : FlowKey
    keys : All (λ p. p.key ≡ key) s
    linked : IsLinked idle s

  abbrev Far : Packet → Packet → Type 0
  Far p q = p.key ≡ q.key → idle < max (p.time - q.time) (q.time - p.time)

  joined : (s t : List Packet) → One s → One t → (p q : Packet) → Contains s p → Contains t q → Near idle p q
      → One (s ++ t)
  joined [] t a b p q c d n = absurd (a.some refl)
  joined (x ∷ s) [] a b p q c d n = absurd (b.some refl)
  joined (x ∷ s) (y ∷ t) a b p q c d n =
      let k = bounds x s in
      let l = bounds y t in
      let low = All-contains (λ (z : Packet). k.0 ≤ z.time) (x ∷ s) p k.2.bound c in
      let high = All-contains (λ (z : Packet). z.time ≤ k.1) (x ∷ s) p k.3.bound c in
      let low' = All-contains (λ (z : Packet). l.0 ≤ z.time) (y ∷ t) q l.2.bound d in
      let high' = All-contains (λ (z : Packet). z.time ≤ l.1) (y ∷ t) q l.3.bound d in
      let one = n.1 in
      let two = n.2 in
      let same : b.key ≡ a.key = sym (All-contains (λ (z : Packet). z.key ≡ b.key) (y ∷ t) q b.keys d) ∙ sym n.0
      ∙ All-contains (λ (z : Packet). z.key ≡ a.key) (x ∷ s) p a.keys c in
      record {
        some = λ e. (let none = ap length e in omega arith);
        key = a.key;
        keys = All-append (λ z. z.key ≡ a.key) (x ∷ s) (y ∷ t) a.keys
            (All-weaker (λ z. z.key ≡ b.key) (λ z. z.key ≡ a.key) (λ z e. e ∙ same) (y ∷ t) b.keys);
        linked = IsLinked-append idle (x ∷ s) (y ∷ t) k.0 k.1 l.0 l.1 a.linked b.linked k.2 k.3 l.2 l.3 (omega arith)
            (omega arith);
      }

  -- the lists are the list's packets in order, each can be a session, and they are apart
  record IsCut (l : List Packet) (S : List (List Packet)) : Type 0 where
    whole : flat S ≡ l
    ones : All One S
    apart : Rises (IsApart idle) S

  -- a packet that is far from all that stand in lists is apart from each of them
  apart_from : (p : Packet) (S : List (List Packet)) → All (Far p) (flat S) → All (IsApart idle (p ∷ [])) S
  apart_from p [] h = All-nil (IsApart idle (p ∷ []))
  apart_from p (s ∷ S) h = All-cons (IsApart idle (p ∷ [])) s S
      (All-one (λ z. All (Far z) s) p (All-front (Far p) s (flat S) h)) (apart_from p S (All-back (Far p) s (flat S) h))

  -- a packet before those of one session
  into_first : (p : Packet) (s : List Packet) (S : List (List Packet)) → All (IsApart idle (p ∷ [])) S
      → All (IsApart idle s) S → All (IsApart idle (p ∷ s)) S
  into_first p s [] h k = All-nil (IsApart idle (p ∷ s))
  into_first p s (t ∷ S) h k = All-cons (IsApart idle (p ∷ s)) t S
      (All-cons (λ z. All (Far z) t) p s (All-head (λ z. All (Far z) t) p [] (All-head (IsApart idle (p ∷ [])) t S h))
      (All-head (IsApart idle s) t S k))
      (into_first p s S (All-tail (IsApart idle (p ∷ [])) t S h) (All-tail (IsApart idle s) t S k))

  alone : (p : Packet) → One (p ∷ [])
  alone p =
      record {
        some = λ e. (let none = ap length e in omega arith);
        key = p.key;
        keys =
            All-one (λ z. z.key ≡ p.key) p refl;
        linked = IsLinked-one idle p;
      }

  -- of three packets in order the middle one has the key of the others, where these have one key
  middle : (p q z : Packet) → InOrder p q → InOrder q z → p.key ≡ z.key → p.key ≡ q.key
  middle p q z a b e = tied_keys p.key q.key (no_less (key_order p.key q.key) refl
      (first_not_less (key_order q.key p.key) (nat_cmp q.time p.time) a)
      (subst (λ k. is_lt (key_order k q.key) ≡ false) (sym e)
      (first_not_less (key_order z.key q.key) (nat_cmp z.time q.time) b)))
    where
      no_less : (o : Ordering) → key_order p.key q.key ≡ o → is_lt (key_order q.key p.key) ≡ false → is_lt o ≡ false
          → o ≡ Equal
      no_less Less e h k = absurd (let e' : true ≡ false = k in cc)
      no_less Equal e h k = refl
      no_less Greater e h k =
          absurd (let e' : true ≡ false = sym (ap is_lt (less_from_greater key_order_total q.key p.key e)) ∙ h in cc)

  -- one packet more before a list that is cut
  put : (p : Packet) (l : List Packet) (S : List (List Packet)) → All (InOrder p) l → Rises InOrder l → IsCut l S
      → IsCut (p ∷ l) (put_before idle p S)
  put p l [] up rises k =
      record {
        whole = ap (λ m. p ∷ m) k.whole;
        ones = All-one One (p ∷ []) (alone p);
        apart =
            (All-nil (IsApart idle (p ∷ [])), tt);
      }
  put p l ([] ∷ S) up rises k = absurd ((All-head One [] S k.ones).some refl)
  put p l ((q ∷ s) ∷ S) up rises k =
      let rest : List Packet = s ++ flat S in
      let up' : All (InOrder p) (q ∷ rest) = subst (All (InOrder p)) (sym k.whole) up in
      let rises' : Rises InOrder (q ∷ rest) = subst (Rises InOrder) (sym k.whole) rises in
      let first : InOrder p q = All-head (InOrder p) q rest up' in
      let one : One (q ∷ s) = All-head One (q ∷ s) S k.ones in
      let ones : All One S = All-tail One (q ∷ s) S k.ones in
      elim (cases_Bool (is_eq (key_order p.key q.key) && nat_le q.time (p.time + idle))) [
        | inl on ↦ (
            let test = and_parts (is_eq (key_order p.key q.key)) (nat_le q.time (p.time + idle)) on in
            let key = tied_keys p.key q.key (tie_from_test (key_order p.key q.key) test.0) in
            let near = leb-true q.time (p.time + idle) test.1 in
            let order = in_time p q first key in
            let far : All (IsApart idle (p ∷ [])) S =
            onward p q S key order k.apart.0 (All-back (InOrder q) s (flat S) rises'.0) in
            subst (IsCut (p ∷ l)) (ap (λ b. cond b ((p ∷ q ∷ s) ∷ S) ((p ∷ []) ∷ (q ∷ s) ∷ S)) (sym on)) (record {
              whole = ap (λ m. p ∷ m) k.whole;
              ones = All-cons One (p ∷ q ∷ s) S
                  (joined (p ∷ []) (q ∷ s) (alone p) one p q (contains_head p []) (contains_head q s)
                  (key, omega arith, omega arith)) ones;
              apart = (into_first p (q ∷ s) S far k.apart.0, k.apart.1);
            }))
        | inr off ↦ (
            let far : All (Far p) (q ∷ rest) = All-cons (Far p) q rest
            (λ key. later p q off key)
            (All-weaker (InOrder q) (Far p) (λ z o key. let key' = middle p q z first o key in
            let far' = later p q off key' in let order = in_time q z o (sym key' ∙ key) in
            let order' = in_time p q first key' in omega arith) rest rises'.0) in
            subst (IsCut (p ∷ l)) (ap (λ b. cond b ((p ∷ q ∷ s) ∷ S) ((p ∷ []) ∷ (q ∷ s) ∷ S)) (sym off)) (record {
              whole = ap (λ m. p ∷ m) k.whole;
              ones = All-cons One (p ∷ []) ((q ∷ s) ∷ S) (alone p) k.ones;
              apart = (apart_from p ((q ∷ s) ∷ S) far, k.apart);
            }))
      ]
    where
      -- the next packet isn't taken in, though it has the key
      later : (p q : Packet) → (is_eq (key_order p.key q.key) && nat_le q.time (p.time + idle)) ≡ false → p.key ≡ q.key
          → idle < max (p.time - q.time) (q.time - p.time)
      later p q off key = elim (cases_lt (p.time + idle) q.time) [
        | inl l ↦ omega arith
        | inr l ↦ absurd (both_ways (is_eq (key_order p.key q.key) && nat_le q.time (p.time + idle)) off
            (and_from (is_eq (key_order p.key q.key)) (nat_le q.time (p.time + idle))
            (ap is_eq (keys_tie p.key q.key key)) (le-leb q.time (p.time + idle) l)))
      ]

      -- an earlier packet of the session's key is apart from what the session's first is apart from
      onward : (p q : Packet) (T : List (List Packet)) → p.key ≡ q.key → p.time ≤ q.time → All (IsApart idle (q ∷ s)) T
          → All (InOrder q) (flat T) → All (IsApart idle (p ∷ [])) T
      onward p q [] key order h up = All-nil (IsApart idle (p ∷ []))
      onward p q (t ∷ T) key order h up = All-cons (IsApart idle (p ∷ [])) t T
          (All-one (λ z. All (Far z) t) p (All-weaker (Contains t) (Far p) (λ z c e.
          let far = All-contains (Far q) t z (All-head (λ y. All (Far y) t) q s (All-head (IsApart idle (q ∷ s)) t T h))
          c (sym key ∙ e) in
          let after = in_time q z (All-contains (InOrder q) t z (All-front (InOrder q) t (flat T) up) c)
          (sym key ∙ e) in omega arith) t (All-contains_itself t)))
          (onward p q T key order (All-tail (IsApart idle (q ∷ s)) t T h) (All-back (InOrder q) t (flat T) up))

  cut_is : (l : List Packet) → Rises InOrder l → IsCut l (cut idle l)
  cut_is [] rises = record { whole = refl; ones = All-nil One; apart = tt }
  cut_is (p ∷ l) rises = put p l (cut idle l) rises.0 rises.1 (cut_is l rises.1)

  sessions_of : (P l : List Packet) → IsPermutation P l → Rises InOrder l → IsSessions idle P (cut idle l)
  sessions_of P l perm rises =
      let k = cut_is l rises in
      record {
        whole = subst (IsPermutation P) (sym k.whole) perm;
        some = All-weaker One (λ s. s ≢ []) (λ s o. o.some) (cut idle l) k.ones;
        one_key = All-weaker One (λ s. All (λ (p : Packet). All (λ (q : Packet). p.key ≡ q.key) s) s)
            (λ s o. All-weaker (λ (p : Packet). p.key ≡ o.key) (λ (p : Packet). All (λ (q : Packet). p.key ≡ q.key) s)
            (λ p e. All-weaker (λ (q : Packet). q.key ≡ o.key) (λ (q : Packet). p.key ≡ q.key)
            (λ q e'. e ∙ sym e') s o.keys) s o.keys) (cut idle l) k.ones;
        linked = All-weaker One (IsLinked idle) (λ s o. o.linked) (cut idle l) k.ones;
        apart = pairs_from_rises (IsApart idle) (cut idle l) k.apart;
      }

-- one packet more in order
inserted : (p : Packet) (l : List Packet) → Rises InOrder l
    → (m : List Packet) × IsPermutation (p ∷ l) m × Rises InOrder m
inserted p [] rises = (p ∷ [], IsPermutation-refl (p ∷ []), (All-nil (InOrder p), tt))
inserted p (q ∷ l) rises = elim (cases_Bool (is_lt (key_then_time q p))) [
  | inr off ↦ (
    p ∷ q ∷ l,
    IsPermutation-refl (p ∷ q ∷ l),
    (
      All-cons (InOrder p) q l off
          (All-weaker (InOrder q) (InOrder p) (λ z o. packets_weak.chain z q p o off) l rises.0),
      rises,
    ),
  )
  | inl on ↦ (let k = inserted p l rises.1 in (
    q ∷ k.0,
    IsPermutation-trans (p ∷ q ∷ l) (q ∷ p ∷ l) (q ∷ k.0)
        (IsPermutation-append_left l (p ∷ q ∷ []) (q ∷ p ∷ []) (IsPermutation-to_front (p ∷ []) q))
        (IsPermutation-cons q (p ∷ l) k.0 k.1),
    (All-permutation (InOrder q) (p ∷ l) k.0 k.1 (All-cons (InOrder q) p l (packets_weak.one_way q p on) rises.0), k.2),
  ))
]

sorted : (P : List Packet) → (l : List Packet) × IsPermutation P l × Rises InOrder l
sorted [] = ([], IsPermutation-refl [], tt)
sorted (p ∷ P) =
    let k = sorted P in
    let m = inserted p k.0 k.2 in
    (m.0, IsPermutation-trans (p ∷ P) (p ∷ k.0) m.0 (IsPermutation-cons p P k.0 k.1) m.1, m.2)

pub cuts_are_sessions : CutsAreSessions
cuts_are_sessions idle P l perm up = sessions_of idle P l perm
    (rises_from_sorted (λ (a b : Packet). is_lt (key_then_time a b)) packets_weak l up)

pub have_sessions : HaveSessions
have_sessions idle P = let k = sorted P in (cut idle k.0, sessions_of idle P k.0 k.1 k.2)
