-- Lists of packets that are near one another lie in one session.
use Rattle.std.proofs.Common.{◌≡◌, ℕ, zero, suc, ◌+◌, ◌-◌, ◌<◌, ◌≤◌, max, ◌⊎◌, inl, inr, List, [], ◌∷◌, get_or, sym, ap}
use Rattle.std.proofs.Common.{◌∙◌, subst, arith, All, Any, AllPairs, Contains, flat_map}
use Rattle.std.proofs.lemmas.Bool.{cases_lt, cases_order}
use Rattle.std.proofs.lemmas.List.{get_or_default}
use Rattle.std.proofs.lemmas.List.Elements.{All-contains, Contains-append_left, Contains-append_right}
use Rattle.std.proofs.lemmas.List.Elements.{Contains-append_cases}
use Rattle.std.proofs.lemmas.List.Sorted.{Contains-permutation, IsPermutation-sym}
use Rattle.packet_accept.specs.declared.packet.Packet.{Packet}
use Rattle.flow_parts.specs.Heap.{IsLinked}
use Rattle.flow_parts.proofs.Members.{found, among}
use Rattle.flow_parts.proofs.Walks.{no_gap}
use Rattle.record_ledger.proofs.Keyed.{cons_cases, contains_head, contains_more}
use Rattle.record_ledger.specs.Sessions.{IsApart, IsSessions}

abbrev pub flat : List (List Packet) → List Packet
flat lists = flat_map (λ (l : List Packet). l) lists

pub contains_flat : (S : List (List Packet)) (s : List Packet) (p : Packet) → Contains S s → Contains s p
    → Contains (flat S) p
contains_flat [] s p c h = absurd (let below = c.1 in omega arith)
contains_flat (t ∷ S) s p c h = elim (cons_cases t S s c) [
  | inl e ↦ Contains-append_left t (flat S) p (subst (λ l. Contains l p) (sym e) h)
  | inr c' ↦ Contains-append_right t (flat S) p (contains_flat S s p c' h)
]

pub flat_contains : (S : List (List Packet)) (p : Packet) → Contains (flat S) p
    → (s : List Packet) × Contains S s × Contains s p
flat_contains [] p c = absurd (let below = c.1 in omega arith)
flat_contains (t ∷ S) p c = elim (Contains-append_cases t (flat S) p c) [
  | inl h ↦ (t, contains_head t S, h)
  | inr h ↦ (let r = flat_contains S p h in (r.0, contains_more t S r.0 r.1, r.2))
]

-- one element of a list stands before the other, or they are one
pub pair_cases : {X : Type 0} (R : X → X → Type 0) (xs : List X) → AllPairs R xs → (x y : X) → Contains xs x
    → Contains xs y → (x ≡ y) ⊎ (R x y ⊎ R y x)
pair_cases R xs h x y c d =
    let at : get_or xs c.0 x ≡ x = c.2 in
    let at' : get_or xs d.0 x ≡ y = get_or_default xs d.0 x y d.1 ∙ d.2 in
    elim (cases_order c.0 d.0) [
      | inl e ↦ inl (sym at ∙ ap (λ n. get_or xs n x) e ∙ at')
      | inr (inl less) ↦ inr
          (inl (subst (λ z. R z y) at (subst (λ z. R (get_or xs c.0 x) z) at' (h c.0 d.0 x less d.1))))
      | inr (inr more) ↦ inr
          (inr (subst (λ z. R z x) at' (subst (λ z. R (get_or xs d.0 x) z) at (h d.0 c.0 x more c.1))))
    ]

module _ (idle : ℕ) where
  -- the packets are of one key and at most idle apart
  abbrev pub Near : Packet → Packet → Type 0
  Near p q = (p.key ≡ q.key) × (p.time ≤ q.time + idle) × (q.time ≤ p.time + idle)

  not_apart : (s t : List Packet) (p q : Packet) → IsApart idle s t → Contains s p → Contains t q → Near p q → ⊥
  not_apart s t p q h c d n =
      let far : idle < max (p.time - q.time) (q.time - p.time)
      = All-contains (λ z. p.key ≡ z.key → idle < max (p.time - z.time) (z.time - p.time)) t q
      (All-contains (λ y. All (λ z. y.key ≡ z.key → idle < max (y.time - z.time) (z.time - y.time)) t) s p h c) d n.0 in
      let a = n.1 in
      let b = n.2 in
      omega arith

  -- in a linked list with packets before and after t there is one at t or at most idle later
  pub between : (P : List Packet) → IsLinked idle P → (t : ℕ) (v w : Packet) → Contains P v → v.time ≤ t → Contains P w
      → t ≤ w.time
      → (y : Packet) × Contains P y × (t ≤ y.time) × (y.time ≤ t + idle)
  between P linked t v w c low d high = elim (cases_lt t w.time) [
    | inl l ↦
        (let r = found (λ (y : Packet). (t < y.time) × (y.time ≤ t + idle)) P
        (no_gap idle P linked t t v c low (omega arith) (among (λ (y : Packet). t < y.time) P w d l)) in
        let early = r.2.0 in (r.0, r.1, omega arith, r.2.1))
    | inr l ↦ (w, d, high, omega arith)
  ]

  module _ (P : List Packet) (S : List (List Packet)) (h : IsSessions idle P S) where
    pub session_of : (p : Packet) → Contains P p → (s : List Packet) × Contains S s × Contains s p
    session_of p c = flat_contains S p (Contains-permutation P (flat S) p h.whole c)

    pub in_packets : (s : List Packet) (p : Packet) → Contains S s → Contains s p → Contains P p
    in_packets s p c d = Contains-permutation (flat S) P p (IsPermutation-sym P (flat S) h.whole)
        (contains_flat S s p c d)

    pub keys_in : (s : List Packet) (p q : Packet) → Contains S s → Contains s p → Contains s q → p.key ≡ q.key
    keys_in s p q c d e = All-contains (λ z. p.key ≡ z.key) s q
        (All-contains (λ y. All (λ z. y.key ≡ z.key) s) s p
        (All-contains (λ t. All (λ y. All (λ z. y.key ≡ z.key) t) t) S s h.one_key c) d) e

    pub linked_in : (s : List Packet) → Contains S s → IsLinked idle s
    linked_in s c = All-contains (IsLinked idle) S s h.linked c

    -- sessions that have packets near one another are one
    pub meet : (s t : List Packet) (p q : Packet) → Contains S s → Contains S t → Contains s p → Contains t q → Near p q
        → s ≡ t
    meet s t p q c d e f n = elim (pair_cases (IsApart idle) S h.apart s t c d) [
      | inl same ↦ same
      | inr (inl a) ↦ absurd (not_apart s t p q a e f n)
      | inr (inr a) ↦ absurd (not_apart t s q p a f e (sym n.0, n.2, n.1))
    ]

    pub stays : (s : List Packet) (p q : Packet) → Contains S s → Contains s p → Contains P q → Near p q → Contains s q
    stays s p q c d e n = let r = session_of q e in subst (λ l. Contains l q) (sym (meet s r.0 p q c r.1 d r.2 n)) r.2

    -- a linked list of one key whose earliest packet is in a session lies in it
    pub climbs : (H : List Packet) → IsLinked idle H → ((q : Packet) → Contains H q → Contains P q) → (s : List Packet)
        → Contains S s
        → (q : Packet) → Contains H q → ((y : Packet) → Contains H y → y.key ≡ q.key)
        → (fuel : ℕ) (v : Packet) → Contains H v → Contains s v → v.time ≤ q.time → q.time ≤ v.time + fuel
        → Contains s q
    climbs H linked into s c q d keys zero v e f low high =
        stays s v q c f (into q d) (keys v e, omega arith, omega arith)
    climbs H linked into s c q d keys (suc fuel) v e f low high = elim (cases_lt (v.time + idle) q.time) [
      | inl l ↦ (let r = found (λ (y : Packet). (v.time < y.time) × (y.time ≤ v.time + idle)) H
          (All-contains (λ x. Any (λ (y : Packet). x.time < y.time) H
          → Any (λ (y : Packet). (x.time < y.time) × (y.time ≤ x.time + idle)) H) H v linked e
          (among (λ (y : Packet). v.time < y.time) H q d (omega arith))) in
          let later = r.2.0 in
          let near = r.2.1 in
          climbs H linked into s c q d keys fuel r.0 r.1
          (stays s v r.0 c f (into r.0 r.1) (keys v e ∙ sym (keys r.0 r.1), omega arith, near)) (omega arith)
          (omega arith))
      | inr l ↦ stays s v q c f (into q d) (keys v e, omega arith, l)
    ]
