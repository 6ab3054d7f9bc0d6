-- Linked packets leave no gap, so that two linked lists whose spans are near are linked together.
use Rattle.std.proofs.Common.{◌≡◌, ℕ, zero, suc, ◌+◌, ◌<◌, ◌≤◌, ◌⊎◌, inl, inr, List, [], ◌∷◌, ◌++◌, arith, Any}
use Rattle.std.proofs.Common.{Contains, IsPermutation}
use Rattle.std.proofs.lemmas.Bool.{cases_lt}
use Rattle.std.proofs.lemmas.List.Elements.{All-append, All-contains, All-contains_itself, All-weaker}
use Rattle.std.proofs.lemmas.List.Sorted.{All-permutation, IsPermutation-sym}
use Rattle.packet_accept.specs.declared.packet.Packet.{Packet}
use Rattle.packet_accept.specs.Extremes.{IsLeast, IsGreatest}
use Rattle.flow_parts.specs.Heap.{IsLinked}
use Rattle.flow_parts.proofs.Members.{found, among, Any-append_left, Any-append_right, Any-append_cases}
use Rattle.flow_parts.proofs.Members.{Any-permutation, Any-weaker, All-one, one-Any}

abbrev pub time_of : Packet → ℕ
time_of p = p.time

module _ (idle : ℕ) where
  -- the packet comes after t; it comes after t by at most idle
  abbrev After : ℕ → Packet → Type 0
  After t p = t < p.time

  abbrev Next : ℕ → Packet → Type 0
  Next t p = (t < p.time) × (p.time ≤ t + idle)

  abbrev Goes : List Packet → Packet → Type 0
  Goes P p = Any (λ later. p.time < later.time) P → Any (λ next. (p.time < next.time) × (next.time ≤ p.time + idle)) P

  -- from a packet that isn't after t, where one is after t: some packet is after t by at most idle
  pub no_gap : (P : List Packet) → IsLinked idle P → (fuel t : ℕ) (v : Packet) → Contains P v → v.time ≤ t
      → t ≤ v.time + fuel
      → Any (After t) P → Any (Next t) P
  no_gap P linked zero t v c low high later =
      let next : Any (Next v.time) P = All-contains (Goes P) P v linked c
      (Any-weaker (After t) (After v.time) (λ q h. omega arith) P later) in
      Any-weaker (Next v.time) (Next t) (λ q h. (omega arith, omega arith)) P next
  no_gap P linked (suc fuel) t v c low high later =
      let next : Any (Next v.time) P = All-contains (Goes P) P v linked c
      (Any-weaker (After t) (After v.time) (λ q h. omega arith) P later) in
      let r = found (Next v.time) P next in
      let step = r.2 in
      elim (cases_lt t r.0.time) [
        | inl l ↦ among (Next t) P r.0 r.1 (l, omega arith)
        | inr l ↦ no_gap P linked fuel t r.0 r.1 l (omega arith) later
      ]

  -- a packet of P that one of P or of Q follows is followed by one by at most idle
  half : (P Q : List Packet) (last first : ℕ) → IsLinked idle P → IsLinked idle Q → IsGreatest time_of P last
      → IsLeast time_of Q first
      → first ≤ last + idle → (x : Packet) → Contains P x → Any (After x.time) P ⊎ Any (After x.time) Q
      → Any (Next x.time) P ⊎ Any (Next x.time) Q
  half P Q last first p q greatest least near x c h = elim h [
    | inl a ↦ inl (All-contains (Goes P) P x p c a)
    | inr a ↦ elim (cases_lt x.time last) [
      | inl l ↦ inl
          (All-contains (Goes P) P x p c
          (Any-weaker (λ y. y.time ≡ last) (After x.time) (λ y e. omega arith) P greatest.reached))
      | inr l ↦ elim (cases_lt x.time first) [
        | inl m ↦ inr
            (Any-weaker (λ y. y.time ≡ first) (Next x.time) (λ y e. (omega arith, omega arith)) Q least.reached)
        | inr m ↦ inr (let v = found (λ y. y.time ≡ first) Q least.reached in let e = v.2 in
            no_gap Q q x.time x.time v.0 v.1 (omega arith) (omega arith) a)
      ]
    ]
  ]

  pub IsLinked-append : (P Q : List Packet) (f l g m : ℕ) → IsLinked idle P → IsLinked idle Q → IsLeast time_of P f
      → IsGreatest time_of P l
      → IsLeast time_of Q g → IsGreatest time_of Q m → g ≤ l + idle → f ≤ m + idle → IsLinked idle (P ++ Q)
  IsLinked-append P Q f l g m p q pf pl qf qm near near' =
      let into : (x : Packet) → Any (Next x.time) P ⊎ Any (Next x.time) Q → Any (Next x.time) (P ++ Q)
      = λ x h. elim h [ inl a ↦ Any-append_left (Next x.time) P Q a | inr a ↦ Any-append_right (Next x.time) P Q a ] in
      All-append (Goes (P ++ Q)) P Q
      (All-weaker (Contains P) (Goes (P ++ Q))
      (λ x c a. into x (half P Q l g p q pl qf near x c (Any-append_cases (After x.time) P Q a))) P
      (All-contains_itself P))
      (All-weaker (Contains Q) (Goes (P ++ Q))
      (λ x c a. into x (other x (half Q P m f q p qm pf near' x c (turned x (Any-append_cases (After x.time) P Q a)))))
      Q (All-contains_itself Q))
    where
      turned : (x : Packet) → Any (After x.time) P ⊎ Any (After x.time) Q → Any (After x.time) Q ⊎ Any (After x.time) P
      turned x h = elim h [ inl a ↦ inr a | inr a ↦ inl a ]

      other : (x : Packet) → Any (Next x.time) Q ⊎ Any (Next x.time) P → Any (Next x.time) P ⊎ Any (Next x.time) Q
      other x h = elim h [ inl a ↦ inr a | inr a ↦ inl a ]

  pub IsLinked-permutation : (P Q : List Packet) → IsPermutation P Q → IsLinked idle P → IsLinked idle Q
  IsLinked-permutation P Q s linked = All-weaker (Goes P) (Goes Q)
      (λ x goes a. Any-permutation (Next x.time) P Q s
      (goes (Any-permutation (After x.time) Q P (IsPermutation-sym P Q s) a)))
      Q (All-permutation (Goes P) P Q s linked)

  pub IsLinked-one : (p : Packet) → IsLinked idle (p ∷ [])
  IsLinked-one p = All-one (Goes (p ∷ [])) p (λ a. let never = one-Any (After p.time) p a in absurd (omega arith))
