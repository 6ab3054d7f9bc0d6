-- A fragment is closed exactly where a packet of its heap ends its flow.
use Rattle.std.proofs.Common.{◌≡◌, ℕ, Bool, true, false, ◌&&◌, ◌||◌, not, ◌⊎◌, inl, inr, List, nat_eq, bit_and, refl}
use Rattle.std.proofs.Common.{sym, ap, ◌∙◌, arith, All, Any}
use Rattle.std.specs.Int.{bit_at}
use Rattle.std.proofs.lemmas.Bool.{and_parts, or_cases, cases_lt, eqb-true, eq-eqb, ne_eqb}
use Rattle.std.proofs.lemmas.Nat.Bits.{and_pow, bit_at-lt}
use Rattle.std.proofs.lemmas.List.Elements.{All-contains}
use Rattle.flow_key.specs.declared.key.FlowKey.{FlowKey}
use Rattle.packet_accept.specs.declared.packet.Packet.{Packet}
use Rattle.flow_parts.specs.declared.fragment.Fragment.{Fragment}
use Rattle.flow_parts.specs.Union.{IsUnion}
use Rattle.flow_parts.proofs.Members.{found, among}
use Rattle.packet_accept.specs.Ending.{is_tcp_end}
use Rattle.flow_parts.specs.Ending.{Ends, IsClosed}

-- the second of two tests is enough
other : (a b : Bool) → b ≡ true → (a || b) ≡ true
other true b e = refl
other false b e = e

-- one bit of a number, tested by a mask and by its place
fin_bit : (n : ℕ) → not (nat_eq (bit_and n 1) 0) ≡ nat_eq (bit_at n 0) 1
fin_bit n =
    let low = bit_at-lt n 0 in
    let mask = and_pow n 0 in
    elim (cases_lt 0 (bit_at n 0)) [
      | inl set ↦ ap not (ne_eqb (bit_and n 1) 0 (λ none. omega arith)) ∙ sym (eq-eqb (bit_at n 0) 1 (omega arith))
      | inr unset ↦ ap not (eq-eqb (bit_and n 1) 0 (omega arith)) ∙ sym (ne_eqb (bit_at n 0) 1 (λ one. omega arith))
    ]

rst_bit : (n : ℕ) → not (nat_eq (bit_and n 4) 0) ≡ nat_eq (bit_at n 2) 1
rst_bit n =
    let low = bit_at-lt n 2 in
    let mask = and_pow n 2 in
    elim (cases_lt 0 (bit_at n 2)) [
      | inl set ↦ ap not (ne_eqb (bit_and n 4) 0 (λ none. omega arith)) ∙ sym (eq-eqb (bit_at n 2) 1 (omega arith))
      | inr unset ↦ ap not (eq-eqb (bit_and n 4) 0 (omega arith)) ∙ sym (ne_eqb (bit_at n 2) 1 (λ one. omega arith))
    ]

-- TCP, with the bit of FIN or of RST set
by_bits : (protocol flags : ℕ) → is_tcp_end protocol flags
    ≡ (nat_eq protocol 6 && (nat_eq (bit_at flags 0) 1 || nat_eq (bit_at flags 2) 1))
by_bits protocol flags =
    ap (λ b. nat_eq protocol 6 && (b || not (nat_eq (bit_and flags 4) 0))) (fin_bit flags)
    ∙ ap (λ b. nat_eq protocol 6 && (nat_eq (bit_at flags 0) 1 || b)) (rst_bit flags)

pub end_cases : (protocol flags : ℕ) → is_tcp_end protocol flags ≡ true
    → (protocol ≡ 6) × ((bit_at flags 0 ≡ 1) ⊎ (bit_at flags 2 ≡ 1))
end_cases protocol flags e =
    let one = and_parts (nat_eq protocol 6) (nat_eq (bit_at flags 0) 1 || nat_eq (bit_at flags 2) 1)
    (sym (by_bits protocol flags) ∙ e) in (
      eqb-true protocol 6 one.0,
      elim (or_cases (nat_eq (bit_at flags 0) 1) (nat_eq (bit_at flags 2) 1) one.1)
          [ inl a ↦ inl (eqb-true (bit_at flags 0) 1 a) | inr a ↦ inr (eqb-true (bit_at flags 2) 1 a) ],
    )

pub end_from : (protocol flags : ℕ) → protocol ≡ 6 → (bit_at flags 0 ≡ 1) ⊎ (bit_at flags 2 ≡ 1)
    → is_tcp_end protocol flags ≡ true
end_from protocol flags e h =
    by_bits protocol flags
    ∙ ap (λ b. b && (nat_eq (bit_at flags 0) 1 || nat_eq (bit_at flags 2) 1)) (eq-eqb protocol 6 e)
    ∙ (elim h [
      | inl a ↦ ap (λ b. b || nat_eq (bit_at flags 2) 1) (eq-eqb (bit_at flags 0) 1 a)
      | inr a ↦ other (nat_eq (bit_at flags 0) 1) (nat_eq (bit_at flags 2) 1) (eq-eqb (bit_at flags 2) 1 a)
    ])

-- a packet that ends its flow is among those of a closed fragment, and the other way round
module _ (P : List Packet) (f : Fragment) (keys : All (λ p. p.key ≡ f.key) P)
    (union : IsUnion (λ (p : Packet). p.flags) P f.flags) where
  ender_at : (bit : ℕ) → f.key.protocol ≡ 6
      → ((p : Packet) → bit_at p.flags bit ≡ 1 → (bit_at p.flags 0 ≡ 1) ⊎ (bit_at p.flags 2 ≡ 1))
      → bit_at f.flags bit ≡ 1 → Any Ends P
  ender_at bit tcp which e =
      let r = found (λ (p : Packet). bit_at p.flags bit ≡ 1) P ((union.bits bit).0 e) in
      among Ends P r.0 r.1
      (end_from r.0.key.protocol r.0.flags
      (ap (λ (k : FlowKey). k.protocol) (All-contains (λ p. p.key ≡ f.key) P r.0 keys r.1) ∙ tcp) (which r.0 r.2))

  pub closed_ender : IsClosed f → Any Ends P
  closed_ender e = let c = end_cases f.key.protocol f.flags e in
      elim c.1 [ inl a ↦ ender_at 0 c.0 (λ p h. inl h) a | inr a ↦ ender_at 2 c.0 (λ p h. inr h) a ]

  pub ender_closes : Any Ends P → IsClosed f
  ender_closes a =
      let r = found Ends P a in
      let c = end_cases r.0.key.protocol r.0.flags r.2 in
      end_from f.key.protocol f.flags
      (ap (λ (k : FlowKey). k.protocol) (sym (All-contains (λ p. p.key ≡ f.key) P r.0 keys r.1)) ∙ c.0)
      (elim c.1 [
        | inl h ↦ inl ((union.bits 0).1 (among (λ (p : Packet). bit_at p.flags 0 ≡ 1) P r.0 r.1 h))
        | inr h ↦ inr ((union.bits 2).1 (among (λ (p : Packet). bit_at p.flags 2 ≡ 1) P r.0 r.1 h))
      ])
