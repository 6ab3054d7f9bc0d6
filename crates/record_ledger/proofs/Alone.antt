-- No two records of a lawful list lie in one session that nothing cuts: the last two would be joinable.
use Rattle.std.proofs.Common.{◌≡◌, ◌+◌, ◌<◌, ◌≤◌, ◌⊎◌, inl, inr, List, [], ◌∷◌, sym, ap, ◌∙◌, subst, arith, All}
use Rattle.std.proofs.Common.{Contains}
use Rattle.std.proofs.lemmas.List.Elements.{All-contains, All-contains_itself, All-nil, All-weaker, All-tail}
use Rattle.flow_key.specs.declared.key.FlowKey.{FlowKey}
use Rattle.packet_accept.specs.declared.packet.Packet.{Packet}
use Rattle.flow_parts.specs.declared.fragment.Fragment.{Fragment}
use Rattle.flow_parts.specs.declared.timeouts.Timeouts.{Timeouts}
use Rattle.flow_parts.proofs.Members.{found, among}
use Rattle.flow_parts.proofs.Walks.{no_gap}
use Rattle.record_ledger.specs.declared.record.FlowRecord.{FlowRecord}
use Rattle.record_ledger.specs.Lawful.{EachWithNext, StandsApart}
use Rattle.record_ledger.specs.Steps.{Rises}
use Rattle.record_ledger.proofs.Keyed.{cons_cases, contains_head}
use Rattle.flow_parts.specs.Ending.{Ends}
use Rattle.flow_parts.specs.Joining.{IsJoinable}
use Rattle.record_ledger.specs.Sessions.{IsSessions, IsUncut}
use Rattle.record_ledger.proofs.Meeting.{in_packets, linked_in, meet, between}
use Rattle.record_ledger.proofs.Lying.{Lies, spanned}

abbrev pub Later : FlowRecord → FlowRecord → Type 0
Later a b = a.part.last < b.part.last

module _ (limits : Timeouts) (P : List Packet) (S : List (List Packet)) (h : IsSessions limits.idle P S)
    (uncut : All (IsUncut limits) S) where
  -- the fragments of the two records lie in no one session
  abbrev pub InTwo : FlowRecord → FlowRecord → Type 0
  InTwo a b = (s : List Packet) → Lies limits P S h s a.part → Lies limits P S h s b.part → ⊥

  whole : (s : List Packet) → Contains S s → (p q : Packet) → Contains s p → Contains s q
      → (q.time ≤ p.time + limits.active) × (Ends p → q.time ≤ p.time)
  whole s c p q d e = All-contains (λ (z : Packet). (z.time ≤ p.time + limits.active) × (Ends p → z.time ≤ p.time)) s q
      (All-contains
      (λ (y : Packet). All (λ (z : Packet). (z.time ≤ y.time + limits.active) × (Ends y → z.time ≤ y.time)) s) s p
      (All-contains (IsUncut limits) S s uncut c) d) e

  -- two that lie in one session, the second ending later and beginning at most idle after the first, are joinable
  joinable : (s : List Packet) (f g : Fragment) → Lies limits P S h s f → Lies limits P S h s g → f.key ≡ g.key
      → f.last < g.last → g.first ≤ f.last + limits.idle → IsJoinable limits f g
  joinable s f g a b key less near =
      let begins = found (λ (p : Packet). p.time ≡ f.first) s a.begins in
      let begins' = found (λ (p : Packet). p.time ≡ g.first) s b.begins in
      let stops' = found (λ (p : Packet). p.time ≡ g.last) s b.stops in
      let short = (whole s a.inside begins.0 stops'.0 begins.1 stops'.1).0 in
      let short' = (whole s a.inside begins'.0 stops'.0 begins'.1 stops'.1).0 in
      let at = begins.2 in
      let at' = begins'.2 in
      let end = stops'.2 in
      let low = f.spanned in
      record {
        one_key = key;
        near = omega arith;
        short = omega arith;
        one_closed = λ closed. (let e = found (λ (p : Packet). Ends p × (p.time ≡ f.last)) s (a.ender closed) in
            let ends = (whole s a.inside e.0 stops'.0 e.1 stops'.1).1 e.2.0 in
            let is = e.2.1 in
            omega arith);
        other_closed = λ closed. omega arith;
      }

  module _ (key : FlowKey) where
    -- each packet of the key lies in the span of one of the records, or is before the end of each
    abbrev pub Covers : List FlowRecord → Type 0
    Covers rs = (x : Packet) → Contains P x → x.key ≡ key
        → ((r : FlowRecord) × Contains rs r × (r.part.first ≤ x.time) × (x.time ≤ r.part.last))
        ⊎ All (λ (r : FlowRecord). x.time < r.part.last) rs

    covers_rest : (r : FlowRecord) (rest : List FlowRecord) → All (Later r) rest → Covers (r ∷ rest) → Covers rest
    covers_rest r rest up cover x c e = elim (cover x c e) [
      | inl w ↦ elim (cons_cases r rest w.0 w.1) [
        | inl same ↦ inr (let high = w.3 in
            let at : r.part.last ≡ w.0.part.last = ap (λ (z : FlowRecord). z.part.last) same in
            All-weaker (Later r) (λ (b : FlowRecord). x.time < b.part.last) (λ b l. omega arith) rest up)
        | inr d ↦ inl (w.0, d, w.2, w.3)
      ]
      | inr all ↦ inr (All-tail (λ (b : FlowRecord). x.time < b.part.last) r rest all)
    ]

    abbrev pub Somewhere : FlowRecord → Type 0
    Somewhere r = (r.part.key ≡ key) × ((s : List Packet) × Lies limits P S h s r.part)

    -- where a later record lies in the session of the first, so does the next one
    next_lies : (r n b : FlowRecord) (rest : List FlowRecord) → Later r n → All (Later n) rest → Contains (n ∷ rest) b
        → Somewhere n → r.part.key ≡ key
        → (s : List Packet) → Lies limits P S h s r.part → Lies limits P S h s b.part → Lies limits P S h s n.part
    next_lies r n b rest l up c some k s sr sb = elim (cons_cases n rest b c) [
      | inl same ↦ subst (λ (z : FlowRecord). Lies limits P S h s z.part) (sym same) sb
      | inr d ↦ (
          let l' = All-contains (Later n) rest b up d in
          let v = found (λ (p : Packet). p.time ≡ r.part.last) s sr.stops in
          let w = found (λ (p : Packet). p.time ≡ b.part.last) s sb.stops in
          let at = v.2 in
          let at' = w.2 in
          let t = some.1 in
          let z = found (λ (p : Packet). p.time ≡ n.part.last) t.0 t.1.stops in
          let end = z.2 in
          let y = between limits.idle s (linked_in limits.idle P S h s sr.inside) n.part.last v.0 w.0 v.1
          (omega arith) w.1 (omega arith) in
          let low = y.2 in
          let high = y.3 in
          let key' : y.0.key ≡ z.0.key = sr.one_key y.0 y.1 ∙ k ∙ sym (t.1.one_key z.0 z.1 ∙ some.0) in
          subst (λ l. Lies limits P S h l n.part)
          (sym (meet limits.idle P S h s t.0 y.0 z.0 sr.inside t.1.inside y.1 z.1
          (key', omega arith, omega arith))) t.1)
    ]

    -- the record and the next one don't both lie in one session, where the next one lies in it alone of those after it
    never : (r n : FlowRecord) (rest : List FlowRecord) → Later r n → ¬ IsJoinable limits r.part n.part
        → All (InTwo n) rest → All Somewhere rest → r.part.key ≡ key → n.part.key ≡ key
        → Covers (r ∷ n ∷ rest) → (s : List Packet) → Lies limits P S h s r.part → Lies limits P S h s n.part → ⊥
    never r n rest l apart alone some k k' cover s sr sn =
        let v = found (λ (p : Packet). p.time ≡ r.part.last) s sr.stops in
        let w = found (λ (p : Packet). p.time ≡ n.part.last) s sn.stops in
        let at = v.2 in
        let at' = w.2 in
        let y = found (λ (y : Packet). (r.part.last < y.time) × (y.time ≤ r.part.last + limits.idle)) s
        (no_gap limits.idle s (linked_in limits.idle P S h s sr.inside) r.part.last r.part.last v.0 v.1 (omega arith)
        (omega arith)
        (among (λ (y : Packet). r.part.last < y.time) s w.0 w.1 (omega arith))) in
        let after = y.2.0 in
        let near = y.2.1 in
        let yk = sr.one_key y.0 y.1 ∙ k in
        let close : n.part.first ≤ y.0.time → ⊥ =
        λ low. apart (joinable s r.part n.part sr sn (k ∙ sym k') l (omega arith)) in
        elim (cover y.0 (in_packets limits.idle P S h s y.0 sr.inside y.1) yk) [
          | inl c ↦ elim (cons_cases r (n ∷ rest) c.0 c.1) [
            | inl same ↦ (let high = c.3 in
                let is : r.part.last ≡ c.0.part.last = ap (λ (z : FlowRecord). z.part.last) same in
                absurd (omega arith))
            | inr d ↦ elim (cons_cases n rest c.0 d) [
              | inl same ↦ close (let low = c.2 in
                  let is : n.part.first ≡ c.0.part.first = ap (λ (z : FlowRecord). z.part.first) same in omega arith)
              | inr e ↦ (let g = All-contains Somewhere rest c.0 some e in
                  let same = spanned limits P S h s g.1.0 c.0.part sr.inside g.1.1 y.0 y.1 (yk ∙ sym g.0) c.2 c.3 in
                  All-contains (InTwo n) rest c.0 alone e s sn
                  (subst (λ l. Lies limits P S h l c.0.part) (sym same) g.1.1))
            ]
          ]
          | inr all ↦
              (let early = All-contains (λ (b : FlowRecord). y.0.time < b.part.last) (r ∷ n ∷ rest) r all
              (contains_head r (n ∷ rest)) in absurd (omega arith))
        ]

    pub all_apart : (rs : List FlowRecord) → Rises Later rs → EachWithNext (StandsApart limits) rs → All Somewhere rs
        → Covers rs → Rises InTwo rs
    all_apart [] up apart some cover = tt
    all_apart (r ∷ []) up apart some cover = (All-nil (InTwo r), tt)
    all_apart (r ∷ n ∷ rest) up apart some cover =
        let some' = All-tail Somewhere r (n ∷ rest) some in
        let one = All-contains Somewhere (r ∷ n ∷ rest) r some (contains_head r (n ∷ rest)) in
        let two = All-contains Somewhere (n ∷ rest) n some' (contains_head n rest) in
        let less : Later r n = All-contains (Later r) (n ∷ rest) n up.0 (contains_head n rest) in
        let after = all_apart (n ∷ rest) up.1 apart.1 some' (covers_rest r (n ∷ rest) up.0 cover) in (
          All-weaker (Contains (n ∷ rest)) (InTwo r)
              (λ b c s sr sb. never r n rest less apart.0 after.0
              (All-tail Somewhere n rest some') one.0 two.0 cover s sr
              (next_lies r n b rest less up.1.0 c two one.0 s sr sb))
              (n ∷ rest) (All-contains_itself (n ∷ rest)),
          after,
        )
