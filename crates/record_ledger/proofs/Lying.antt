-- Each heap lies in one session.
use Rattle.std.proofs.Common.{◌≡◌, ◌≤◌, List, sym, ◌∙◌, arith, Any, Contains}
use Rattle.std.proofs.lemmas.List.Elements.{All-contains}
use Rattle.packet_accept.specs.declared.packet.Packet.{Packet}
use Rattle.flow_parts.specs.declared.fragment.Fragment.{Fragment}
use Rattle.flow_parts.specs.declared.timeouts.Timeouts.{Timeouts}
use Rattle.flow_parts.proofs.Members.{found, among}
use Rattle.flow_parts.specs.Ending.{Ends}
use Rattle.flow_parts.specs.Ending.{IsClosed}
use Rattle.flow_parts.specs.Heap.{IsHeap}
use Rattle.record_ledger.specs.Sessions.{IsSessions}
use Rattle.flow_parts.proofs.Endings.{closed_ender}
use Rattle.record_ledger.proofs.Meeting.{session_of, keys_in, linked_in, meet, climbs, between}

module _ (limits : Timeouts) (P : List Packet) (S : List (List Packet)) (h : IsSessions limits.idle P S) where
  -- the fragment begins and ends in the session, and where it is closed it ends at a packet that ends the flow
  pub record Lies (s : List Packet) (f : Fragment) : Type 0 where
    pub inside : Contains S s
    pub one_key : (p : Packet) → Contains s p → p.key ≡ f.key
    pub begins : Any (λ (p : Packet). p.time ≡ f.first) s
    pub stops : Any (λ (p : Packet). p.time ≡ f.last) s
    pub ender : IsClosed f → Any (λ (p : Packet). Ends p × (p.time ≡ f.last)) s

  -- a heap lies in the session of each of its packets
  pub lies : (H : List Packet) (f : Fragment) → ((q : Packet) → Contains H q → Contains P q) → IsHeap limits H f
      → (s : List Packet) × Lies s f × ((q : Packet) → Contains H q → Contains s q)
  lies H f into heap =
      let v = found (λ (p : Packet). p.time ≡ f.first) H heap.first.reached in
      let first = v.2 in
      let s = session_of limits.idle P S h v.0 (into v.0 v.1) in
      let key : (q : Packet) → Contains H q → q.key ≡ f.key =
      λ q c. All-contains (λ (p : Packet). p.key ≡ f.key) H q heap.one_key c in
      let all : (q : Packet) → Contains H q → Contains s.0 q
      = λ q c. climbs limits.idle P S h H heap.linked into s.0 s.1 q c
      (λ y d. key y d ∙ sym (key q c)) q.time v.0 v.1 s.2
      (let low = All-contains (λ (p : Packet). f.first ≤ p.time) H q heap.first.bound c in omega arith)
      (omega arith) in (
        s.0,
        record {
          inside = s.1;
          one_key = λ p c. keys_in limits.idle P S h s.0 p v.0 s.1 c s.2 ∙ key v.0 v.1;
          begins = among (λ (p : Packet). p.time ≡ f.first) s.0 v.0 s.2 v.2;
          stops = (let w = found (λ (p : Packet). p.time ≡ f.last) H heap.last.reached in
              among (λ (p : Packet). p.time ≡ f.last) s.0 w.0 (all w.0 w.1) w.2);
          ender = λ closed. (let w = found Ends H (closed_ender H f heap.one_key heap.flags closed) in
              among (λ (p : Packet). Ends p × (p.time ≡ f.last)) s.0 w.0 (all w.0 w.1)
              (w.2, All-contains (λ (p : Packet). Ends p → p.time ≡ f.last) H w.0 heap.ended w.1 w.2));
        },
        all,
      )

  -- a session that has a packet in the span of a fragment of its key is the one that the fragment lies in
  pub spanned : (s t : List Packet) (g : Fragment) → Contains S s → Lies t g → (x : Packet) → Contains s x
      → x.key ≡ g.key → g.first ≤ x.time → x.time ≤ g.last → s ≡ t
  spanned s t g c l x d key low high =
      let v = found (λ (p : Packet). p.time ≡ g.first) t l.begins in
      let w = found (λ (p : Packet). p.time ≡ g.last) t l.stops in
      let at = v.2 in
      let at' = w.2 in
      let y = between limits.idle t (linked_in limits.idle P S h t l.inside) x.time v.0 w.0 v.1 (omega arith) w.1
      (omega arith) in
      let early = y.2 in
      meet limits.idle P S h s t x y.0 c l.inside d y.1 (key ∙ sym (l.one_key y.0 y.1), omega arith, y.3)
