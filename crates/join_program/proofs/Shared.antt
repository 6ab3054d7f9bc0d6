-- The packets that records of several inputs share out, all of them and those of a share.
use Rattle.std.proofs.Common.{◌≡◌, ℕ, ◌≤◌, Bool, true, List, [], ◌∷◌, ◌++◌, Option, Some, None, refl, sym, ap}
use Rattle.std.proofs.Common.{◌∙◌, subst, arith, filter, Any, Contains, IsPermutation}
use Rattle.std.proofs.lemmas.List.{map-append}
use Rattle.std.proofs.lemmas.List.Elements.{All-contains, All-weaker}
use Rattle.std.proofs.lemmas.List.Elements.{All-contains_itself}
use Rattle.flow_key.specs.declared.key.FlowKey.{FlowKey}
use Rattle.packet_accept.specs.declared.packet.Packet.{Packet}
use Rattle.packet_accept.specs.Clock.{IsClock}
use Rattle.flow_parts.specs.declared.fragment.Fragment.{Fragment}
use Rattle.flow_parts.specs.declared.timeouts.Timeouts.{Timeouts}
use Rattle.flow_parts.specs.Heap.{IsHeap}
use Rattle.flow_parts.specs.Sharing.{SharesOut}
use Rattle.flow_parts.proofs.Members.{found, among, Any-weaker}
use Rattle.flow_parts.proofs.Shares.{together as both_shared, nothing, times}
use Rattle.record_ledger.specs.declared.record.FlowRecord.{FlowRecord}
use Rattle.record_ledger.specs.Lawful.{parts_of}
use Rattle.record_ledger.proofs.Keyed.{All-of_map, All-unmap}
use Rattle.record_ledger.proofs.Filtered.{IsPermutation-filter}
use Rattle.join_program.specs.Joined.{together, EachSharesOut, IsLatest}
use Rattle.join_program.proofs.Keyed.{flat, left_of}

abbrev part_of : FlowRecord → Fragment
part_of r = r.part

-- what each input shares out, all share out together
pub all_shared : (limits : Timeouts) (packets : List (List Packet)) (inputs : List (List FlowRecord))
    → EachSharesOut limits packets inputs → SharesOut limits (together packets) (parts_of (together inputs))
all_shared limits [] [] h = nothing.0 limits
all_shared limits [] (x ∷ xs) h = absurd h
all_shared limits (p ∷ ps) [] h = absurd h
all_shared limits (p ∷ ps) (x ∷ xs) h =
    subst (SharesOut limits (p ++ together ps)) (sym (map-append part_of x (together xs)))
    (both_shared limits p (together ps) (parts_of x) (parts_of (together xs)) h.0 (all_shared limits ps xs h.1))

-- the packets of some keys are shared out by the fragments of these keys
pub some_shared : (q : FlowKey → Bool) (limits : Timeouts) (P : List Packet) (F : List Fragment)
    → SharesOut limits P F
    → SharesOut limits (filter (λ (p : Packet). q p.key) P) (filter (λ (f : Fragment). q f.key) F)
some_shared q limits P F shares =
    let left = left_of (λ (p : Packet). p.key) (IsHeap limits) (λ heap f h. h.one_key) q shares.heaps F shares.each in
    record {
      heaps = left.lists_left;
      whole = subst (λ l. IsPermutation (filter (λ (p : Packet). q p.key) P) l) left.whole
          (IsPermutation-filter (λ (p : Packet). q p.key) P (flat shares.heaps) shares.whole);
      each = left.each;
    }

-- all keys
pub all_pass : {X : Type 0} (xs : List X) → filter (λ x. true) xs ≡ xs
all_pass [] = refl
all_pass (x ∷ xs) = ap (λ l. x ∷ l) (all_pass xs)

-- the latest time of records is that of the packets that they share out
in_parts : (flows : List FlowRecord) (r : FlowRecord) → Contains flows r → Contains (parts_of flows) r.part
in_parts flows r c = All-contains (λ (r : FlowRecord). Contains (parts_of flows) r.part) flows r
    (All-unmap part_of (Contains (parts_of flows)) flows (All-contains_itself (parts_of flows))) c

pub clock_of : (limits : Timeouts) (P : List Packet) (flows : List FlowRecord) (clock : Option ℕ)
    → SharesOut limits P (parts_of flows) → IsLatest flows clock → IsClock P clock
clock_of limits P flows None shares e = nothing.1 limits P (subst (λ fs. SharesOut limits P (parts_of fs)) e shares)
clock_of limits P flows (Some c) shares latest =
    let covers = times limits P (parts_of flows) shares in
    let r = found (λ (r : FlowRecord). r.part.last ≡ c) flows latest.reached in
    let p = found (λ (p : Packet). p.time ≡ r.0.part.last) P
    (Any-weaker (λ (p : Packet). (p.key ≡ r.0.part.key) × (p.time ≡ r.0.part.last))
    (λ (p : Packet). p.time ≡ r.0.part.last) (λ p h. h.1) P
    (All-contains (λ f. Any (λ (p : Packet). (p.key ≡ f.key) × (p.time ≡ f.last)) P) (parts_of flows) r.0.part covers.1
    (in_parts flows r.0 r.1))) in
    record {
      reached = among (λ (p : Packet). p.time ≡ c) P p.0 p.1 (p.2 ∙ r.2);
      bound = All-weaker (λ (p : Packet). Any (λ f. (f.key ≡ p.key) × (f.first ≤ p.time) × (p.time ≤ f.last))
          (parts_of flows)) (λ (p : Packet). p.time ≤ c)
          (λ p in_some. let f = found (λ f. p.time ≤ f.last) (parts_of flows)
          (Any-weaker (λ f. (f.key ≡ p.key) × (f.first ≤ p.time) × (p.time ≤ f.last)) (λ f. p.time ≤ f.last)
          (λ f h. h.2) (parts_of flows) in_some) in
          let most = All-contains (λ (f : Fragment). f.last ≤ c) (parts_of flows) f.0
          (All-of_map part_of (λ (f : Fragment). f.last ≤ c) flows latest.bound) f.1 in
          let low = f.2 in omega arith)
          P covers.2;
    }
