-- A list of records whose front is a stack of those that were joined.
use Rattle.std.proofs.Common.{◌≡◌, ℕ, ◌+◌, ◌-◌, ◌<◌, ◌≤◌, List, [], ◌∷◌, ◌++◌, length, get_or, set, take, drop, sym, ap}
use Rattle.std.proofs.Common.{◌∙◌, subst, arith, reverse, sum_by, All}
use Rattle.std.proofs.Math.ListN.{drop_of_length-le}
use Rattle.std.proofs.lemmas.List.{append-nil, get_or-map, get_or-take, length-map, length-take, map-set, take-map}
use Rattle.std.proofs.lemmas.List.{take-take, take-append-drop, take_more_set, drop_more, drop-set-lt, reverse-append}
use Rattle.std.proofs.lemmas.List.Sorted.{IsPermutation-refl}
use Rattle.flow_parts.specs.declared.fragment.Fragment.{Fragment}
use Rattle.flow_parts.specs.declared.timeouts.Timeouts.{Timeouts}
use Rattle.flow_parts.specs.Joining.{IsJoinable}
use Rattle.record_ledger.specs.declared.record.FlowRecord.{FlowRecord}
use Rattle.record_ledger.specs.Gathered.{ComesTo, AllComeTo}
use Rattle.record_ledger.specs.Lawful.{parts_of}
use Rattle.flow_parts.specs.Reaching.{Reaches}
use Rattle.record_ledger.specs.Steps.{Rises, NotAfter, NoneJoinable}
use Rattle.flow_parts.specs.Reaching.Reaches.{moved}
use Rattle.record_ledger.proofs.Reaching.{stacked, packets_stacked, octets_stacked}
use Rattle.record_ledger.proofs.Rising.{rises_settled, latest, alike, alike', none_taken, none_pushed}

-- the first records are a stack, those from a place on are left, and the two together are reached from the parts
pub record IsStacked (limits : Timeouts) (parts : List Fragment) (records : List FlowRecord)
    (height place : ℕ) : Type 0 where
  pub few : height ≤ place
  pub reached : Reaches limits parts (take height (parts_of records) ++ drop place (parts_of records))
  pub rises : Rises NotAfter (take height (parts_of records) ++ drop place (parts_of records))
  pub apart : NoneJoinable limits (take height (parts_of records))
  pub comes : (after : List Fragment)
      → AllComeTo limits (reverse (take height (parts_of records))) (drop place (parts_of records)) after
      → AllComeTo limits [] parts after

abbrev part_at : FlowRecord → Fragment
part_at r = r.part

-- the fragment of a record and those behind it
ahead : (X : List FlowRecord) (p : ℕ) (r : FlowRecord) → p < length X → r ≡ get_or X p r
    → drop p (parts_of X) ≡ r.part ∷ drop (p + 1) (parts_of X)
ahead X p r l is = drop_more (parts_of X) p r.part (let long = length-map X part_at in omega arith)
    ∙ ap (λ f. f ∷ drop (p + 1) (parts_of X)) (get_or-map part_at X p r r.part l ∙ sym (ap part_at is))

-- the stack as it is lent
pub front_of : (X Y : List FlowRecord) (n : ℕ) → Y ≡ X → parts_of (take n Y) ≡ take n (parts_of X)
front_of X Y n e = ap (λ z. parts_of (take n z)) e ∙ sym (take-map part_at n X)

module _ (limits : Timeouts) where
  pub none_stacked : (X : List FlowRecord) → Rises NotAfter (parts_of X) → IsStacked limits (parts_of X) X 0 0
  none_stacked X rises = record {
    few = omega arith;
    reached = moved _ _ (IsPermutation-refl _);
    rises = rises;
    apart = λ k d l j. omega arith;
    comes = λ after k. k;
  }

  -- a record next to a stack, which is S
  module _ (parts : List Fragment) (X : List FlowRecord) (a p : ℕ) (h : IsStacked limits parts X a p) (r : FlowRecord)
      (l : p < length X) (is : r ≡ get_or X p r)
      (S : List Fragment) (e : S ≡ take a (parts_of X)) where
    beside_reached : Reaches limits parts (S ++ r.part ∷ drop (p + 1) (parts_of X))
    beside_reached = subst (λ s. Reaches limits parts (s ++ r.part ∷ drop (p + 1) (parts_of X))) (sym e)
        (subst (λ fs. Reaches limits parts (take a (parts_of X) ++ fs)) (ahead X p r l is) h.reached)

    beside_rises : Rises NotAfter (S ++ r.part ∷ drop (p + 1) (parts_of X))
    beside_rises = subst (λ s. Rises NotAfter (s ++ r.part ∷ drop (p + 1) (parts_of X))) (sym e)
        (subst (λ fs. Rises NotAfter (take a (parts_of X) ++ fs)) (ahead X p r l is) h.rises)

    pub room_packets : (n : ℕ) → sum_by (λ (f : Fragment). f.packets) parts < n
        → r.part.packets + sum_by (λ (f : Fragment). f.packets) S < n
    room_packets n few = packets_stacked limits parts S r.part (drop (p + 1) (parts_of X)) n beside_reached few

    pub room_octets : (n : ℕ) → sum_by (λ (f : Fragment). f.octets) parts < n
        → r.part.octets + sum_by (λ (f : Fragment). f.octets) S < n
    room_octets n few = octets_stacked limits parts S r.part (drop (p + 1) (parts_of X)) n beside_reached few

    pub latest_beside : All (λ (f : Fragment). f.key ≡ r.part.key → f.last ≤ r.part.last) S
    latest_beside = latest S r.part (drop (p + 1) (parts_of X)) beside_rises

    -- the record joined with the top of the stack, and put behind what is left of it
    pub one_stacked : (q : FlowRecord) (n : ℕ) → n ≤ length S → Reaches limits (r.part ∷ S) (q.part ∷ take n S)
        → q.part.key ≡ r.part.key → q.part.last ≡ r.part.last
        → ((d : Fragment) → 0 < n → ¬ IsJoinable limits (get_or S (n - 1) d) q.part)
        → ComesTo limits (reverse S) r.part (q.part ∷ reverse (take n S))
        → IsStacked limits parts (set X n q) (n + 1) (p + 1)
    one_stacked q n le reached key last top comes =
        let F : List Fragment = parts_of X in
        let w : Fragment = q.part in
        let s : List Fragment = take n S in
        let rest : List Fragment = drop (p + 1) F in
        let long = length-map X part_at in
        let high = ap length e in
        let few = h.few in
        let below : n ≤ a = omega (arith, length-take a F) in
        let fragments : parts_of (set X n q) ≡ set F n w = map-set part_at X n q in
        let front : take (n + 1) (parts_of (set X n q)) ≡ s ++ w ∷ [] =
        ap (take (n + 1)) fragments ∙ take_more_set F n w (omega arith)
        ∙ ap (λ fs. fs ++ w ∷ []) (sym (ap (take n) e ∙ take-take n a F below)) in
        let back : drop (p + 1) (parts_of (set X n q)) ≡ rest =
        ap (drop (p + 1)) fragments ∙ drop-set-lt (p + 1) F n w (omega arith) in
        let split : S ≡ s ++ drop n S = sym (take-append-drop n S) in
        record {
          few = omega arith;
          reached = subst (λ fs. Reaches limits parts (fs ++ drop (p + 1) (parts_of (set X n q)))) (sym front)
              (subst (λ fs. Reaches limits parts ((s ++ w ∷ []) ++ fs)) (sym back)
              (stacked limits parts S r.part w s rest beside_reached reached));
          rises = subst (λ fs. Rises NotAfter (fs ++ drop (p + 1) (parts_of (set X n q)))) (sym front)
              (subst (λ fs. Rises NotAfter ((s ++ w ∷ []) ++ fs)) (sym back)
              (rises_settled NotAfter s (drop n S) r.part w rest (alike r.part w key last) (alike' r.part w key last)
              (subst (λ fs. Rises NotAfter (fs ++ r.part ∷ rest)) split beside_rises)));
          apart = subst (NoneJoinable limits) (sym front)
              (none_pushed limits s w (none_taken limits n S le (subst (NoneJoinable limits) (sym e) h.apart))
              (λ d some j.
              let tall : length s ≡ n = omega (arith, length-take n S) in
              let last : get_or s (length s - 1) d ≡ get_or S (n - 1) d =
              ap (λ m. get_or s (m - 1) d) tall ∙ get_or-take n S (n - 1) d (omega arith) in
              top d (omega arith) (subst (λ f. IsJoinable limits f w) last j)));
          comes = λ after k. h.comes after
              (subst (λ fs. AllComeTo limits (reverse (take a F)) fs after) (sym (ahead X p r l is)) (
                w ∷ reverse s,
                subst (λ fs. ComesTo limits (reverse fs) r.part (w ∷ reverse s)) e comes,
                subst (λ fs. AllComeTo limits fs rest after) (ap reverse front ∙ reverse-append s (w ∷ []))
                    (subst (λ fs. AllComeTo limits (reverse (take (n + 1) (parts_of (set X n q)))) fs after) back k),
              ));
        }

  -- with no record left the stack is all
  pub all_stacked : (parts : List Fragment) (X Y : List FlowRecord) (a p : ℕ) → IsStacked limits parts X a p
      → length X ≤ p → Y ≡ take a X
      → Reaches limits parts (parts_of Y) × Rises NotAfter (parts_of Y) × NoneJoinable limits (parts_of Y)
      × AllComeTo limits [] parts (reverse (parts_of Y))
  all_stacked parts X Y a p h end e =
      let stack : take a (parts_of X) ≡ parts_of Y = take-map part_at a X ∙ sym (ap parts_of e) in
      let none : drop p (parts_of X) ≡ [] = drop_of_length-le (parts_of X)
      (let long = length-map X part_at in omega arith) in
      let whole : take a (parts_of X) ++ drop p (parts_of X) ≡ parts_of Y =
      ap (λ fs. take a (parts_of X) ++ fs) none ∙ append-nil (take a (parts_of X)) ∙ stack in (
        subst (Reaches limits parts) whole h.reached,
        subst (Rises NotAfter) whole h.rises,
        subst (NoneJoinable limits) stack h.apart,
        h.comes (reverse (parts_of Y))
            (subst (λ fs. AllComeTo limits (reverse (take a (parts_of X))) fs (reverse (parts_of Y))) (sym none)
            (ap reverse (sym stack))),
      )
