-- The laws of sharing out.
use Rattle.std.proofs.Common.{◌≡◌, ℕ, ◌≤◌, List, [], ◌∷◌, ◌++◌, length, sum_by, flat_map, sym, ◌∙◌, subst, refl, arith}
use Rattle.std.proofs.Common.{length-append, All, Any, Contains, IsPermutation, append_assoc}
use Rattle.std.proofs.lemmas.List.{append-nil, nil_from_length}
use Rattle.std.specs.List.{AllZip}
use Rattle.std.proofs.lemmas.List.Concat.{flat_map-append}
use Rattle.std.proofs.lemmas.List.Elements.{All-append, All-weaker, All-nil, All-cons, All-contains}
use Rattle.std.proofs.lemmas.List.Elements.{All-contains_itself}
use Rattle.std.proofs.lemmas.List.Sums.{sum_by-append, sum_by-cons}
use Rattle.std.proofs.lemmas.List.Sorted.{All-permutation, length_permutation, sum_by-IsPermutation, IsPermutation-refl}
use Rattle.std.proofs.lemmas.List.Sorted.{IsPermutation-sym, IsPermutation-trans, IsPermutation-append}
use Rattle.std.proofs.lemmas.List.Sorted.{IsPermutation-append_left, IsPermutation-append_right, IsPermutation-to_front}
use Rattle.std.proofs.lemmas.List.Sorted.{IsPermutation-cons}
use Rattle.packet_accept.specs.declared.packet.Packet.{Packet}
use Rattle.flow_parts.specs.declared.fragment.Fragment.{Fragment}
use Rattle.flow_parts.specs.declared.timeouts.Timeouts.{Timeouts}
use Rattle.flow_parts.specs.Heap.{IsHeap}
use Rattle.flow_parts.specs.Sharing.{SharesOut}
use Rattle.flow_parts.specs.Laws.{NothingIsShared, StandsTogether, StandsPermuted, SharesItsHeap, CountsAll}
use Rattle.flow_parts.specs.Laws.{CoversTimes}
use Rattle.flow_parts.specs.Joining.{TakesIn, IsJoinable}
use Rattle.flow_parts.specs.Parts.{IsAlone, IsAbsorbed, IsJoined}
use Rattle.flow_parts.proofs.Heaps.{IsHeap-permutation, IsHeap-one, IsHeap-joined, IsHeap-absorbed}
use Rattle.flow_parts.proofs.Members.{found, among, Any-one, Any-append_left, Any-append_right, Any-permutation}
use Rattle.packet_accept.proofs.Permuted.{flat_map-permutation}
use Rattle.flow_parts.proofs.Permuted.{AllZip-append, AllZip-permutation}

abbrev flat : List (List Packet) → List Packet
flat heaps = flat_map (λ (heap : List Packet). heap) heaps

pub together : StandsTogether
together limits P Q F G a b = record {
  heaps = a.heaps ++ b.heaps;
  whole = subst (λ l. IsPermutation (P ++ Q) l) (sym (flat_map-append (λ (heap : List Packet). heap) a.heaps b.heaps))
      (IsPermutation-append P (flat a.heaps) Q (flat b.heaps) a.whole b.whole);
  each = AllZip-append (IsHeap limits) a.heaps F b.heaps G a.each b.each;
}

pub permuted : StandsPermuted
permuted limits P Q F G s t a =
    let z = AllZip-permutation (IsHeap limits) a.heaps F G a.each t in
    record {
      heaps = z.0;
      whole = IsPermutation-trans Q P (flat z.0) (IsPermutation-sym P Q s)
          (IsPermutation-trans P (flat a.heaps) (flat z.0) a.whole
          (flat_map-permutation (λ (heap : List Packet). heap) a.heaps z.0 z.1));
      each = z.2;
    }

module _ (limits : Timeouts) where
  -- one more packet, as a fragment of its own
  pub fresh : (p : Packet) (f : Fragment) → IsAlone p f → (P : List Packet) (F : List Fragment) → SharesOut limits P F
      → SharesOut limits (P ++ p ∷ []) (f ∷ F)
  fresh p f alone P F a = record {
    heaps = (p ∷ []) ∷ a.heaps;
    whole = IsPermutation-trans (P ++ p ∷ []) (p ∷ P) (p ∷ flat a.heaps) (IsPermutation-to_front P p)
        (IsPermutation-cons p P (flat a.heaps) a.whole);
    each = (IsHeap-one limits p f alone, a.each);
  }

  absorbed_at : (f w : Fragment) (p : Packet) → TakesIn limits f p → IsAbsorbed f p w
      → (P : List Packet) (F : List Fragment)
      → (heaps : List (List Packet)) → IsPermutation P (flat heaps) → AllZip (IsHeap limits) heaps (f ∷ F)
      → SharesOut limits (P ++ p ∷ []) (w ∷ F)
  absorbed_at f w p t u P F [] s h = absurd h
  absorbed_at f w p t u P F (x ∷ heaps) s h = record {
    heaps = (x ++ p ∷ []) ∷ heaps;
    whole = IsPermutation-trans (P ++ p ∷ []) ((x ++ flat heaps) ++ p ∷ []) ((x ++ p ∷ []) ++ flat heaps)
        (IsPermutation-append_left (p ∷ []) P (x ++ flat heaps) s)
        (subst (λ l. IsPermutation l ((x ++ p ∷ []) ++ flat heaps)) (sym (append_assoc x (flat heaps) (p ∷ [])))
        (subst (λ l. IsPermutation (x ++ (flat heaps ++ p ∷ [])) l) (sym (append_assoc x (p ∷ []) (flat heaps)))
        (IsPermutation-append_right x (flat heaps ++ p ∷ []) (p ∷ flat heaps)
        (IsPermutation-to_front (flat heaps) p))));
    each = (IsHeap-absorbed limits x f p w t u h.0, h.1);
  }

  pub absorbed : (f w : Fragment) (p : Packet) → TakesIn limits f p → IsAbsorbed f p w
      → (P : List Packet) (F : List Fragment) → SharesOut limits P (f ∷ F) → SharesOut limits (P ++ p ∷ []) (w ∷ F)
  absorbed f w p t u P F a = absorbed_at f w p t u P F a.heaps a.whole a.each

  joined_at : (f g w : Fragment) → IsJoinable limits f g → IsJoined f g w → (P : List Packet) (F : List Fragment)
      → (heaps : List (List Packet)) → IsPermutation P (flat heaps) → AllZip (IsHeap limits) heaps (f ∷ g ∷ F)
      → SharesOut limits P (w ∷ F)
  joined_at f g w j u P F [] s h = absurd h
  joined_at f g w j u P F (x ∷ []) s h = absurd h.1
  joined_at f g w j u P F (x ∷ y ∷ heaps) s h = record {
    heaps = (x ++ y) ∷ heaps;
    whole = subst (λ l. IsPermutation P l) (sym (append_assoc x y (flat heaps))) s;
    each = (IsHeap-joined limits x y f g w j u h.0 h.1.0, h.1.1);
  }

  pub joined : (f g w : Fragment) → IsJoinable limits f g → IsJoined f g w → (P : List Packet) (F : List Fragment)
      → SharesOut limits P (f ∷ g ∷ F) → SharesOut limits P (w ∷ F)
  joined f g w j u P F a = joined_at f g w j u P F a.heaps a.whole a.each

-- no fragments have no heaps, and a heap isn't empty
none_at : (limits : Timeouts) (heaps : List (List Packet)) → AllZip (IsHeap limits) heaps [] → length (flat heaps) ≡ 0
none_at limits [] h = refl
none_at limits (x ∷ heaps) h = absurd h

empty_at : (limits : Timeouts) (heaps : List (List Packet)) (F : List Fragment) → length (flat heaps) ≡ 0
    → AllZip (IsHeap limits) heaps F → F ≡ []
empty_at limits [] [] e h = refl
empty_at limits [] (f ∷ F) e h = absurd h
empty_at limits (x ∷ heaps) [] e h = refl
empty_at limits (x ∷ heaps) (f ∷ F) e h =
    absurd (let r = h.0.first.reached in let below = r.2 in omega (arith, length-append x (flat heaps)))

pub nothing : NothingIsShared
nothing = (
  λ limits. record { heaps = []; whole = IsPermutation-refl []; each = tt },
  λ limits P a. nil_from_length P (sym (length_permutation P (flat a.heaps) a.whole) ∙ none_at limits a.heaps a.each),
  λ limits F a. empty_at limits a.heaps F (length_permutation [] (flat a.heaps) a.whole) a.each,
)

-- one fragment and its heap
heap_at : (limits : Timeouts) (P : List Packet) (f : Fragment) (heaps : List (List Packet))
    → IsPermutation P (flat heaps) → AllZip (IsHeap limits) heaps (f ∷ []) → IsHeap limits P f
heap_at limits P f [] s h = absurd h
heap_at limits P f (x ∷ []) s h = IsHeap-permutation limits x P f
    (subst (λ l. IsPermutation l P) (append-nil x) (IsPermutation-sym P (x ++ []) s)) h.0
heap_at limits P f (x ∷ y ∷ heaps) s h = absurd h.1

pub its_heap : SharesItsHeap
its_heap limits P f = (
  λ h. record {
    heaps = P ∷ [];
    whole = subst (IsPermutation P) (sym (append-nil P)) (IsPermutation-refl P);
    each =
        (h, tt);
  },
  λ a. heap_at limits P f a.heaps a.whole a.each,
)

abbrev packets_in : Fragment → ℕ
packets_in f = f.packets

abbrev octets_in : Fragment → ℕ
octets_in f = f.octets

abbrev octets_of : Packet → ℕ
octets_of p = p.octets

counts_at : (limits : Timeouts) (heaps : List (List Packet)) (F : List Fragment) → AllZip (IsHeap limits) heaps F
    → (sum_by packets_in F ≡ length (flat heaps)) × (sum_by octets_in F ≡ sum_by octets_of (flat heaps))
counts_at limits [] [] h = (refl, refl)
counts_at limits [] (f ∷ F) h = absurd h
counts_at limits (x ∷ heaps) [] h = absurd h
counts_at limits (x ∷ heaps) (f ∷ F) h =
    let rest = counts_at limits heaps F h.1 in
    let count = h.0.count in
    let octets = h.0.octets in (
      omega (arith, sum_by-cons packets_in f F, length-append x (flat heaps)),
      omega (arith, sum_by-cons octets_in f F, sum_by-append octets_of x (flat heaps)),
    )

pub counts : CountsAll
counts limits P F a =
    let all = counts_at limits a.heaps F a.each in (
      all.0 ∙ length_permutation P (flat a.heaps) a.whole,
      all.1
          ∙ sum_by-IsPermutation octets_of P (flat a.heaps) a.whole,
    )

-- a packet of the fragment's key at a time that it tells
abbrev Stands : (Fragment → ℕ) → Fragment → Packet → Type 0
Stands at f p = (p.key ≡ f.key) × (p.time ≡ at f)

-- a fragment of the packet's key whose span the packet lies in
abbrev Spans : Packet → Fragment → Type 0
Spans p f = (f.key ≡ p.key) × (f.first ≤ p.time) × (p.time ≤ f.last)

module _ (limits : Timeouts) where
  stands_at : (at : Fragment → ℕ) → ((x : List Packet) (f : Fragment) → IsHeap limits x f → Any (λ p. p.time ≡ at f) x)
      → (heaps : List (List Packet)) (F : List Fragment) → AllZip (IsHeap limits) heaps F
      → All (λ f. Any (Stands at f) (flat heaps)) F
  stands_at at reached [] [] h = All-nil (λ f. Any (Stands at f) [])
  stands_at at reached [] (f ∷ F) h = absurd h
  stands_at at reached (x ∷ heaps) [] h = absurd h
  stands_at at reached (x ∷ heaps) (f ∷ F) h =
      let one = found (λ p. p.time ≡ at f) x (reached x f h.0) in
      All-cons (λ g. Any (Stands at g) (x ++ flat heaps)) f F
      (Any-append_left (Stands at f) x (flat heaps)
      (among (Stands at f) x one.0 one.1 (All-contains (λ p. p.key ≡ f.key) x one.0 h.0.one_key one.1, one.2)))
      (All-weaker (λ g. Any (Stands at g) (flat heaps)) (λ g. Any (Stands at g) (x ++ flat heaps))
      (λ g a. Any-append_right (Stands at g) x (flat heaps) a) F
      (stands_at at reached heaps F h.1))

  covers_at : (heaps : List (List Packet)) (F : List Fragment) → AllZip (IsHeap limits) heaps F
      → All (λ p. Any (Spans p) F) (flat heaps)
  covers_at [] [] h = All-nil (λ p. Any (Spans p) [])
  covers_at [] (f ∷ F) h = absurd h
  covers_at (x ∷ heaps) [] h = absurd h
  covers_at (x ∷ heaps) (f ∷ F) h = All-append (λ p. Any (Spans p) (f ∷ F)) x (flat heaps)
      (All-weaker (Contains x) (λ p. Any (Spans p) (f ∷ F))
      (λ p c. Any-append_left (Spans p) (f ∷ []) F (Any-one (Spans p) f (
        sym (All-contains (λ q. q.key ≡ f.key) x p h.0.one_key c),
        All-contains (λ q. f.first ≤ q.time) x p h.0.first.bound c,
        All-contains (λ q. q.time ≤ f.last) x p h.0.last.bound c,
      )))
      x (All-contains_itself x))
      (All-weaker (λ p. Any (Spans p) F) (λ p. Any (Spans p) (f ∷ F)) (λ p a. Any-append_right (Spans p) (f ∷ []) F a)
      (flat heaps) (covers_at heaps F h.1))

  in_all : (P Q : List Packet) (F : List Fragment) (at : Fragment → ℕ) → IsPermutation P Q
      → All (λ f. Any (Stands at f) Q) F → All (λ f. Any (Stands at f) P) F
  in_all P Q F at s h = All-weaker (λ f. Any (Stands at f) Q) (λ f. Any (Stands at f) P)
      (λ f a. Any-permutation (Stands at f) Q P (IsPermutation-sym P Q s) a) F h

pub times : CoversTimes
times limits P F a = (
  in_all limits P (flat a.heaps) F (λ f. f.first) a.whole
      (stands_at limits (λ f. f.first) (λ x f h. h.first.reached) a.heaps F a.each),
  in_all limits P (flat a.heaps) F (λ f. f.last) a.whole
      (stands_at limits (λ f. f.last) (λ x f h. h.last.reached) a.heaps F a.each),
  All-permutation (λ p. Any (Spans p) F) (flat a.heaps) P (IsPermutation-sym P (flat a.heaps) a.whole)
      (covers_at limits a.heaps F a.each),
)
