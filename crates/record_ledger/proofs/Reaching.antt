-- What stands when fragments are permuted and joined.
use Rattle.std.proofs.Common.{◌≡◌, ℕ, ◌+◌, ◌<◌, List, [], ◌∷◌, ◌++◌, length, take, sum_by, flat_map, map, refl, sym, ap}
use Rattle.std.proofs.Common.{◌∙◌, subst, arith, append_assoc, length-append, All, IsPermutation}
use Rattle.std.specs.List.{AllZip}
use Rattle.std.proofs.lemmas.List.Elements.{All-append, All-weaker, All-contains, All-take, Contains-push}
use Rattle.std.proofs.lemmas.List.Sums.{sum_by-append, sum_by-cons}
use Rattle.std.proofs.lemmas.List.Sorted.{IsPermutation-refl, IsPermutation-sym}
use Rattle.std.proofs.lemmas.List.Sorted.{IsPermutation-trans, IsPermutation-to_front, IsPermutation-append_left}
use Rattle.flow_parts.specs.declared.fragment.Fragment.{Fragment}
use Rattle.flow_parts.specs.declared.timeouts.Timeouts.{Timeouts}
use Rattle.packet_accept.specs.Extremes.{IsLeast, IsGreatest}
use Rattle.flow_parts.specs.Union.{IsUnion}
use Rattle.flow_parts.specs.Joining.{IsJoinable}
use Rattle.flow_parts.specs.Parts.{IsJoined}
use Rattle.flow_parts.proofs.Members.{All-one, IsLeast-append, IsGreatest-append, IsUnion-append, IsLeast-one}
use Rattle.flow_parts.proofs.Members.{IsGreatest-one, IsUnion-one}
use Rattle.packet_accept.proofs.Permuted.{flat_map-permutation}
use Rattle.flow_parts.proofs.Permuted.{AllZip-permutation}
use Rattle.record_ledger.specs.Regrouping.{IsTogether}
use Rattle.flow_parts.specs.Reaching.{Reaches}
use Rattle.flow_parts.proofs.Reaching.{same_packets, same_octets, beside}
use Rattle.flow_parts.specs.Reaching.Reaches.{moved, joined, onward}

abbrev packets_in : Fragment → ℕ
packets_in f = f.packets

abbrev octets_in : Fragment → ℕ
octets_in f = f.octets

abbrev flat : List (List Fragment) → List Fragment
flat groups = flat_map (λ (group : List Fragment). group) groups

-- the fragments regroup the parts, as the records' fragments do
pub record IsGrouped (parts wholes : List Fragment) : Type 0 where
  pub groups : List (List Fragment)
  pub whole : IsPermutation parts (flat groups)
  pub each : AllZip IsTogether groups wholes

together_one : (f : Fragment) → IsTogether (f ∷ []) f
together_one f = record {
  some = λ e. cc;
  one_key = All-one (λ g. g.key ≡ f.key) f refl;
  packets = omega arith;
  octets = omega arith;
  flags = IsUnion-one (λ (g : Fragment). g.flags) f;
  first = IsLeast-one (λ (g : Fragment). g.first) f;
  last = IsGreatest-one (λ (g : Fragment). g.last) f;
}

together_joined : (limits : Timeouts) (F G : List Fragment) (f g w : Fragment) → IsJoinable limits f g → IsJoined f g w
    → IsTogether F f → IsTogether G g → IsTogether (F ++ G) w
together_joined limits F G f g w j u a b = record {
  some = λ e. (let none = ap length e in let reached = a.first.reached in let below = reached.2 in
      absurd (omega (arith, length-append F G)));
  one_key = All-append (λ p. p.key ≡ w.key) F G
      (All-weaker (λ p. p.key ≡ f.key) (λ p. p.key ≡ w.key) (λ p e. e ∙ sym u.key) F a.one_key)
      (All-weaker (λ p. p.key ≡ g.key) (λ p. p.key ≡ w.key) (λ p e. e ∙ sym j.one_key ∙ sym u.key) G b.one_key);
  packets =
      (let e = u.packets in let x = a.packets in let y = b.packets in omega (arith, sum_by-append packets_in F G));
  octets = (let e = u.octets in let x = a.octets in let y = b.octets in omega (arith, sum_by-append octets_in F G));
  flags = subst (λ n. IsUnion (λ (p : Fragment). p.flags) (F ++ G) n) (sym u.flags)
      (IsUnion-append (λ (p : Fragment). p.flags) F G f.flags g.flags a.flags b.flags);
  first = subst (λ n. IsLeast (λ (p : Fragment). p.first) (F ++ G) n) (sym u.first)
      (IsLeast-append (λ (p : Fragment). p.first) F G f.first g.first a.first b.first);
  last = subst (λ n. IsGreatest (λ (p : Fragment). p.last) (F ++ G) n) (sym u.last)
      (IsGreatest-append (λ (p : Fragment). p.last) F G f.last g.last a.last b.last);
}

each_alone : (F : List Fragment) → AllZip IsTogether (map (λ f. f ∷ []) F) F
each_alone [] = tt
each_alone (f ∷ F) = (together_one f, each_alone F)

same : (F G : List Fragment) → F ≡ G → IsPermutation F G
same F G e = subst (λ l. IsPermutation F l) e (IsPermutation-refl F)

alone_flat : (F : List Fragment) → flat (map (λ f. f ∷ []) F) ≡ F
alone_flat [] = refl
alone_flat (f ∷ F) = ap (λ l. f ∷ l) (alone_flat F)

-- the parts regroup themselves
pub grouped_start : (F : List Fragment) → IsGrouped F F
grouped_start F =
    record {
      groups = map (λ f. f ∷ []) F;
      whole = same F (flat (map (λ f. f ∷ []) F)) (sym (alone_flat F));
      each =
          each_alone F;
    }

module _ (limits : Timeouts) where
  grouped_joined : (A : List Fragment) (f g w : Fragment) (F : List Fragment) → IsJoinable limits f g → IsJoined f g w
      → (groups : List (List Fragment)) → IsPermutation A (flat groups) → AllZip IsTogether groups (f ∷ g ∷ F)
      → IsGrouped A (w ∷ F)
  grouped_joined A f g w F j u [] s h = absurd h
  grouped_joined A f g w F j u (x ∷ []) s h = absurd h.1
  grouped_joined A f g w F j u (x ∷ y ∷ groups) s h = record {
    groups = (x ++ y) ∷ groups;
    whole = subst (λ l. IsPermutation A l) (sym (append_assoc x y (flat groups))) s;
    each = (together_joined limits x y f g w j u h.0 h.1.0, h.1.1);
  }

  pub grouped : (A F G : List Fragment) → Reaches limits F G → IsGrouped A F → IsGrouped A G
  grouped A F G (moved _ _ s) a =
      let z = AllZip-permutation IsTogether a.groups F G a.each s in
      record {
        groups = z.0;
        whole = IsPermutation-trans A (flat a.groups) (flat z.0) a.whole
            (flat_map-permutation (λ (group : List Fragment). group) a.groups z.0 z.1);
        each = z.2;
      }
  grouped A F G (joined f g w rest j u) a = grouped_joined A f g w rest j u a.groups a.whole a.each
  grouped A F G (onward _ M _ r q) a = grouped A M G q (grouped A F M r a)

  -- the top of a stack joined with a fragment
  pub taken_on : (start : List Fragment) (w top v : Fragment) (s t : List Fragment) → s ≡ t ++ top ∷ []
      → IsJoinable limits top w → IsJoined top w v
      → Reaches limits start (w ∷ s) → Reaches limits start (v ∷ t)
  taken_on start w top v s t e j u r =
      let turned : IsPermutation (w ∷ s) (top ∷ w ∷ t) =
      subst (λ l. IsPermutation (w ∷ l) (top ∷ w ∷ t)) (sym e) (IsPermutation-to_front (w ∷ t) top) in
      onward start (w ∷ s) (v ∷ t) r
      (onward (w ∷ s) (top ∷ w ∷ t) (v ∷ t) (moved (w ∷ s) (top ∷ w ∷ t) turned) (joined top w v t j u))

  -- the join of the two has room
  pub packets_fit : (part : Fragment) (S : List Fragment) (w top : Fragment) (s t : List Fragment) (n : ℕ)
      → s ≡ t ++ top ∷ []
      → Reaches limits (part ∷ S) (w ∷ s) → part.packets + sum_by packets_in S < n → top.packets + w.packets < n
  packets_fit part S w top s t n e r h =
      let all = same_packets limits (part ∷ S) (w ∷ s) r in
      let parts : sum_by packets_in s ≡ sum_by packets_in t + sum_by packets_in (top ∷ []) =
      ap (sum_by packets_in) e ∙ sum_by-append packets_in t (top ∷ []) in
      omega (arith, sum_by-cons packets_in part S, sum_by-cons packets_in w s, sum_by-cons packets_in top [])

  pub octets_fit : (part : Fragment) (S : List Fragment) (w top : Fragment) (s t : List Fragment) (n : ℕ)
      → s ≡ t ++ top ∷ []
      → Reaches limits (part ∷ S) (w ∷ s) → part.octets + sum_by octets_in S < n → top.octets + w.octets < n
  octets_fit part S w top s t n e r h =
      let all = same_octets limits (part ∷ S) (w ∷ s) r in
      let parts : sum_by octets_in s ≡ sum_by octets_in t + sum_by octets_in (top ∷ []) =
      ap (sum_by octets_in) e ∙ sum_by-append octets_in t (top ∷ []) in
      omega (arith, sum_by-cons octets_in part S, sum_by-cons octets_in w s, sum_by-cons octets_in top [])

  -- a fragment of a sorted list joined into the stack before the rest
  pub stacked : (start S : List Fragment) (part w : Fragment) (s rest : List Fragment)
      → Reaches limits start (S ++ part ∷ rest)
      → Reaches limits (part ∷ S) (w ∷ s) → Reaches limits start ((s ++ w ∷ []) ++ rest)
  stacked start S part w s rest r q =
      let before : IsPermutation (S ++ part ∷ rest) ((part ∷ S) ++ rest) =
      subst (λ l. IsPermutation l ((part ∷ S) ++ rest)) (append_assoc S (part ∷ []) rest)
      (IsPermutation-append_left rest (S ++ part ∷ []) (part ∷ S) (IsPermutation-to_front S part)) in
      let after : IsPermutation ((w ∷ s) ++ rest) ((s ++ w ∷ []) ++ rest) =
      IsPermutation-append_left rest (w ∷ s) (s ++ w ∷ [])
      (IsPermutation-sym (s ++ w ∷ []) (w ∷ s) (IsPermutation-to_front s w)) in
      onward start (S ++ part ∷ rest) ((s ++ w ∷ []) ++ rest) r
      (onward (S ++ part ∷ rest) ((part ∷ S) ++ rest) ((s ++ w ∷ []) ++ rest)
      (moved (S ++ part ∷ rest) ((part ∷ S) ++ rest) before)
      (onward ((part ∷ S) ++ rest) ((w ∷ s) ++ rest) ((s ++ w ∷ []) ++ rest) (beside limits (part ∷ S) (w ∷ s) rest q)
      (moved ((w ∷ s) ++ rest) ((s ++ w ∷ []) ++ rest) after)))

-- what holds of each element of a list holds of the top of its front
pub front_holds : (P : Fragment → Type 0) (S s t : List Fragment) (top : Fragment) (n : ℕ) → s ≡ t ++ top ∷ []
    → s ≡ take n S → All P S → P top
front_holds P S s t top n e front h = All-contains P (t ++ top ∷ []) top
    (subst (All P) (sym front ∙ e) (All-take P n S h)) (Contains-push t top)

module _ (limits : Timeouts) where
  -- a fragment and the stack before it have room together
  pub packets_stacked : (start S : List Fragment) (part : Fragment) (rest : List Fragment) (n : ℕ)
      → Reaches limits start (S ++ part ∷ rest)
      → sum_by packets_in start < n → part.packets + sum_by packets_in S < n
  packets_stacked start S part rest n r h =
      let all = same_packets limits start (S ++ part ∷ rest) r in
      omega (arith, sum_by-append packets_in S (part ∷ rest), sum_by-cons packets_in part rest)

  pub octets_stacked : (start S : List Fragment) (part : Fragment) (rest : List Fragment) (n : ℕ)
      → Reaches limits start (S ++ part ∷ rest)
      → sum_by octets_in start < n → part.octets + sum_by octets_in S < n
  octets_stacked start S part rest n r h =
      let all = same_octets limits start (S ++ part ∷ rest) r in
      omega (arith, sum_by-append octets_in S (part ∷ rest), sum_by-cons octets_in part rest)
