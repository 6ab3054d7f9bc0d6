-- What stands when fragments are permuted and joined.
use Rattle.std.proofs.Common.{◌≡◌, ℕ, List, ◌∷◌, ◌++◌, length, sum_by, sym, ◌∙◌, ap, subst, arith, append_assoc}
use Rattle.std.proofs.Common.{IsPermutation}
use Rattle.std.proofs.lemmas.List.{nil_from_length}
use Rattle.std.proofs.lemmas.List.Sums.{sum_by-cons}
use Rattle.std.proofs.lemmas.List.Sorted.{sum_by-IsPermutation, length_permutation, IsPermutation-refl}
use Rattle.std.proofs.lemmas.List.Sorted.{IsPermutation-sym, IsPermutation-append_left, IsPermutation-append_comm}
use Rattle.std.proofs.lemmas.List.Sorted.{IsPermutation-middle}
use Rattle.packet_accept.specs.declared.packet.Packet.{Packet}
use Rattle.flow_parts.specs.declared.fragment.Fragment.{Fragment}
use Rattle.flow_parts.specs.declared.timeouts.Timeouts.{Timeouts}
use Rattle.flow_parts.specs.Sharing.{SharesOut}
use Rattle.flow_parts.specs.Laws.{StandsReached, ReachesCounts, ReachesOnward, ReachesPermuted, ReachesTogether}
use Rattle.flow_parts.specs.Laws.{ReachesJoined, ReachesNone}
use Rattle.flow_parts.specs.Reaching.{Reaches}
use Rattle.flow_parts.specs.Reaching.Reaches.{moved, joined, onward}
use Rattle.flow_parts.proofs.Shares.{permuted as shares_permuted, joined as shares_joined}

abbrev packets_in : Fragment → ℕ
packets_in f = f.packets

abbrev octets_in : Fragment → ℕ
octets_in f = f.octets

module _ (limits : Timeouts) where
  pub shared : (P : List Packet) (F G : List Fragment) → Reaches limits F G → SharesOut limits P F
      → SharesOut limits P G
  shared P F G (moved _ _ s) a = shares_permuted limits P P F G (IsPermutation-refl P) s a
  shared P F G (joined f g w rest j u) a = shares_joined limits f g w j u P rest a
  shared P F G (onward _ M _ r q) a = shared P M G q (shared P F M r a)

  pub same_packets : (F G : List Fragment) → Reaches limits F G → sum_by packets_in G ≡ sum_by packets_in F
  same_packets F G (moved _ _ s) = sum_by-IsPermutation packets_in F G s
  same_packets F G (joined f g w rest j u) =
      (let e = u.packets in
      omega (arith, sum_by-cons packets_in f (g ∷ rest), sum_by-cons packets_in g rest, sum_by-cons packets_in w rest))
  same_packets F G (onward _ M _ r q) = same_packets M G q ∙ same_packets F M r

  pub same_octets : (F G : List Fragment) → Reaches limits F G → sum_by octets_in G ≡ sum_by octets_in F
  same_octets F G (moved _ _ s) = sum_by-IsPermutation octets_in F G s
  same_octets F G (joined f g w rest j u) =
      (let e = u.octets in
      omega (arith, sum_by-cons octets_in f (g ∷ rest), sum_by-cons octets_in g rest, sum_by-cons octets_in w rest))
  same_octets F G (onward _ M _ r q) = same_octets M G q ∙ same_octets F M r

  pub beside : (F G rest : List Fragment) → Reaches limits F G → Reaches limits (F ++ rest) (G ++ rest)
  beside F G rest (moved _ _ s) = moved (F ++ rest) (G ++ rest) (IsPermutation-append_left rest F G s)
  beside F G rest (joined f g w others j u) = joined f g w (others ++ rest) j u
  beside F G rest (onward _ M _ r q) = onward (F ++ rest) (M ++ rest) (G ++ rest) (beside F M rest r)
      (beside M G rest q)

  pub itself : (F : List Fragment) → Reaches limits F F
  itself F = moved F F (IsPermutation-refl F)

  pub turned : (F F' G G' : List Fragment) → IsPermutation F F' → IsPermutation G G' → Reaches limits F G
      → Reaches limits F' G'
  turned F F' G G' s t r = onward F' F G' (moved F' F (IsPermutation-sym F F' s)) (onward F G G' r (moved G G' t))

  pub both : (F G R W : List Fragment) → Reaches limits F G → Reaches limits R W → Reaches limits (F ++ R) (G ++ W)
  both F G R W r q = onward (F ++ R) (G ++ R) (G ++ W) (beside F G R r)
      (turned (R ++ G) (G ++ R) (W ++ G) (G ++ W) (IsPermutation-append_comm R G) (IsPermutation-append_comm W G)
      (beside R W G q))

  -- what left the front of a list stands behind others
  pub put_behind : (f : Fragment) (taken out F G : List Fragment) → Reaches limits (f ∷ F) (out ++ G)
      → Reaches limits (f ∷ (taken ++ F)) ((taken ++ out) ++ G)
  put_behind f taken out F G r =
      subst (λ (l : List Fragment). Reaches limits (f ∷ (taken ++ F)) l) (sym (append_assoc taken out G))
      (turned (taken ++ f ∷ F) (f ∷ (taken ++ F)) (taken ++ (out ++ G)) (taken ++ (out ++ G))
      (IsPermutation-middle taken f F) (IsPermutation-refl (taken ++ (out ++ G)))
      (both taken taken (f ∷ F) (out ++ G) (itself taken) r))

  pub none_left : (F G : List Fragment) → Reaches limits F G → length G ≡ 0 → length F ≡ 0
  none_left F G (moved _ _ s) e = sym (length_permutation F G s) ∙ e
  none_left F G (joined f g w rest j u) e = absurd (omega (arith, e))
  none_left F G (onward _ M _ r q) e = none_left F M r (none_left M G q e)

  pub none_made : (F G : List Fragment) → Reaches limits F G → length F ≡ 0 → length G ≡ 0
  none_made F G (moved _ _ s) e = length_permutation F G s ∙ e
  none_made F G (joined f g w rest j u) e = absurd (omega (arith, e))
  none_made F G (onward _ M _ r q) e = none_made M G q (none_made F M r e)

pub stands_reached : StandsReached
stands_reached limits P F G r a = shared limits P F G r a

pub reaches_counts : ReachesCounts
reaches_counts limits F G r = (same_packets limits F G r, same_octets limits F G r)

pub reaches_onward : ReachesOnward
reaches_onward = (λ limits F. itself limits F, λ limits F G W r q. onward F G W r q)

pub reaches_permuted : ReachesPermuted
reaches_permuted limits F F' G G' s t r = turned limits F F' G G' s t r

pub reaches_together : ReachesTogether
reaches_together limits F G R W r q = both limits F G R W r q

pub reaches_joined : ReachesJoined
reaches_joined limits F G W rest f g w j u r here there =
    onward F G W r
    (onward G (f ∷ g ∷ rest) W (moved G (f ∷ g ∷ rest) here)
    (onward (f ∷ g ∷ rest) (w ∷ rest) W (joined f g w rest j u)
    (moved (w ∷ rest) W (IsPermutation-sym W (w ∷ rest) there))))

pub reaches_none : ReachesNone
reaches_none limits F G r = (
  λ e. nil_from_length G (none_made limits F G r (ap length e)),
  λ e. nil_from_length F (none_left limits F G r (ap length e)),
)
