-- The fragments of some entries, of which one takes a fragment in or is emptied.
use Rattle.std.proofs.Common.{◌≡◌, inl, inr, ℕ, zero, suc, ◌+◌, ◌*◌, ◌^◌, ◌<◌, ◌≤◌, List, [], ◌∷◌, ◌++◌, length}
use Rattle.std.proofs.Common.{flat_map}
use Rattle.std.proofs.Common.{Option, Some, None, IsNone, IfSome, option_to_list, set, refl, ap, sym, ◌∙◌, subst, arith}
use Rattle.std.proofs.Common.{IsPermutation}
use Rattle.std.proofs.lemmas.List.Concat.{flat_map-cons}
use Rattle.std.proofs.lemmas.List.Sums.{sum_by-append}
use Rattle.std.proofs.lemmas.List.Sorted.{IsPermutation-refl, IsPermutation-sym, IsPermutation-trans}
use Rattle.std.proofs.lemmas.List.Sorted.{IsPermutation-append_right}
use Rattle.flow_parts.specs.declared.fragment.Fragment.{Fragment}
use Rattle.flow_parts.specs.declared.timeouts.Timeouts.{Timeouts}
use Rattle.flow_parts.specs.Joining.{IsJoinable}
use Rattle.flow_parts.specs.Parts.{IsJoined}
use Rattle.flow_parts.specs.Reaching.{Reaches}
use Rattle.flow_parts.proofs.Reaching.{itself, turned, reaches_joined}
use Rattle.cache_face.specs.declared.metered.How.{How}
use Rattle.cache_face.specs.declared.metered.How.TheVariants.{Joined, Opened, Replaced, PassedBy}
use Rattle.cache_face.specs.Choice.{IsChoice, Takes, entry_at}
use Rattle.cache_face.specs.Keeping.{IsBounded, IsSmall, packet_count}
use Rattle.cache_face.proofs.Apart.{apart, anew, element_at, moved, others}
use Rattle.cache_face.proofs.Keeping.{joins_in}

abbrev listed : Option Fragment → List Fragment
listed entry = option_to_list entry

-- the fragments of the entries that aren't empty
abbrev pub parts_of : List (Option Fragment) → List Fragment
parts_of entries = flat_map (λ (entry : Option Fragment). option_to_list entry) entries

abbrev count_of : Fragment → ℕ
count_of part = part.packets

none_listed : (entry : Option Fragment) → IsNone entry → listed entry ≡ []
none_listed None none = refl
none_listed (Some part) none = cc

-- where all entries are empty there are none
pub none_open : (entries : List (Option Fragment))
    → ((place : ℕ) → place < length entries → IsNone (entry_at entries place)) → parts_of entries ≡ []
none_open [] none = refl
none_open (entry ∷ entries) none = flat_map-cons listed entry entries
    ∙ ap (λ l. l ++ parts_of entries) (none_listed entry (none 0 (omega arith)))
    ∙ none_open entries (λ place low. none (suc place) (omega (arith, low)))

-- the fragment of the first entry that isn't empty is the first of them
pub first_open : (entries : List (Option Fragment)) (found : ℕ)
    → ((place : ℕ) → place < found → IsNone (entry_at entries place)) → found < length entries
    → parts_of entries ≡ listed (entry_at entries found) ++ parts_of (set entries found None)
first_open [] found none low = absurd (omega (arith, low))
first_open (entry ∷ entries) zero none low = flat_map-cons listed entry entries
    ∙ ap (λ l. listed entry ++ l) (sym (flat_map-cons listed None entries))
first_open (entry ∷ entries) (suc found) none low =
    let empty : listed entry ≡ [] = none_listed entry (none 0 (omega arith)) in
    flat_map-cons listed entry entries ∙ ap (λ l. l ++ parts_of entries) empty
    ∙ first_open entries found (λ place less. none (suc place) (omega (arith, less))) (omega (arith, low))
    ∙ ap (λ l. listed (entry_at entries found) ++ l)
    (sym (flat_map-cons listed entry (set entries found None) ∙ ap (λ l. l ++ parts_of (set entries found None)) empty))

-- a choice is of one of the entries
pub choice_below : (limits : Timeouts) (entries : List (Option Fragment)) (own kept : Fragment) (how : How) (place : ℕ)
    (out : Option Fragment)
    → IsChoice limits entries own how place out kept → place < length entries
choice_below limits entries own kept Joined place out c = c.lowest.below
choice_below limits entries own kept Replaced place out (inl c) = c.lowest.below
choice_below limits entries own kept Replaced place out (inr c) = c.oldest.below
choice_below limits entries own kept Opened place out c = c.lowest.below
choice_below limits entries own kept PassedBy place out c = absurd c

module _ (limits : Timeouts) (entries : List (Option Fragment)) (own kept : Fragment) (place : ℕ)
    (there : place < length entries) where
  rest : List Fragment
  rest = flat_map listed (others entries place)

  written : List (Option Fragment)
  written = set entries place (Some kept)

  after : IsPermutation (parts_of written) (kept ∷ rest)
  unfolding rest written
  after = anew listed entries place (entry_at entries place) (Some kept) (element_at entries place None there)

  -- the own fragment comes behind what was there
  fronted : IsPermutation (own ∷ parts_of entries) (listed (entry_at entries place) ++ (own ∷ rest))
  unfolding rest
  fronted =
      let others : List Fragment = flat_map listed (others entries place) in
      IsPermutation-trans (own ∷ parts_of entries) (own ∷ (listed (entry_at entries place) ++ others))
      (listed (entry_at entries place) ++ (own ∷ others))
      (IsPermutation-append_right (own ∷ []) (parts_of entries) (listed (entry_at entries place) ++ others)
      (apart listed entries place (entry_at entries place) (element_at entries place None there)))
      (moved (own ∷ []) (listed (entry_at entries place)) others)

  took : (old : Fragment) → entry_at entries place ≡ Some old → IsJoinable limits old own → IsJoined old own kept
      → Reaches limits (own ∷ parts_of entries) (parts_of written)
  took old is joinable joined =
      reaches_joined limits (own ∷ parts_of entries) (own ∷ parts_of entries) (parts_of written) rest old own kept
      joinable joined (itself limits (own ∷ parts_of entries))
      (subst (λ e. IsPermutation (own ∷ parts_of entries) (listed e ++ (own ∷ rest))) is fronted) after

  opened : kept ≡ own
      → Reaches limits (own ∷ parts_of entries) (listed (entry_at entries place) ++ parts_of written)
  opened is = turned limits (own ∷ parts_of entries) (own ∷ parts_of entries) (own ∷ parts_of entries)
      (listed (entry_at entries place) ++ parts_of written)
      (IsPermutation-refl (own ∷ parts_of entries))
      (IsPermutation-trans (own ∷ parts_of entries) (listed (entry_at entries place) ++ (own ∷ rest))
      (listed (entry_at entries place) ++ parts_of written) fronted
      (IsPermutation-append_right (listed (entry_at entries place)) (own ∷ rest) (parts_of written)
      (subst (λ k. IsPermutation (k ∷ rest) (parts_of written)) is
      (IsPermutation-sym (parts_of written) (kept ∷ rest) after))))
      (itself limits (own ∷ parts_of entries))

-- where an entry takes a fragment in, what the entries have afterwards, and what is put out, is reached
pub reached_at : (limits : Timeouts) (entries : List (Option Fragment)) (own kept : Fragment) (place : ℕ)
    (out : Option Fragment) → place < length entries → Takes limits own (entry_at entries place) out kept
    → Reaches limits (own ∷ parts_of entries) (option_to_list out ++ parts_of (set entries place (Some kept)))
unfolding written
reached_at limits entries own kept place out there (inl joins) =
    let found = joins_in limits own kept (entry_at entries place) joins.0 in
    subst (λ o. Reaches limits (own ∷ parts_of entries) (option_to_list o ++ parts_of (set entries place (Some kept))))
    (sym joins.1) (took limits entries own kept place there found.0 found.1 found.2 found.3)
reached_at limits entries own kept place out there (inr opens) =
    subst (λ o. Reaches limits (own ∷ parts_of entries) (option_to_list o ++ parts_of (set entries place (Some kept))))
    (sym opens.0) (opened limits entries own kept place there opens.1)

-- a fragment has no more packets than all
part_count : (entries : List (Option Fragment)) (place : ℕ) (old : Fragment) → entry_at entries place ≡ Some old
    → old.packets ≤ packet_count (parts_of entries)
part_count [] place old is = (let none : None ≡ Some old = is in cc)
part_count (entry ∷ entries) zero old is =
    let sum : packet_count (parts_of (entry ∷ entries)) ≡ packet_count (listed entry)
    + packet_count (parts_of entries) =
    ap packet_count (flat_map-cons listed entry entries) ∙ sum_by-append count_of (listed entry) (parts_of entries) in
    let one : packet_count (listed entry) ≡ 0 + old.packets = ap (λ e. packet_count (listed e)) is in
    omega (arith, sum, one)
part_count (entry ∷ entries) (suc place) old is =
    let sum : packet_count (parts_of (entry ∷ entries)) ≡ packet_count (listed entry)
    + packet_count (parts_of entries) =
    ap packet_count (flat_map-cons listed entry entries) ∙ sum_by-append count_of (listed entry) (parts_of entries) in
    let next = part_count entries place old is in
    omega (arith, sum, next)

-- what an entry becomes is small and bounded, and so is what is put out
pub kept_fits : (limits : Timeouts) (entries : List (Option Fragment)) (own kept : Fragment) (place : ℕ)
    (out : Option Fragment) → own.packets ≡ 1 → own.octets < 2 ^ 24 → packet_count (parts_of entries) + 1 ≤ 2 ^ 32
    → IfSome (entry_at entries place) IsBounded → Takes limits own (entry_at entries place) out kept
    → IsSmall kept × IsBounded kept × IfSome out IsBounded
kept_fits limits entries own kept place out one few room bounded (inl joins) =
    let found = joins_in limits own kept (entry_at entries place) joins.0 in
    let old : Fragment = found.0 in
    let below = part_count entries place old found.1 in
    let was : IsBounded old = subst (λ e. IfSome e IsBounded) found.1 bounded in
    let packets = found.3.packets in
    let octets = found.3.octets in (
      (omega (arith, below, room, packets, one), omega (arith, below, room, was, octets, few)),
      omega (arith, was, packets, octets, one, few),
      subst (λ o. IfSome o IsBounded) (sym joins.1) tt,
    )
kept_fits limits entries own kept place out one few room bounded (inr opens) =
    subst (λ k. IsSmall k × IsBounded k × IfSome out IsBounded) (sym opens.1) (
      (omega (arith, one), omega (arith, few)),
      omega (arith, one, few),
      subst (λ o. IfSome o IsBounded) (sym opens.0) bounded,
    )
