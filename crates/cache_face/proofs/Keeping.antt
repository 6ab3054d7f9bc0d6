-- The steps by which a cache keeps what it keeps.
use Rattle.std.proofs.Common.{◌≡◌, ◌≢◌, inl, inr, ℕ, zero, suc, ◌+◌, ◌*◌, ◌/◌, ◌≤◌, ◌^◌, List, [], ◌∷◌, ◌++◌, length}
use Rattle.std.proofs.Common.{flat_map, sum_by, Option, Some, None, MatchOption, option_to_list, refl, ap, sym, ◌∙◌}
use Rattle.std.proofs.Common.{subst, arith, set, get_or, All, IsPermutation, append_assoc}
use Rattle.std.proofs.lemmas.List.{append-nil, set_comm, length-set, get_or-set_same, get_or-set_other}
use Rattle.std.proofs.lemmas.List.Concat.{flat_map-cons}
use Rattle.std.proofs.lemmas.List.Elements.{All-append, All-weaker, All-head, All-tail, All-nil, All-cons, All-set}
use Rattle.std.proofs.lemmas.List.Elements.{All-push}
use Rattle.std.proofs.lemmas.List.Sums.{sum_by-cons, sum_by-append, sum_by_push}
use Rattle.std.proofs.lemmas.List.Sorted.{IsPermutation-refl, IsPermutation-sym, IsPermutation-trans}
use Rattle.std.proofs.lemmas.List.Sorted.{IsPermutation-append_left, IsPermutation-append_right}
use Rattle.std.proofs.lemmas.List.Sorted.{IsPermutation-append_comm, All-permutation}
use mathlib.Core.Logic.{dite}
use native.Mathlib.Decide.{ℕ_discrete}
use mathlib.Core.Option.{some}
use lib.ListN.{get_elem?}
use Rattle.flow_key.specs.Key.{set_number}
use Rattle.flow_parts.specs.declared.fragment.Fragment.{Fragment}
use Rattle.flow_parts.specs.declared.timeouts.Timeouts.{Timeouts}
use Rattle.flow_parts.specs.Parts.{part_words}
use Rattle.flow_parts.specs.Joining.{IsJoinable}
use Rattle.flow_parts.specs.Parts.{IsJoined}
use Rattle.flow_parts.specs.Reaching.{Reaches}
use Rattle.flow_parts.proofs.Reaching.{same_packets, same_octets, beside, itself, turned, reaches_joined}
use Rattle.cache_face.specs.Keeping.{Keeps, IsWhole, IsSmall, IsEmptyContent, IsBounded, IsInSet, IsWithin}
use Rattle.cache_face.specs.Keeping.{entry_of, parts_in, taken_in, handed_in, seen_in, packet_count, IsBorne}
use Rattle.cache_face.specs.Laws.{CanTake, IsUnused, KeepsOpening, KeepsSplit, KeepsMerged, KeepsTaken, KeepsPassed}
use Rattle.cache_face.specs.Laws.{KeptAtEnd, TakenIsSmall, KeepsSeen, BacksTaken, BacksSeen, BacksMerged, KeptIsBacked}
use Rattle.cache_face.specs.Laws.{EmptyIsBacked}
use Rattle.cache_face.specs.Notes.{Note, unused_note, first_note, empty_note, merged_note, note_with, note_seeing}
use Rattle.cache_face.proofs.Apart.{same, others, apart, anew, snoc, sum_anew, sum_snoc, all_at, all_others, elsewhere}
use Rattle.cache_face.proofs.Apart.{below}
use Rattle.cache_face.proofs.Contents.{words_show, empty_shows, none_some, some_is}

abbrev taken_of : Note → List Fragment
taken_of note = note.taken

abbrev handed_of : Note → List Fragment
handed_of note = note.handed

abbrev seen_of : Note → List Fragment
seen_of note = note.seen

abbrev seats_of : Note → ℕ
seats_of note = note.seats

abbrev count_of : Fragment → ℕ
count_of part = part.packets

abbrev octets_of : Fragment → ℕ
octets_of part = part.octets

abbrev shown_by : List ℕ → List Fragment
shown_by content = option_to_list (entry_of content)

-- the note is within bounds with one fragment more
within_taken : (note : Note) (own : Fragment) (out : Option Fragment) → IsWithin note → CanTake note own
    → IsWithin (note_with note own out)
within_taken note own out w can =
    let sum = sum_by_push count_of note.taken own in
    let room = can.room in
    let single = can.single in record {
      count = omega (arith, sum, room, single);
      each = All-push IsBounded note.taken own w.each can.bounded;
    }

-- all notes together have so many packets
packets_few : (notes : List Note) → All IsWithin notes → packet_count (taken_in notes) ≤ sum_by seats_of notes * 2 ^ 32
packets_few [] h = omega arith
packets_few (n ∷ ns) h =
    let next = packets_few ns (All-tail IsWithin n ns h) in
    let first = (All-head IsWithin n ns h).count in
    let sum = sum_by-cons seats_of n ns in
    let many : packet_count (taken_in (n ∷ ns)) ≡ packet_count n.taken + packet_count (taken_in ns) =
    ap packet_count (flat_map-cons taken_of n ns) ∙ sum_by-append count_of n.taken (taken_in ns) in
    omega (arith, next, first, many, sum)

all_bounded : (notes : List Note) → All IsWithin notes → All IsBounded (taken_in notes)
all_bounded [] h = All-nil IsBounded
all_bounded (n ∷ ns) h = subst (All IsBounded) (sym (flat_map-cons taken_of n ns))
    (All-append IsBounded n.taken (taken_in ns) (All-head IsWithin n ns h).each
    (all_bounded ns (All-tail IsWithin n ns h)))

octets_few : (ps : List Fragment) → All IsBounded ps → sum_by octets_of ps + length ps ≤ packet_count ps * 2 ^ 24
octets_few [] h = omega arith
octets_few (p ∷ ps) h =
    let next = octets_few ps (All-tail IsBounded p ps h) in
    let first = All-head IsBounded p ps h in
    let octets = sum_by-cons octets_of p ps in
    let many = sum_by-cons count_of p ps in omega (arith, next, first, octets, many)

-- where there are packets there is a fragment
some_parts : (ps : List Fragment) → 1 ≤ packet_count ps → 1 ≤ length ps
some_parts [] h = absurd (omega (arith, h))
some_parts (p ∷ ps) h = omega arith

-- a fragment that is reached with others from what the notes took is small
small_of : (limits : Timeouts) (notes : List Note) (kept : Fragment) (rest : List Fragment) → All IsWithin notes
    → sum_by seats_of notes ≤ 64
    → Reaches limits (taken_in notes) (kept ∷ rest) → IsSmall kept
small_of limits notes kept rest within few reached =
    let many = packets_few notes within in
    let octets = octets_few (taken_in notes) (all_bounded notes within) in
    let one = kept.counted in
    let c : kept.packets + packet_count rest ≡ packet_count (taken_in notes) =
    sym (sum_by-cons count_of kept rest) ∙ same_packets limits (taken_in notes) (kept ∷ rest) reached in
    let o : kept.octets + sum_by octets_of rest ≡ sum_by octets_of (taken_in notes) =
    sym (sum_by-cons octets_of kept rest) ∙ same_octets limits (taken_in notes) (kept ∷ rest) reached in
    let some_part = some_parts (taken_in notes) (omega (arith, c, one)) in
    (omega (arith, c, many, few), omega (arith, o, octets, many, few, some_part))

pub taken_is_small : TakenIsSmall
taken_is_small note own can =
    let room = can.room in
    let bounded = can.bounded in (omega (arith, room), omega (arith, room, bounded))

-- pieces put together in another order
pub swapped : {B : Type 0} (a t r : List B) → IsPermutation ((a ++ t) ++ r) ((a ++ r) ++ t)
swapped a t r = subst (λ l. IsPermutation l ((a ++ r) ++ t)) (sym (append_assoc a t r))
    (subst (λ l. IsPermutation (a ++ (t ++ r)) l) (sym (append_assoc a r t))
    (IsPermutation-append_right a (t ++ r) (r ++ t) (IsPermutation-append_comm t r)))

-- where an element's pieces grow, so do all
grown : {A B : Type 0} (f : A → List B) (l : List A) (i : ℕ) (a b : A) (t : List B) → get_elem? l i ≡ some a
    → f b ≡ f a ++ t
    → IsPermutation (flat_map f (set l i b)) (flat_map f l ++ t)
grown f l i a b t e is =
    let rest : List _ = flat_map f (others l i) in
    IsPermutation-trans (flat_map f (set l i b)) (f b ++ rest) (flat_map f l ++ t) (anew f l i a b e)
    (subst (λ x. IsPermutation (x ++ rest) (flat_map f l ++ t)) (sym is)
    (IsPermutation-trans ((f a ++ t) ++ rest) ((f a ++ rest) ++ t) (flat_map f l ++ t) (swapped (f a) t rest)
    (IsPermutation-append_left t (f a ++ rest) (flat_map f l)
    (IsPermutation-sym (flat_map f l) (f a ++ rest) (apart f l i a e)))))

-- where an element's pieces stay, so do all
kept_pieces : {A B : Type 0} (f : A → List B) (l : List A) (i : ℕ) (a b : A) → get_elem? l i ≡ some a → f b ≡ f a
    → IsPermutation (flat_map f (set l i b)) (flat_map f l)
kept_pieces f l i a b e is = subst (λ x. IsPermutation (flat_map f (set l i b)) x) (append-nil (flat_map f l))
    (grown f l i a b [] e (is ∙ sym (append-nil (f a))))

-- what is borne out stays so when more is put in, and in any order
borne_more : (limits : Timeouts) (taken taken' more : List Fragment) (part : Fragment)
    → IsPermutation taken' (taken ++ more) → IsBorne limits taken part → IsBorne limits taken' part
borne_more limits taken taken' more part is borne = (
  borne.0 ++ more,
  turned limits (taken ++ more) taken' (part ∷ (borne.0 ++ more)) (part ∷ (borne.0 ++ more))
      (IsPermutation-sym taken' (taken ++ more) is) (IsPermutation-refl (part ∷ (borne.0 ++ more)))
      (beside limits taken (part ∷ borne.0) more borne.1),
)

borne_same : (limits : Timeouts) (taken taken' : List Fragment) (part : Fragment) → IsPermutation taken' taken
    → IsBorne limits taken part → IsBorne limits taken' part
borne_same limits taken taken' part is borne = (
  borne.0,
  turned limits taken taken' (part ∷ borne.0) (part ∷ borne.0) (IsPermutation-sym taken' taken is)
      (IsPermutation-refl (part ∷ borne.0)) borne.1,
)

-- so is all that was seen
all_borne : (limits : Timeouts) (taken taken' seen seen' : List Fragment) → IsPermutation seen' seen
    → ((part : Fragment) → IsBorne limits taken part → IsBorne limits taken' part)
    → All (IsBorne limits taken) seen → All (IsBorne limits taken') seen'
all_borne limits taken taken' seen seen' is still borne =
    All-permutation (IsBorne limits taken') seen seen' (IsPermutation-sym seen' seen is)
    (All-weaker (IsBorne limits taken) (IsBorne limits taken') still seen borne)

module _ (limits : Timeouts) (sets : ℕ) (contents : List (List ℕ)) (notes : List Note) (i : ℕ) (note : Note)
    (own : Fragment)
    (keeps : Keeps limits sets contents notes) (at : get_elem? notes i ≡ some note) (can : CanTake note own) where
  T : List Fragment
  T = taken_in notes

  G : List Fragment
  G = parts_in contents

  H : List Fragment
  H = handed_in notes

  noted : Option Fragment → List Note
  noted out = set notes i (note_with note own out)

  -- what was put in and what was handed out grow
  more_taken : (out : Option Fragment) → IsPermutation (taken_in (noted out)) (T ++ own ∷ [])
  unfolding T noted
  more_taken out = grown taken_of notes i note (note_with note own out) (own ∷ []) at refl

  more_handed : (out : Option Fragment) → IsPermutation (handed_in (noted out)) (H ++ option_to_list out)
  unfolding H noted
  more_handed out = grown handed_of notes i note (note_with note own out) (option_to_list out) at refl

  all_reached : Reaches limits (T ++ own ∷ []) ((G ++ H) ++ own ∷ [])
  unfolding T G H
  all_reached = beside limits (taken_in notes) (parts_in contents ++ handed_in notes) (own ∷ []) keeps.regrouped

  all_within : (out : Option Fragment) → All IsWithin (noted out)
  unfolding noted
  all_within out = All-set IsWithin notes i (note_with note own out)
      (within_taken note own out (all_at IsWithin notes i note keeps.each at) can) keeps.each

  all_seats : (out : Option Fragment) → sum_by seats_of (noted out) ≤ 64
  unfolding noted
  all_seats out = let s = sum_anew seats_of notes i note (note_with note own out) at in let few = keeps.seats in
      omega (arith, s, few)

  -- the parts in another order
  ordered : (parts rest : List Fragment) (out : Option Fragment) → Reaches limits (T ++ own ∷ []) parts
      → IsPermutation parts (rest ++ (H ++ option_to_list out))
      → Reaches limits (taken_in (noted out)) (rest ++ handed_in (noted out))
  ordered parts rest out reached same_parts =
      turned limits (T ++ own ∷ []) (taken_in (noted out)) parts (rest ++ handed_in (noted out))
      (IsPermutation-sym (taken_in (noted out)) (T ++ own ∷ []) (more_taken out))
      (IsPermutation-trans parts (rest ++ (H ++ option_to_list out)) (rest ++ handed_in (noted out)) same_parts
      (IsPermutation-append_right rest (H ++ option_to_list out) (handed_in (noted out))
      (IsPermutation-sym (handed_in (noted out)) (H ++ option_to_list out) (more_handed out))))
      reached

  -- what was seen is borne out still
  seen_still : (out : Option Fragment) → All (IsBorne limits (taken_in (noted out))) (seen_in (noted out))
  unfolding T noted
  seen_still out = all_borne limits (taken_in notes) (taken_in (noted out)) (seen_in notes) (seen_in (noted out))
      (kept_pieces seen_of notes i note (note_with note own out) at refl)
      (λ part. borne_more limits (taken_in notes) (taken_in (noted out)) (own ∷ []) part (more_taken out)) keeps.seen

  passed : Keeps limits sets contents (set notes i (note_with note own (Some own)))
  unfolding noted G H
  passed = record {
    four = keeps.four;
    whole = keeps.whole;
    placed = keeps.placed;
    regrouped = ordered ((G ++ H) ++ own ∷ []) G (Some own) all_reached
        (same ((G ++ H) ++ own ∷ []) (G ++ (H ++ own ∷ [])) (append_assoc G H (own ∷ [])));
    seen = seen_still (Some own);
    seats = all_seats (Some own);
    each = all_within (Some own);
  }

  module _ (place : ℕ) (content : List ℕ) (kept : Fragment) (out : Option Fragment)
      (there : get_elem? contents place ≡ some content) (in_set : IsInSet sets place own) where
    R : List Fragment
    R = flat_map shown_by (others contents place)

    G' : List Fragment
    G' = parts_in (set contents place (part_words kept))

    before : IsPermutation G (shown_by content ++ R)
    unfolding G R
    before = apart shown_by contents place content there

    shown_kept : shown_by (part_words kept) ≡ kept ∷ []
    shown_kept = ap option_to_list (words_show kept)

    after : IsPermutation G' (kept ∷ R)
    unfolding G' R
    after = subst
        (λ x. IsPermutation (parts_in (set contents place (part_words kept)))
        (x ++ flat_map shown_by (others contents place))) shown_kept
        (anew shown_by contents place content (part_words kept) there)

    -- what is kept is of the set that it lies in, as all the others are
    still_placed : kept.key ≡ own.key → (p : ℕ) (fragment : Fragment)
        → entry_of (get_or (set contents place (part_words kept)) p []) ≡ Some fragment
        → IsInSet sets p fragment
    still_placed key p fragment shown =
        dite (ℕ_discrete p place)
        (λ here. subst (λ q. IsInSet sets q fragment) (sym here)
        (subst (IsInSet sets place) (is_kept here)
        (subst (λ k. set_number k sets ≡ place / 4) (sym key) in_set)))
        (λ away. keeps.placed p fragment
        (ap entry_of (sym (get_or-set_other contents place p (part_words kept) [] away)) ∙ shown))
      where
        is_kept : p ≡ place → kept ≡ fragment
        is_kept here = some_is kept fragment
            (sym (words_show kept)
            ∙ ap entry_of
            (sym (ap (λ q. get_or (set contents place (part_words kept)) q []) here
            ∙ get_or-set_same contents place (part_words kept) [] (below contents place content there)))
            ∙ shown)

    -- the new state keeps, where what is kept, the rest and what is handed out are reached
    whole_state : (parts : List Fragment) → kept.key ≡ own.key → Reaches limits (T ++ own ∷ []) parts
        → IsPermutation parts ((kept ∷ R) ++ (H ++ option_to_list out))
        → Keeps limits sets (set contents place (part_words kept)) (noted out)
    unfolding G'
    whole_state parts key reached is =
        let now : Reaches limits (taken_in (noted out)) ((kept ∷ R) ++ handed_in (noted out)) =
        ordered parts (kept ∷ R) out reached is in record {
          four = length-set contents place (part_words kept) ∙ keeps.four;
          whole = All-set IsWhole contents place (part_words kept)
              (inr (
                kept,
                refl,
                small_of limits (noted out) kept (R ++ handed_in (noted out)) (all_within out)
                    (all_seats out) now,
              )) keeps.whole;
          placed = still_placed key;
          regrouped = turned limits (taken_in (noted out)) (taken_in (noted out))
              ((kept ∷ R) ++ handed_in (noted out)) (G' ++ handed_in (noted out))
              (IsPermutation-refl (taken_in (noted out)))
              (IsPermutation-append_left (handed_in (noted out)) (kept ∷ R) G'
              (IsPermutation-sym G' (kept ∷ R) after)) now;
          seen = seen_still out;
          seats = all_seats out;
          each = all_within out;
        }

    -- what was there comes first, and the own fragment second
    fronted : IsPermutation ((G ++ H) ++ own ∷ []) (shown_by content ++ (own ∷ (R ++ H)))
    fronted =
        let S : List Fragment = shown_by content in
        IsPermutation-trans ((G ++ H) ++ own ∷ []) (((S ++ R) ++ H) ++ own ∷ []) (S ++ (own ∷ (R ++ H)))
        (IsPermutation-append_left (own ∷ []) (G ++ H) ((S ++ R) ++ H) (IsPermutation-append_left H G (S ++ R) before))
        (subst (λ l. IsPermutation (l ++ own ∷ []) (S ++ (own ∷ (R ++ H)))) (sym (append_assoc S R H))
        (subst (λ l. IsPermutation l (S ++ (own ∷ (R ++ H)))) (sym (append_assoc S (R ++ H) (own ∷ [])))
        (IsPermutation-append_right S ((R ++ H) ++ own ∷ []) (own ∷ (R ++ H))
        (IsPermutation-append_comm (R ++ H) (own ∷ [])))))

    put_out : out ≡ entry_of content → kept ≡ own → Keeps limits sets (set contents place (part_words kept)) (noted out)
    put_out out_is is =
        let S : List Fragment = shown_by content in
        let listed : S ≡ option_to_list out = ap option_to_list (sym out_is) in
        whole_state ((G ++ H) ++ own ∷ []) (ap (λ (f : Fragment). f.key) is) all_reached
        (IsPermutation-trans ((G ++ H) ++ own ∷ []) (S ++ (own ∷ (R ++ H)))
        ((kept ∷ R) ++ (H ++ option_to_list out)) fronted
        (subst (λ k. IsPermutation (S ++ (own ∷ (R ++ H))) ((k ∷ R) ++ (H ++ option_to_list out))) (sym is)
        (subst (λ z. IsPermutation (S ++ (own ∷ (R ++ H))) ((own ∷ R) ++ (H ++ z))) listed
        (subst (λ l. IsPermutation (S ++ (own ∷ (R ++ H))) l) (append_assoc (own ∷ R) H S)
        (IsPermutation-append_comm S (own ∷ (R ++ H)))))))

    took : (old : Fragment) → entry_of content ≡ Some old → IsJoinable limits old own → IsJoined old own kept
        → out ≡ None
        → Keeps limits sets (set contents place (part_words kept)) (noted out)
    took old is joinable joined none_out =
        let parts : List Fragment = (G ++ H) ++ own ∷ [] in
        let front : IsPermutation parts (old ∷ own ∷ (R ++ H)) =
        subst (λ z. IsPermutation parts (option_to_list z ++ (own ∷ (R ++ H)))) is fronted in
        let one : Reaches limits (T ++ own ∷ []) (kept ∷ (R ++ H)) =
        reaches_joined limits (T ++ own ∷ []) parts (kept ∷ (R ++ H)) (R ++ H) old own kept joinable joined all_reached
        front (IsPermutation-refl (kept ∷ (R ++ H))) in
        whole_state (kept ∷ (R ++ H)) (joined.key ∙ joinable.one_key) one
        (same (kept ∷ (R ++ H)) ((kept ∷ R) ++ (H ++ option_to_list out))
        (ap (λ z. kept ∷ (R ++ z)) (sym (ap (λ z. H ++ option_to_list z) none_out ∙ append-nil H))))

pub keeps_passed : KeepsPassed
keeps_passed limits sets contents notes i note own keeps at can =
    passed limits sets contents notes i note own keeps at can

pub joins_in : (limits : Timeouts) (own kept : Fragment) (entry : Option Fragment)
    → MatchOption entry ⊥ (λ old. IsJoinable limits old own × IsJoined old own kept)
    → (old : Fragment) × (entry ≡ Some old) × IsJoinable limits old own × IsJoined old own kept
joins_in limits own kept None h = absurd h
joins_in limits own kept (Some old) h = (old, refl, h.0, h.1)

pub keeps_taken : KeepsTaken
unfolding noted
keeps_taken limits sets contents notes place i content note own kept out keeps there at can in_set (inl joins) =
    let found = joins_in limits own kept (entry_of content) joins.0 in
    took limits sets contents notes i note own keeps at can place content kept out there in_set found.0 found.1 found.2
    found.3 joins.1
keeps_taken limits sets contents notes place i content note own kept out keeps there at can in_set (inr opens) =
    put_out limits sets contents notes i note own keeps at can place content kept out there in_set opens.0 opens.1

-- notes that have done nothing took nothing and have no fragments
none_of : {B : Type 0} (f : Note → List B) (notes : List Note) → All (λ n. f n ≡ []) notes → flat_map f notes ≡ []
none_of f [] h = refl
none_of f (n ∷ ns) h = flat_map-cons f n ns ∙ ap (λ x. x ++ flat_map f ns) (All-head (λ n. f n ≡ []) n ns h)
    ∙ none_of f ns (All-tail (λ n. f n ≡ []) n ns h)

empty_parts : (contents : List (List ℕ)) → All IsEmptyContent contents → parts_in contents ≡ []
empty_parts [] h = refl
empty_parts (c ∷ cs) h = flat_map-cons shown_by c cs
    ∙ ap (λ x. option_to_list x ++ parts_in cs) (empty_shows c (All-head IsEmptyContent c cs h))
    ∙ empty_parts cs (All-tail IsEmptyContent c cs h)

empty_at : (contents : List (List ℕ)) (place : ℕ) → All IsEmptyContent contents
    → IsEmptyContent (get_or contents place [])
empty_at [] place h = refl
empty_at (c ∷ cs) zero h = All-head IsEmptyContent c cs h
empty_at (c ∷ cs) (suc place) h = empty_at cs place (All-tail IsEmptyContent c cs h)

nothing_within : (note : Note) → IsUnused note → IsWithin note
nothing_within note h = record {
  count = subst (λ (l : List Fragment). packet_count l ≤ note.seats * 2 ^ 32) (sym h.0) (omega arith);
  each = subst (All IsBounded) (sym h.0) (All-nil IsBounded);
}

pub keeps_opening : KeepsOpening
keeps_opening limits sets contents notes many empty idle few = record {
  four = many;
  whole = All-weaker IsEmptyContent IsWhole (λ c e. inl e) contents empty;
  placed = λ place fragment shown. absurd
      (none_some fragment
      (sym (empty_shows (get_or contents place []) (empty_at contents place empty)) ∙ shown));
  regrouped = subst (λ p. Reaches limits p (parts_in contents ++ handed_in notes))
      (sym (none_of taken_of notes (All-weaker IsUnused (λ n. taken_of n ≡ []) (λ n h. h.0) notes idle)))
      (subst (λ g. Reaches limits [] (g ++ handed_in notes)) (sym (empty_parts contents empty))
      (subst (λ h. Reaches limits [] h)
      (sym (none_of handed_of notes (All-weaker IsUnused (λ n. handed_of n ≡ []) (λ n h. h.1) notes idle)))
      (itself limits [])));
  seen = subst (All (IsBorne limits (taken_in notes)))
      (sym (none_of seen_of notes (All-weaker IsUnused (λ n. seen_of n ≡ []) (λ n h. h.2) notes idle)))
      (All-nil (IsBorne limits (taken_in notes)));
  seats = few;
  each = All-weaker IsUnused IsWithin nothing_within notes idle;
}

-- notes that took the same fragments and were handed the same keep alike
alike : (limits : Timeouts) (sets : ℕ) (contents : List (List ℕ)) (notes notes' : List Note)
    → Keeps limits sets contents notes
    → IsPermutation (taken_in notes') (taken_in notes) → IsPermutation (handed_in notes') (handed_in notes)
    → IsPermutation (seen_in notes') (seen_in notes)
    → sum_by seats_of notes' ≤ 64 → All IsWithin notes'
    → Keeps limits sets contents notes'
alike limits sets contents notes notes' keeps taken handed seen few within = record {
  four = keeps.four;
  whole = keeps.whole;
  placed = keeps.placed;
  regrouped = turned limits (taken_in notes) (taken_in notes') (parts_in contents ++ handed_in notes)
      (parts_in contents ++ handed_in notes')
      (IsPermutation-sym (taken_in notes') (taken_in notes) taken)
      (IsPermutation-append_right (parts_in contents) (handed_in notes) (handed_in notes')
      (IsPermutation-sym (handed_in notes') (handed_in notes) handed)) keeps.regrouped;
  seen = all_borne limits (taken_in notes) (taken_in notes') (seen_in notes) (seen_in notes') seen
      (λ part. borne_same limits (taken_in notes) (taken_in notes') part taken) keeps.seen;
  seats = few;
  each = within;
}

pub keeps_split : KeepsSplit
keeps_split limits sets contents notes i seats keeps at =
    let left : List Note = set notes i (unused_note seats) in
    let s = sum_anew seats_of notes i (unused_note (suc seats)) (unused_note seats) at in
    let t = sum_snoc seats_of left first_note in
    let few = keeps.seats in
    alike limits sets contents notes (left ++ first_note ∷ []) keeps
    (subst (λ l. IsPermutation l (taken_in notes))
    (sym (snoc taken_of left first_note ∙ append-nil (taken_in left)))
    (kept_pieces taken_of notes i (unused_note (suc seats)) (unused_note seats) at refl))
    (subst (λ l. IsPermutation l (handed_in notes)) (sym (snoc handed_of left first_note ∙ append-nil (handed_in left)))
    (kept_pieces handed_of notes i (unused_note (suc seats)) (unused_note seats) at refl))
    (subst (λ l. IsPermutation l (seen_in notes)) (sym (snoc seen_of left first_note ∙ append-nil (seen_in left)))
    (kept_pieces seen_of notes i (unused_note (suc seats)) (unused_note seats) at refl))
    (omega (arith, s, t, few))
    (All-append IsWithin left (first_note ∷ [])
    (All-set IsWithin notes i (unused_note seats) (nothing_within (unused_note seats) (refl, refl, refl)) keeps.each)
    (All-cons IsWithin first_note [] (nothing_within first_note (refl, refl, refl)) (All-nil IsWithin)))

-- the pieces of two are put together at the first
summed : {B : Type 0} (f : Note → List B) (notes : List Note) (i j : ℕ) (one other : Note)
    → f (merged_note one other) ≡ f one ++ f other → f empty_note ≡ []
    → j ≢ i → get_elem? notes i ≡ some one → get_elem? notes j ≡ some other
    → IsPermutation (flat_map f (set (set notes i (merged_note one other)) j empty_note)) (flat_map f notes)
summed f notes i j one other sum zero_is ne at at' =
    let both : Note = merged_note one other in
    let left : List Note = set notes j empty_note in
    let rest : List _ = flat_map f (others notes j) in
    let crossed : set (set notes i both) j empty_note ≡ set left i both =
    set_comm notes i j both empty_note (λ s. ne (sym s)) in
    let at_i : get_elem? left i ≡ some one = elsewhere notes j i one empty_note (λ s. ne (sym s)) at in
    let left_rest : IsPermutation (flat_map f left) rest =
    subst (λ z. IsPermutation (flat_map f left) (z ++ rest)) zero_is (anew f notes j other empty_note at') in
    subst (λ l. IsPermutation (flat_map f l) (flat_map f notes)) (sym crossed)
    (IsPermutation-trans (flat_map f (set left i both)) (flat_map f left ++ f other) (flat_map f notes)
    (grown f left i one both (f other) at_i sum)
    (IsPermutation-trans (flat_map f left ++ f other) (rest ++ f other) (flat_map f notes)
    (IsPermutation-append_left (f other) (flat_map f left) rest left_rest)
    (IsPermutation-trans (rest ++ f other) (f other ++ rest) (flat_map f notes)
    (IsPermutation-append_comm rest (f other))
    (IsPermutation-sym (flat_map f notes) (f other ++ rest) (apart f notes j other at')))))

-- two notes put together are within bounds
within_merged : (one other : Note) → IsWithin one → IsWithin other → IsWithin (merged_note one other)
within_merged one other w v = record {
  count = (let a = w.count in let b = v.count in let l = sum_by-append count_of one.taken other.taken in
      omega (arith, a, b, l));
  each = All-append IsBounded one.taken other.taken w.each v.each;
}

pub keeps_merged : KeepsMerged
keeps_merged limits sets contents notes i j one other keeps ne at at' =
    let both : Note = merged_note one other in
    let left : List Note = set notes i both in
    let at_j : get_elem? left j ≡ some other = elsewhere notes i j other both ne at' in
    let s = sum_anew seats_of notes i one both at in
    let t = sum_anew seats_of left j other empty_note at_j in
    let few = keeps.seats in
    alike limits sets contents notes (set left j empty_note) keeps
    (summed taken_of notes i j one other refl refl ne at at')
    (summed handed_of notes i j one other refl refl ne at at')
    (summed seen_of notes i j one other refl refl ne at at')
    (omega (arith, s, t, few))
    (All-set IsWithin left j empty_note (nothing_within empty_note (refl, refl, refl))
    (All-set IsWithin notes i both
    (within_merged one other (all_at IsWithin notes i one keeps.each at) (all_at IsWithin notes j other keeps.each at'))
    keeps.each))

pub kept_at_end : KeptAtEnd
kept_at_end limits sets contents notes i note keeps at idle =
    let rest : List Note = others notes i in
    let none : All IsUnused rest = all_others IsUnused notes i idle in
    let taken : IsPermutation (taken_in notes) note.taken =
    subst (λ z. IsPermutation (taken_in notes) z) (append-nil note.taken)
    (subst (λ z. IsPermutation (taken_in notes) (note.taken ++ z))
    (none_of taken_of rest (All-weaker IsUnused (λ n. taken_of n ≡ []) (λ n h. h.0) rest none))
    (apart taken_of notes i note at)) in
    let handed : IsPermutation (handed_in notes) note.handed =
    subst (λ z. IsPermutation (handed_in notes) z) (append-nil note.handed)
    (subst (λ z. IsPermutation (handed_in notes) (note.handed ++ z))
    (none_of handed_of rest (All-weaker IsUnused (λ n. handed_of n ≡ []) (λ n h. h.1) rest none))
    (apart handed_of notes i note at)) in
    let seen : IsPermutation (seen_in notes) note.seen =
    subst (λ z. IsPermutation (seen_in notes) z) (append-nil note.seen)
    (subst (λ z. IsPermutation (seen_in notes) (note.seen ++ z))
    (none_of seen_of rest (All-weaker IsUnused (λ n. seen_of n ≡ []) (λ n h. h.2) rest none))
    (apart seen_of notes i note at)) in (
      turned limits (taken_in notes) note.taken (parts_in contents ++ handed_in notes)
          (parts_in contents ++ note.handed) taken
          (IsPermutation-append_right (parts_in contents) (handed_in notes) note.handed handed) keeps.regrouped,
      all_borne limits (taken_in notes) note.taken (seen_in notes) note.seen
          (IsPermutation-sym (seen_in notes) note.seen seen)
          (λ part. borne_same limits (taken_in notes) note.taken part
          (IsPermutation-sym (taken_in notes) note.taken taken)) keeps.seen,
    )

pub keeps_seen : KeepsSeen
keeps_seen limits sets contents notes i note part keeps at borne =
    let after : Note = note_seeing note part in
    let notes' : List Note = set notes i after in
    let taken : IsPermutation (taken_in notes') (taken_in notes) = kept_pieces taken_of notes i note after at refl in
    let handed : IsPermutation (handed_in notes') (handed_in notes) =
    kept_pieces handed_of notes i note after at refl in
    let still : (other : Fragment) → IsBorne limits (taken_in notes) other → IsBorne limits (taken_in notes') other =
    λ other. borne_same limits (taken_in notes) (taken_in notes') other taken in
    let s = sum_anew seats_of notes i note after at in
    let few = keeps.seats in
    let within = all_at IsWithin notes i note keeps.each at in record {
      four = keeps.four;
      whole = keeps.whole;
      placed = keeps.placed;
      regrouped = turned limits (taken_in notes) (taken_in notes') (parts_in contents ++ handed_in notes)
          (parts_in contents ++ handed_in notes')
          (IsPermutation-sym (taken_in notes') (taken_in notes) taken)
          (IsPermutation-append_right (parts_in contents) (handed_in notes) (handed_in notes')
          (IsPermutation-sym (handed_in notes') (handed_in notes) handed)) keeps.regrouped;
      seen = all_borne limits (taken_in notes) (taken_in notes') (seen_in notes ++ part ∷ []) (seen_in notes')
          (grown seen_of notes i note after (part ∷ []) at refl) still
          (All-push (IsBorne limits (taken_in notes)) (seen_in notes) part keeps.seen borne);
      seats = omega (arith, s, few);
      each = All-set IsWithin notes i after record { count = within.count; each = within.each } keeps.each;
    }

-- ---- what notes back

pub backs_taken : BacksTaken
backs_taken limits notes content i note own out backing at part shown =
    borne_more limits (taken_in notes) (taken_in (set notes i (note_with note own out))) (own ∷ []) part
    (grown taken_of notes i note (note_with note own out) (own ∷ []) at refl) (backing part shown)

pub backs_seen : BacksSeen
backs_seen limits notes content i note entry backing at part shown =
    borne_same limits (taken_in notes) (taken_in (set notes i (note_seeing note entry))) part
    (kept_pieces taken_of notes i note (note_seeing note entry) at refl) (backing part shown)

pub backs_merged : BacksMerged
backs_merged limits notes content i j one other backing ne at at' part shown =
    borne_same limits (taken_in notes) (taken_in (set (set notes i (merged_note one other)) j empty_note)) part
    (summed taken_of notes i j one other refl refl ne at at') (backing part shown)

pub kept_is_backed : KeptIsBacked
kept_is_backed limits sets contents notes place content keeps there part shown =
    let rest : List Fragment = flat_map shown_by (others contents place) in
    let front : IsPermutation (parts_in contents) (part ∷ rest) =
    subst (λ x. IsPermutation (parts_in contents) (x ++ rest)) (ap option_to_list shown)
    (apart shown_by contents place content there) in (
      rest ++ handed_in notes,
      turned limits (taken_in notes) (taken_in notes) (parts_in contents ++ handed_in notes)
          (part ∷ (rest ++ handed_in notes)) (IsPermutation-refl (taken_in notes))
          (IsPermutation-append_left (handed_in notes) (parts_in contents) (part ∷ rest) front) keeps.regrouped,
    )

pub empty_is_backed : EmptyIsBacked
empty_is_backed limits notes content empty part shown =
    absurd (none_some part (sym (empty_shows content empty) ∙ shown))
