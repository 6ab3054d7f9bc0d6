-- Fragments that stay where they lie, beside those that are moved to buckets.
use Rattle.std.proofs.Common.{◌≡◌, ◌≢◌, ℕ, ◌+◌, ◌<◌, List, [], ◌∷◌, ◌++◌, length, take, get_or, sym, ap, ◌∙◌, subst}
use Rattle.std.proofs.Common.{append_assoc, append-nil, add-one, All, IsPermutation, true, arith}
use Rattle.std.proofs.Common.{Vec, Global, Result, Ok, IfOk, Some, length-append}
use Rattle.no_memory.specs.declared.NoMemory.{NoMemory}
use Rattle.std.specs.Prelude.{slice_get, ◌==◌}
use Rattle.std.specs.List.{AllZip}
use Rattle.std.proofs.Math.Seq.{take-suc, get_or-append_seam}
use Rattle.std.proofs.lemmas.Bool.{eqb-true}
use Rattle.std.proofs.lemmas.Grind.{flat_map-append}
use Rattle.std.proofs.lemmas.List.{take_more}
use Rattle.std.proofs.lemmas.List.Elements.{All-append, All-cons, All-head, All-nil, All-tail, All-weaker, filter_passes}
use Rattle.std.proofs.lemmas.List.Sorted.{All-permutation, IsPermutation-refl, IsPermutation-trans, IsPermutation-to_front}
use Rattle.std.proofs.lemmas.List.Sorted.{IsPermutation-append, IsPermutation-append_left, IsPermutation-append_right}
use Rattle.std.proofs.lemmas.Option.{get_or_from_slice_get, slice_get_within}
use Rattle.flow_parts.specs.declared.fragment.Fragment.{Fragment}
use Rattle.flow_parts.specs.Pieces.{items_of}
use Rattle.flow_parts.proofs.Members.{All-one}
use Rattle.flow_parts.proofs.Permuted.{AllZip-append}
use Rattle.record_ledger.specs.declared.dealing.Dealing.{Dealing}
use Rattle.record_ledger.specs.declared.place.Place.{Place}
use Rattle.record_ledger.specs.declared.record.FlowRecord.{FlowRecord}
use Rattle.record_ledger.specs.Lawful.{parts_of}
use Rattle.record_ledger.specs.Buckets.{Bucket, Piece, records_of, IsPartPlaceOf, AreByKey, CountsSlots, IsCountedAlone}
use Rattle.record_ledger.specs.Buckets.{AreDealt, AreDealtTo, AreDealings, SharedFrom, places_of, share_number, share_of}
use Rattle.record_ledger.specs.Buckets.{first_shares, leading_number, part_of_piece}
use Rattle.record_ledger.proofs.Classed.{no_shares, share_added, all_shares, shared_more}
use Rattle.record_ledger.proofs.Counted.{counted_unlike}
use Rattle.record_ledger.proofs.Dealt.{behind, inner_changed, none_lie}
use Rattle.record_ledger.proofs.Keyed.{part_of, All-unmap}
use Rattle.record_ledger.proofs.Rising.{All-front}

-- one more fragment, behind those of one list and before those of another
between : (F A B : List Fragment) (f : Fragment) → IsPermutation F (A ++ B)
    → IsPermutation (F ++ f ∷ []) (A ++ f ∷ B)
between F A B f h = IsPermutation-trans (F ++ f ∷ []) (f ∷ F) (A ++ f ∷ B) (IsPermutation-to_front F f)
    (IsPermutation-trans (f ∷ F) (f ∷ (A ++ B)) (A ++ f ∷ B)
    (IsPermutation-append_right (f ∷ []) F (A ++ B) h) (behind f A B))

-- no fragment is dealt yet
pub none_found : (counts : List ℕ) (pieces : List Piece) (d : Dealing) → d.alone.items ≡ [] → d.moved.items ≡ []
    → AreDealtTo counts pieces [] d
none_found counts pieces d e f = record {
  alone = [];
  others = [];
  whole = IsPermutation-refl [];
  places = subst (AllZip (IsPartPlaceOf pieces) []) (sym e) tt;
  counted = All-nil (IsCountedAlone counts);
  moved = subst (AllZip (IsPartPlaceOf pieces) []) (sym f) tt;
}

-- a place in a piece
pub placed : (pieces : List Piece) (p : Piece) (f : Fragment) (place : Place) (number at : ℕ)
    → slice_get pieces number ≡ Some p → slice_get p.items at ≡ Some f → place.last ≡ f.last
    → place.leading ≡ leading_number f.key → place.bucket ≡ number → place.at ≡ at → IsPartPlaceOf pieces f place
placed pieces p f place number at at_piece here last leading bucket seat = record {
  here = (λ i. part_of_piece (slice_get pieces (bucket i)) (seat i)) ∙ ap (λ o. part_of_piece o at) at_piece ∙ here;
  last = last;
  leading = leading;
}

-- one more fragment
module _ (counts : List ℕ) (pieces : List Piece) (before : List Fragment) (f : Fragment) (d e : Dealing) (place : Place)
    (is : IsPartPlaceOf pieces f place) (h : AreDealtTo counts pieces before d) where
  -- it stays
  pub one_left : IsCountedAlone counts f → e.alone.items ≡ d.alone.items ++ place ∷ [] → e.moved.items ≡ d.moved.items
      → AreDealtTo counts pieces (before ++ f ∷ []) e
  one_left counted more same = record {
    alone = h.alone ++ f ∷ [];
    others = h.others;
    whole = subst (IsPermutation (before ++ f ∷ [])) (sym (append_assoc h.alone (f ∷ []) h.others))
        (between before h.alone h.others f h.whole);
    places = subst (AllZip (IsPartPlaceOf pieces) (h.alone ++ f ∷ [])) (sym more)
        (AllZip-append (IsPartPlaceOf pieces) h.alone d.alone.items (f ∷ []) (place ∷ []) h.places (is, tt));
    counted = All-append (IsCountedAlone counts) h.alone (f ∷ []) h.counted (All-one (IsCountedAlone counts) f counted);
    moved = subst (AllZip (IsPartPlaceOf pieces) h.others) (sym same) h.moved;
  }

  -- it is to be moved
  pub one_moved : e.alone.items ≡ d.alone.items → e.moved.items ≡ d.moved.items ++ place ∷ []
      → AreDealtTo counts pieces (before ++ f ∷ []) e
  one_moved same more = record {
    alone = h.alone;
    others = h.others ++ f ∷ [];
    whole = subst (IsPermutation (before ++ f ∷ [])) (append_assoc h.alone h.others (f ∷ []))
        (IsPermutation-append_left (f ∷ []) before (h.alone ++ h.others) h.whole);
    places = subst (AllZip (IsPartPlaceOf pieces) h.alone) (sym same) h.places;
    counted = h.counted;
    moved = subst (AllZip (IsPartPlaceOf pieces) (h.others ++ f ∷ [])) (sym more)
        (AllZip-append (IsPartPlaceOf pieces) h.others d.moved.items (f ∷ []) (place ∷ []) h.moved (is, tt));
  }

-- the fragments of a piece up to one more
pub one_taken : (before piece : List Fragment) (at : ℕ) (f : Fragment) → slice_get piece at ≡ Some f
    → (before ++ take at piece) ++ f ∷ [] ≡ before ++ take (at + 1) piece
one_taken before piece at f here = append_assoc before (take at piece) (f ∷ [])
    ∙ ap (λ l. before ++ l) (ap (λ g. take at piece ++ g ∷ []) (sym (get_or_from_slice_get piece at f f here))
    ∙ sym (take_more piece at f (slice_get_within piece at f here)))

-- the fragments of one more piece
pub piece_taken : (pieces : List Piece) (i : ℕ) (p : Piece) → i < length pieces → p ≡ get_or pieces i p
    → items_of (take i pieces) ++ p.items ≡ items_of (take (i + 1) pieces)
piece_taken pieces i p l is =
    ap (λ z. items_of (take i pieces) ++ z) (sym (append-nil p.items))
    ∙ sym (flat_map-append (λ (v : Piece). v.items) (take i pieces) (p ∷ []))
    ∙ ap items_of (ap (λ f. take i pieces ++ f ∷ []) is ∙ sym (take-suc pieces i p l)
    ∙ ap (λ n. take n pieces) (sym (add-one i)))

-- the lists of places up to one more
pub places_added : (lists : List (Vec Place Global)) (list : Vec Place Global)
    → places_of (lists ++ list ∷ []) ≡ places_of lists ++ list.items
places_added lists list = flat_map-append (λ (l : Vec Place Global). l.items) lists (list ∷ [])
    ∙ ap (λ z. places_of lists ++ z) (append-nil list.items)

-- no share is dealt yet
pub none_dealt : (counts ends : List ℕ) (pieces : List Piece) (lists moves : List (Vec Place Global)) → lists ≡ []
    → moves ≡ [] → AreDealings counts ends pieces 0 lists moves
none_dealt counts ends pieces lists moves e f = record {
  alone = [];
  others = [];
  whole = subst (λ l. IsPermutation l []) (sym (no_shares ends (items_of pieces))) (IsPermutation-refl []);
  places = subst (λ l. AllZip (IsPartPlaceOf pieces) [] (places_of l)) (sym e) tt;
  many = ap length e;
  shared = subst (SharedFrom ends 0) (sym e) tt;
  counted = All-nil (IsCountedAlone counts);
  moved = subst (λ l. AllZip (IsPartPlaceOf pieces) [] (places_of l)) (sym f) tt;
}

-- the next one of the dealings is that of the next share
pub dealing_next : (P : ℕ → Dealing → Type 0) (ds ys rest : List (Result Dealing NoMemory))
    (r : Result Dealing NoMemory) (d : Dealing) → ds ≡ ys ++ r ∷ rest → r ≡ Ok d
    → ((n : ℕ) (t : Result Dealing NoMemory) → n < length ds → IfOk (get_or ds n t) (P n))
    → P (length ys) d
dealing_next P ds ys rest r d e is each =
    let low : length ys < length ds =
    (let all = ap length e in omega (arith, all, length-append ys (r ∷ rest))) in
    let here : get_or ds (length ys) r ≡ Ok d =
    ap (λ l. get_or l (length ys) r) e ∙ get_or-append_seam ys r rest r ∙ is in
    subst (λ o. IfOk o (P (length ys))) here (each (length ys) r low)

-- what holds of the elements of one list holds of those of the other
zip_all : {X Y : Type 0} (R : X → Y → Type 0) (P : X → Type 0) (Q : Y → Type 0)
    → ((x : X) (y : Y) → R x y → P x → Q y) → (xs : List X) (ys : List Y) → AllZip R xs ys → All P xs → All Q ys
zip_all R P Q each [] [] z h = All-nil Q
zip_all R P Q each [] (y ∷ ys) z h = absurd z
zip_all R P Q each (x ∷ xs) [] z h = absurd z
zip_all R P Q each (x ∷ xs) (y ∷ ys) z h = All-cons Q y ys (each x y z.0 (All-head P x xs h))
    (zip_all R P Q each xs ys z.1 (All-tail P x xs h))

-- one more share is dealt
module _ (counts ends : List ℕ) (pieces : List Piece) (n : ℕ) (d : Dealing) (lists moves : List (Vec Place Global))
    (k : AreDealtTo counts pieces (share_of ends n (items_of pieces)) d)
    (h : AreDealings counts ends pieces n lists moves) where
  -- each place that is listed is of the share
  in_share : All (λ (place : Place). share_number ends place.last ≡ n) d.alone.items
  in_share = zip_all (IsPartPlaceOf pieces) (λ (f : Fragment). (share_number ends f.last == n) ≡ true)
      (λ (place : Place). share_number ends place.last ≡ n)
      (λ f place is e. ap (share_number ends) is.last ∙ eqb-true (share_number ends f.last) n e) k.alone d.alone.items
      k.places
      (All-front (λ (f : Fragment). (share_number ends f.last == n) ≡ true) k.alone k.others
      (All-permutation (λ (f : Fragment). (share_number ends f.last == n) ≡ true)
      (share_of ends n (items_of pieces)) (k.alone ++ k.others) k.whole
      (filter_passes (λ (f : Fragment). share_number ends f.last == n) (items_of pieces))))

  pub share_dealt : (lists' moves' : List (Vec Place Global)) → lists' ≡ lists ++ d.alone ∷ []
      → moves' ≡ moves ++ d.moved ∷ [] → AreDealings counts ends pieces (n + 1) lists' moves'
  share_dealt lists' moves' e f = record {
    alone = h.alone ++ k.alone;
    others = h.others ++ k.others;
    whole = IsPermutation-trans (first_shares ends (n + 1) (items_of pieces))
        (first_shares ends n (items_of pieces) ++ share_of ends n (items_of pieces))
        ((h.alone ++ k.alone) ++ (h.others ++ k.others)) (share_added ends (items_of pieces) n)
        (IsPermutation-trans (first_shares ends n (items_of pieces) ++ share_of ends n (items_of pieces))
        ((h.alone ++ h.others) ++ (k.alone ++ k.others)) ((h.alone ++ k.alone) ++ (h.others ++ k.others))
        (IsPermutation-append (first_shares ends n (items_of pieces)) (h.alone ++ h.others)
        (share_of ends n (items_of pieces)) (k.alone ++ k.others) h.whole k.whole)
        (inner_changed h.alone h.others k.alone k.others));
    places = subst (AllZip (IsPartPlaceOf pieces) (h.alone ++ k.alone))
        (sym (ap places_of e ∙ places_added lists d.alone))
        (AllZip-append (IsPartPlaceOf pieces) h.alone (places_of lists) k.alone d.alone.items h.places k.places);
    many = ap length e ∙ length-append lists (d.alone ∷ []) ∙ ap (λ m. m + 1) h.many;
    shared = subst (SharedFrom ends 0) (sym e) (shared_more ends 0 lists d.alone h.shared
        (subst (λ m. All (λ (place : Place). share_number ends place.last ≡ m) d.alone.items) (omega (arith, h.many))
        in_share));
    counted = All-append (IsCountedAlone counts) h.alone k.alone h.counted k.counted;
    moved = subst (AllZip (IsPartPlaceOf pieces) (h.others ++ k.others))
        (sym (ap places_of f ∙ places_added moves d.moved))
        (AllZip-append (IsPartPlaceOf pieces) h.others (places_of moves) k.others d.moved.items h.moved k.moved);
  }

-- all shares are dealt, and the others moved to empty buckets
pub all_dealt : (counts ends : List ℕ) (pieces : List Piece) (lists moves : List (Vec Place Global))
    (none bs : List Bucket) → CountsSlots (items_of pieces) counts
    → AreDealings counts ends pieces (length ends + 1) lists moves → records_of none ≡ []
    → ((parts : List Fragment) → AllZip (IsPartPlaceOf pieces) parts (places_of moves)
    → IsPermutation (parts ++ parts_of (records_of none)) (parts_of (records_of bs)))
    → (AreByKey none → AreByKey bs) → AreDealt (items_of pieces) pieces (places_of lists) bs
all_dealt counts ends pieces lists moves none bs counted h empty whole by_key =
    let moved : IsPermutation h.others (parts_of (records_of bs)) =
    subst (λ l. IsPermutation l (parts_of (records_of bs)))
    (ap (λ rs. h.others ++ parts_of rs) empty ∙ append-nil h.others) (whole h.others h.moved) in
    let all : IsPermutation (items_of pieces) (h.alone ++ parts_of (records_of bs)) =
    IsPermutation-trans (items_of pieces) (h.alone ++ h.others) (h.alone ++ parts_of (records_of bs))
    (subst (λ l. IsPermutation l (h.alone ++ h.others)) (all_shares ends (items_of pieces)) h.whole)
    (IsPermutation-append_right h.alone h.others (parts_of (records_of bs)) moved) in
    let unlike = counted_unlike counts (items_of pieces) h.alone (parts_of (records_of bs)) counted all h.counted in
    record {
      alone = h.alone;
      whole = all;
      places = h.places;
      unlike = unlike.0;
      unlike_others = All-weaker (λ (f : Fragment). All (λ (g : Fragment). f.key ≢ g.key) (parts_of (records_of bs)))
          (λ (f : Fragment). All (λ (r : FlowRecord). f.key ≢ r.part.key) (records_of bs))
          (λ f u. All-unmap part_of (λ (g : Fragment). f.key ≢ g.key) (records_of bs) u) h.alone unlike.1;
      by_key = by_key (none_lie (length none) 0 none (ap length empty));
    }
