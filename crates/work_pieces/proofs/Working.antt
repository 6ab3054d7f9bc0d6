-- Things that all workers did, piece by piece.
use Rattle.std.proofs.Common.{◌≡◌, ◌*◌, ◌≤◌, List, [], ◌∷◌, ◌++◌, length, map, sym, ap, ◌∙◌, subst, arith, append_assoc}
use Rattle.std.proofs.Common.{All}
use Rattle.std.specs.Prelude.{flat_map, IsPermutation}
use Rattle.std.specs.List.{AllZip}
use Rattle.std.proofs.lemmas.List.Elements.{All-map, All-tail, AllZip-get_or}
use Rattle.std.proofs.lemmas.List.Folds.{flat_map-map}
use Rattle.std.proofs.lemmas.List.Sorted.{IsPermutation-refl, IsPermutation-trans, IsPermutation-append_left}
use Rattle.std.proofs.lemmas.List.Sorted.{IsPermutation-append_right, IsPermutation-append_comm}
use Rattle.std.proofs.lemmas.Slice.Zip.{AllZip-long}
use Rattle.work_pieces.specs.declared.pieces.Pieces.{Pieces}
use Rattle.work_pieces.specs.declared.pieces.DrawPass.{DrawPass}
use Rattle.work_pieces.specs.Cutting.{piece_of, pieces_of}
use Rattle.work_pieces.specs.Dealing.{EachOnce}
use Rattle.work_pieces.specs.Doing.{HasWorked, HaveDone}
use Rattle.work_pieces.specs.Passes.{HasEnded, size_of, number_of, drawn_of}
use Rattle.work_pieces.proofs.Cutting.{covered}
use Rattle.work_pieces.proofs.Doing.{all-of, flat-flat}

-- a and c, then b and d, are a and b, then c and d
crossed : {A : Type 0} (a b c d : List A) → IsPermutation ((a ++ c) ++ (b ++ d)) ((a ++ b) ++ (c ++ d))
crossed a b c d =
    subst (λ l. IsPermutation l ((a ++ b) ++ (c ++ d))) (sym (append_assoc a c (b ++ d)))
    (subst (λ l. IsPermutation (a ++ (c ++ (b ++ d))) l) (sym (append_assoc a b (c ++ d)))
    (IsPermutation-append_right a (c ++ (b ++ d)) (b ++ (c ++ d))
    (subst (λ l. IsPermutation l (b ++ (c ++ d))) (append_assoc c b d)
    (subst (λ l. IsPermutation ((c ++ b) ++ d) l) (append_assoc b c d)
    (IsPermutation-append_left d (c ++ b) (b ++ c) (IsPermutation-append_comm c b))))))

-- workers before some things and behind them, each of which did its pieces if it ended well
module _ {A S W : Type 0} (Has : List A → S → Type 0) (share : W → S) (seat : W → DrawPass) (Ended : W → Type 0)
    (pieces : Pieces) (things : List A) where
  abbrev Worked : W → W → Type 0
  Worked u v = Ended v → HasWorked Has pieces things (share u) (share v) (seat v)

  abbrev Have : List (List A) → List W → Type 0
  Have lists ws = AllZip Has lists (map share ws)

  abbrev more : W → List A
  more w = pieces_of (size_of pieces) things (drawn_of (seat w))

  -- each seat drew until no piece was left
  pub all-drawn : (us vs : List W) (draws : List DrawPass) → draws ≡ map seat vs → All Ended vs → AllZip Worked us vs
      → All (HasEnded pieces) draws
  all-drawn us vs draws are ended worked =
      subst (All (HasEnded pieces)) (sym are) (All-map (HasEnded pieces) seat vs (λ k d inside.
      (AllZip-get_or Worked us vs k d d worked (omega (arith, inside, AllZip-long Worked us vs worked))
      (ended k d inside)).drawn))

  grown-lists : (lists : List (List A)) (us vs : List W) → AllZip Worked us vs → All Ended vs → Have lists us
      → (lists' : List (List A)) × Have lists' vs × IsPermutation (all-of lists ++ flat_map more vs) (all-of lists')
  grown-lists [] [] [] worked ended each = ([], tt, IsPermutation-refl [])
  grown-lists (l ∷ lists) [] vs worked ended each = absurd each
  grown-lists [] (u ∷ us) vs worked ended each = absurd each
  grown-lists [] [] (v ∷ vs) worked ended each = absurd worked
  grown-lists (l ∷ lists) (u ∷ us) [] worked ended each = absurd worked
  grown-lists (l ∷ lists) (u ∷ us) (v ∷ vs) worked ended each =
      let rest = grown-lists lists us vs worked.1 (All-tail Ended v vs ended) each.1 in (
        (l ++ more v) ∷ rest.0,
        ((worked.0 (ended 0 v (omega arith))).did.besides l each.0, rest.1),
        IsPermutation-trans _ ((l ++ more v) ++ (all-of lists ++ flat_map more vs)) _
            (crossed l (more v) (all-of lists) (flat_map more vs))
            (IsPermutation-append_right (l ++ more v) (all-of lists ++ flat_map more vs) (all-of rest.0) rest.2),
      )

  -- all together did the things besides
  pub all-done : (before : List A) (us vs : List W) (shares shares' : List S) (draws : List DrawPass)
      → map share us ≡ shares → shares' ≡ map share vs → draws ≡ map seat vs → All Ended vs → AllZip Worked us vs
      → EachOnce (number_of pieces) (flat_map drawn_of draws) → length things ≤ number_of pieces * size_of pieces
      → HaveDone Has before shares → HaveDone Has (before ++ things) shares'
  all-done before us vs shares shares' draws had has are ended worked once long have =
      let drawn : flat_map drawn_of draws ≡ flat_map (λ (w : W). drawn_of (seat w)) vs =
      ap (flat_map drawn_of) are ∙ flat_map-map drawn_of seat vs in
      let all : IsPermutation things (flat_map more vs) =
      subst (λ (l : List A). IsPermutation things l)
      (ap (pieces_of (size_of pieces) things) drawn
      ∙ flat-flat (piece_of (size_of pieces) things) (λ (w : W). drawn_of (seat w)) vs)
      (covered (size_of pieces) things (number_of pieces) (flat_map drawn_of draws) long once) in
      let grown = grown-lists have.lists us vs worked ended (subst (AllZip Has have.lists) (sym had) have.each) in
      record {
        lists = grown.0;
        whole = IsPermutation-trans _ (all-of have.lists ++ flat_map more vs) _
            (IsPermutation-trans _ (all-of have.lists ++ things) _
            (IsPermutation-append_left things before (all-of have.lists) have.whole)
            (IsPermutation-append_right (all-of have.lists) things (flat_map more vs) all)) grown.2;
        each = subst (AllZip Has grown.0) (sym has) grown.1;
      }
