-- Marks of fragments: the numbers of their shares.
use Rattle.std.proofs.Common.{◌≡◌, ℕ, ◌+◌, ◌<◌, List, [], ◌∷◌, ◌++◌, length, take, get_or, sym, ap, ◌∙◌, subst}
use Rattle.std.proofs.Common.{Vec, Global}
use Rattle.std.proofs.lemmas.List.{get_or-map, length-map, map_more, take_more}
use Rattle.std.proofs.lemmas.Slice.Zip.{all_zipped_more}
use Rattle.flow_parts.specs.declared.fragment.Fragment.{Fragment}
use Rattle.flow_parts.proofs.Permuted.{AllZip-append, AllZip-at, AllZip-length}
use Rattle.record_ledger.specs.Buckets.{AreMarked, Piece, marks_of, share_number}

module _ (ends : List ℕ) where
  abbrev HasMarks : Piece → Vec ℕ Global → Type 0
  HasMarks piece list = list.items ≡ marks_of ends piece.items

  -- a mark is the number of its fragment's share
  pub mark_is : (piece : List Fragment) (marks : List ℕ) (at : ℕ) (f : Fragment) → at < length piece
      → marks ≡ marks_of ends piece → f ≡ get_or piece at f → get_or marks at 0 ≡ share_number ends f.last
  mark_is piece marks at f low marked here = ap (λ l. get_or l at 0) marked
      ∙ get_or-map (λ (g : Fragment). share_number ends g.last) piece at f 0 low
      ∙ ap (λ (g : Fragment). share_number ends g.last) (sym here)

  -- there are as many marks as fragments
  pub marks_many : (piece : List Fragment) (marks : List ℕ) → marks ≡ marks_of ends piece → length marks ≡ length piece
  marks_many piece marks marked = ap length marked ∙ length-map piece (λ (f : Fragment). share_number ends f.last)

  -- the mark of one more fragment
  pub mark_more : (piece : List Fragment) (before after : List ℕ) (i mark : ℕ) (f : Fragment) → i < length piece
      → f ≡ get_or piece i f → before ≡ marks_of ends (take i piece) → mark ≡ share_number ends f.last
      → after ≡ before ++ mark ∷ [] → after ≡ marks_of ends (take (i + 1) piece)
  mark_more piece before after i mark f low here marked is more = more ∙ (λ j. marked j ++ is j ∷ [])
      ∙ ap (λ (g : Fragment). marks_of ends (take i piece) ++ share_number ends g.last ∷ []) here
      ∙ sym (map_more (λ (g : Fragment). share_number ends g.last) piece i f low)

  -- the marks of one more piece
  pub marked_more : (pieces : List Piece) (marks : List (Vec ℕ Global)) (i : ℕ) (p : Piece) (list : Vec ℕ Global)
      → i < length pieces → p ≡ get_or pieces i p → AreMarked ends (take i pieces) marks
      → list.items ≡ marks_of ends p.items → AreMarked ends (take (i + 1) pieces) (marks ++ list ∷ [])
  marked_more pieces marks i p list low is h marked =
      subst (λ l. AreMarked ends l (marks ++ list ∷ []))
      (ap (λ q. take i pieces ++ q ∷ []) is ∙ sym (take_more pieces i p low))
      (all_zipped_more HasMarks (take i pieces) marks p list h marked)

  -- the marks of the fragments of the piece with a number
  pub marked_at : (pieces : List Piece) (marks : List (Vec ℕ Global)) (i : ℕ) (p : Piece) (list : Vec ℕ Global)
      (piece : List Fragment) (here : List ℕ) → AreMarked ends pieces marks → i < length pieces
      → p ≡ get_or pieces i p → list ≡ get_or marks i list → piece ≡ p.items → here ≡ list.items
      → here ≡ marks_of ends piece
  marked_at pieces marks i p list piece here h low at_piece at_list same is = is ∙ ap (λ (l : Vec ℕ Global). l.items) at_list
      ∙ AllZip-at HasMarks pieces marks i p list h low ∙ ap (λ (q : Piece). marks_of ends q.items) (sym at_piece)
      ∙ ap (marks_of ends) (sym same)

  -- there are as many lists of marks as pieces
  pub lists_many : (pieces : List Piece) (marks : List (Vec ℕ Global)) → AreMarked ends pieces marks
      → length marks ≡ length pieces
  lists_many pieces marks h = sym (AllZip-length HasMarks pieces marks h)

  -- the marks of some pieces, and of others behind them
  pub marked_both : (low high : List Piece) (first others marks : List (Vec ℕ Global)) → AreMarked ends low first
      → AreMarked ends high others → marks ≡ first ++ others → AreMarked ends (low ++ high) marks
  marked_both low high first others marks h k behind =
      subst (AreMarked ends (low ++ high)) (sym behind) (AllZip-append HasMarks low first high others h k)
