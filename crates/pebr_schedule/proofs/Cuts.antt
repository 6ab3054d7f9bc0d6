-- Pieces of a text, by the first place of a byte.
use Rattle.std.proofs.Common.{◌≡◌, ◌≢◌, ℕ, ◌<◌, zero, suc, List, [], ◌∷◌, ◌++◌, length, get_or, take, drop, Option}
use Rattle.std.proofs.Common.{Some, None, option_map, option_and_then, cond, refl, sym, ◌∙◌, ap, arith, append_assoc}
use Rattle.std.proofs.lemmas.Bool.{eq-eqb, ne_eqb}
use Rattle.pebr_schedule.specs.Numbers.{with_front, pieces_of, number_of, numbers_of}

-- where the byte isn't there, the text is one piece
pub cut_none : (at : ℕ) (text : List ℕ) → ((k : ℕ) → k < length text → get_or text k 0 ≢ at)
    → pieces_of at text ≡ text ∷ []
cut_none at [] h = refl
cut_none at (b ∷ bs) h =
    ap (λ t. cond t ([] ∷ pieces_of at bs) (with_front b (pieces_of at bs))) (ne_eqb b at (h 0 (omega arith)))
    ∙ ap (with_front b) (cut_none at bs (λ k lt. h (suc k) (omega arith)))

-- at its first place the text is cut
pub cut_at : (at : ℕ) (text : List ℕ) (i : ℕ) → i < length text → get_or text i 0 ≡ at
    → ((k : ℕ) → k < i → get_or text k 0 ≢ at) → pieces_of at text ≡ take i text ∷ pieces_of at (drop (suc i) text)
cut_at at [] i inside here before = absurd (omega arith)
cut_at at (b ∷ bs) zero inside here before =
    ap (λ t. cond t ([] ∷ pieces_of at bs) (with_front b (pieces_of at bs))) (eq-eqb b at here)
cut_at at (b ∷ bs) (suc i) inside here before =
    ap (λ t. cond t ([] ∷ pieces_of at bs) (with_front b (pieces_of at bs))) (ne_eqb b at (before 0 (omega arith)))
    ∙ ap (with_front b) (cut_at at bs i (omega arith) here (λ k lt. before (suc k) (omega arith)))

-- numbers before others
abbrev pub joined : List ℕ → Option (List ℕ) → Option (List ℕ)
joined front numbers = option_map (λ ns. front ++ ns) numbers

pub joined-empty : (o : Option (List ℕ)) → joined [] o ≡ o
joined-empty None = refl
joined-empty (Some ns) = refl

-- how much of a text is left
abbrev pub left : Option (List ℕ) → ℕ
left None = 0
left (Some text) = suc (length text)

-- one more number
pub numbers_more : (front : List ℕ) (piece : List ℕ) (pieces : List (List ℕ)) (value : ℕ) → number_of piece ≡ Some value
    → joined front (numbers_of (piece ∷ pieces)) ≡ joined (front ++ value ∷ []) (numbers_of pieces)
numbers_more front piece pieces value h = ap
    (λ o. joined front (option_and_then (λ number. option_map (λ ns. number ∷ ns) (numbers_of pieces)) o)) h
    ∙ step (numbers_of pieces)
  where
    step : (o : Option (List ℕ)) → joined front (option_map (λ ns. value ∷ ns) o) ≡ joined (front ++ value ∷ []) o
    step None = refl
    step (Some ns) = ap (λ l. Some l) (sym (append_assoc front (value ∷ []) ns))

pub numbers_stop : (front : List ℕ) (piece : List ℕ) (pieces : List (List ℕ)) → number_of piece ≡ None
    → joined front (numbers_of (piece ∷ pieces)) ≡ None
numbers_stop front piece pieces h =
    ap (λ o. joined front (option_and_then (λ number. option_map (λ ns. number ∷ ns) (numbers_of pieces)) o)) h
