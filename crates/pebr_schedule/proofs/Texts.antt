-- Texts made of a piece for each number of a range.
use Rattle.std.proofs.Common.{◌≡◌, ℕ, ◌+◌, zero, suc, List, ◌++◌, flat_map, sym, ◌∙◌, ap, arith, append_assoc}
use Rattle.std.proofs.Common.{append-nil, add-zero, add-one}
use Rattle.std.specs.List.{range_with_len}

flat_range_from : {A : Type 0} (f : ℕ → List A) (a n : ℕ)
    → flat_map f (range_with_len a (suc n)) ≡ flat_map f (range_with_len a n) ++ f (a + n)
flat_range_from f a zero = append-nil (f a) ∙ ap f (sym (add-zero a))
flat_range_from f a (suc n) =
    ap (λ l. f a ++ l) (flat_range_from f (a + 1) n)
    ∙ (sym (append_assoc (f a) (flat_map f (range_with_len (a + 1) n)) (f (a + 1 + n)))
    ∙ ap (λ k. (f a ++ flat_map f (range_with_len (a + 1) n)) ++ f k)
    (let e : a + 1 + n ≡ a + suc n = omega arith in e))

-- one piece more
pub flat_range : {A : Type 0} (f : ℕ → List A) (n : ℕ)
    → flat_map f (range_with_len 0 (n + 1)) ≡ flat_map f (range_with_len 0 n) ++ f n
flat_range f n = ap (λ k. flat_map f (range_with_len 0 k)) (add-one n)
    ∙ (flat_range_from f 0 n ∙ ap (λ k. flat_map f (range_with_len 0 n) ++ f k) (let e : 0 + n ≡ n = omega arith in e))

-- a text that has grown by the next piece
pub text_more : {A : Type 0} (f : ℕ → List A) (n : ℕ) (start now next : List A)
    → now ≡ start ++ flat_map f (range_with_len 0 n) → next ≡ now ++ f n
    → next ≡ start ++ flat_map f (range_with_len 0 (n + 1))
text_more f n start now next h k =
    k ∙ (ap (λ l. l ++ f n) h
    ∙ (append_assoc start (flat_map f (range_with_len 0 n)) (f n) ∙ ap (λ l. start ++ l) (sym (flat_range f n))))
