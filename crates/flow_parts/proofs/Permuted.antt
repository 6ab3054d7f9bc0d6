-- Two lists whose elements go together are permuted alike.
use Rattle.std.proofs.Common.{◌≡◌, ℕ, zero, suc, ◌<◌, List, [], ◌∷◌, ◌++◌, length, get_or, set, refl, arith}
use Rattle.std.proofs.Common.{IsPermutation}
use Rattle.std.specs.List.{AllZip, swap}
use Rattle.std.proofs.lemmas.List.Sorted.{IsPermutation-refl, IsPermutation-trans, IsPermutation-keeps}
use Rattle.std.proofs.lemmas.List.Sorted.{IsPermutation-swap}

module _ {A B : Type 0} (R : A → B → Type 0) where
  pub AllZip-append : (us : List A) (vs : List B) (ws : List A) (zs : List B) → AllZip R us vs → AllZip R ws zs
      → AllZip R (us ++ ws) (vs ++ zs)
  AllZip-append [] [] ws zs h k = k
  AllZip-append [] (b ∷ vs) ws zs h k = absurd h
  AllZip-append (a ∷ us) [] ws zs h k = absurd h
  AllZip-append (a ∷ us) (b ∷ vs) ws zs h k = (h.0, AllZip-append us vs ws zs h.1 k)

  pub AllZip-set : (us : List A) (vs : List B) (i : ℕ) (a : A) (b : B) → AllZip R us vs → R a b
      → AllZip R (set us i a) (set vs i b)
  AllZip-set [] [] i a b h r = h
  AllZip-set [] (y ∷ ys) i a b h r = absurd h
  AllZip-set (x ∷ xs) [] i a b h r = absurd h
  AllZip-set (x ∷ xs) (y ∷ ys) zero a b h r = (r, h.1)
  AllZip-set (x ∷ xs) (y ∷ ys) (suc i) a b h r = (h.0, AllZip-set xs ys i a b h.1 r)

  pub AllZip-length : (us : List A) (vs : List B) → AllZip R us vs → length us ≡ length vs
  AllZip-length [] [] h = refl
  AllZip-length [] (y ∷ ys) h = absurd h
  AllZip-length (x ∷ xs) [] h = absurd h
  AllZip-length (x ∷ xs) (y ∷ ys) h = (let e = AllZip-length xs ys h.1 in omega arith)

  pub AllZip-at : (us : List A) (vs : List B) (i : ℕ) (a : A) (b : B) → AllZip R us vs → i < length us
      → R (get_or us i a) (get_or vs i b)
  AllZip-at [] [] i a b h p = absurd (omega arith)
  AllZip-at [] (y ∷ ys) i a b h p = absurd h
  AllZip-at (x ∷ xs) [] i a b h p = absurd h
  AllZip-at (x ∷ xs) (y ∷ ys) zero a b h p = h.0
  AllZip-at (x ∷ xs) (y ∷ ys) (suc i) a b h p = AllZip-at xs ys i a b h.1 (omega arith)

  AllZip-swap : (us : List A) (vs : List B) (i j : ℕ) → i < length us → j < length us → AllZip R us vs
      → AllZip R (swap us i j) (swap vs i j)
  AllZip-swap [] [] i j p q h = h
  AllZip-swap [] (y ∷ ys) i j p q h = absurd h
  AllZip-swap (x ∷ xs) [] i j p q h = absurd h
  AllZip-swap (x ∷ xs) (y ∷ ys) i j p q h =
      let us : List A = x ∷ xs in
      let vs : List B = y ∷ ys in
      AllZip-set (set us i (get_or us j x)) (set vs i (get_or vs j y)) j (get_or us i x) (get_or vs i y)
      (AllZip-set us vs i (get_or us j x) (get_or vs j y) h (AllZip-at us vs j x y h q)) (AllZip-at us vs i x y h p)

  -- where the second of two lists whose elements go together is permuted, the first can be permuted alike
  pub AllZip-permutation : (us : List A) (vs ws : List B) → AllZip R us vs → IsPermutation vs ws
      → (zs : List A) × IsPermutation us zs × AllZip R zs ws
  AllZip-permutation us vs ws h s =
      IsPermutation-keeps vs (λ l. (zs : List A) × IsPermutation us zs × AllZip R zs l) (us, IsPermutation-refl us, h)
      (λ l i j p q k.
      let long : length k.0 ≡ length l = AllZip-length k.0 l k.2 in
      let p' : i < length k.0 = omega arith in
      let q' : j < length k.0 = omega arith in (
        swap k.0 i j,
        IsPermutation-trans us k.0 (swap k.0 i j) k.1
            (IsPermutation-swap k.0 (swap k.0 i j) i j p' q' refl),
        AllZip-swap k.0 l i j p' q' k.2,
      ))
      ws s
