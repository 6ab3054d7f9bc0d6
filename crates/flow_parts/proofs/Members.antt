-- What holds of some element of a list, and of numbers that a list's elements have.
use Rattle.std.proofs.Common.{◌≡◌, ℕ, ◌≤◌, ◌⊎◌, inl, inr, min, max, bit_or, List, [], ◌∷◌, ◌++◌, refl, subst, arith}
use Rattle.std.proofs.Common.{All, Any, Contains, IsPermutation}
use Rattle.std.specs.Int.{bit_at}
use Rattle.std.proofs.lemmas.List.Elements.{All-append, All-cons, All-nil, All-contains, Contains-append_left}
use Rattle.std.proofs.lemmas.List.Elements.{Contains-append_right, Contains-append_cases, All-weaker}
use Rattle.std.proofs.lemmas.List.Sorted.{All-permutation, Contains-permutation, IsPermutation-sym}
use Rattle.std.proofs.lemmas.Nat.Bits.{bit_at_or, bit_at-lt}
use Rattle.std.proofs.lemmas.Bool.{cases_lt}
use Rattle.packet_accept.specs.Extremes.{IsLeast, IsGreatest}
use Rattle.flow_parts.specs.Union.{IsUnion}

module _ {X : Type 0} where
  -- between `Any` and an element that the list contains
  pub found : (P : X → Type 0) (xs : List X) → Any P xs → (x : X) × Contains xs x × P x
  found P xs a = (a.1, (a.0, a.2, a.3), a.4)

  pub among : (P : X → Type 0) (xs : List X) (x : X) → Contains xs x → P x → Any P xs
  among P xs x c p = (c.0, x, c.1, c.2, p)

  pub Any-append_left : (P : X → Type 0) (xs ys : List X) → Any P xs → Any P (xs ++ ys)
  Any-append_left P xs ys a = let f = found P xs a in among P (xs ++ ys) f.0 (Contains-append_left xs ys f.0 f.1) f.2

  pub Any-append_right : (P : X → Type 0) (xs ys : List X) → Any P ys → Any P (xs ++ ys)
  Any-append_right P xs ys a = let f = found P ys a in among P (xs ++ ys) f.0 (Contains-append_right xs ys f.0 f.1) f.2

  pub Any-append_cases : (P : X → Type 0) (xs ys : List X) → Any P (xs ++ ys) → Any P xs ⊎ Any P ys
  Any-append_cases P xs ys a =
      let f = found P (xs ++ ys) a in
      elim (Contains-append_cases xs ys f.0 f.1)
      [ inl c ↦ inl (among P xs f.0 c f.2) | inr c ↦ inr (among P ys f.0 c f.2) ]

  pub Any-permutation : (P : X → Type 0) (xs ys : List X) → IsPermutation xs ys → Any P xs → Any P ys
  Any-permutation P xs ys s a = let f = found P xs a in among P ys f.0 (Contains-permutation xs ys f.0 s f.1) f.2

  pub Any-weaker : (P Q : X → Type 0) → ((x : X) → P x → Q x) → (xs : List X) → Any P xs → Any Q xs
  Any-weaker P Q weaker xs a = (a.0, a.1, a.2, a.3, weaker a.1 a.4)

  pub Any-one : (P : X → Type 0) (x : X) → P x → Any P (x ∷ [])
  Any-one P x p = (0, x, omega arith, refl, p)

  pub All-one : (P : X → Type 0) (x : X) → P x → All P (x ∷ [])
  All-one P x p = All-cons P x [] p (All-nil P)

  pub one-Any : (P : X → Type 0) (x : X) → Any P (x ∷ []) → P x
  one-Any P x a =
      let f = found P (x ∷ []) a in
      subst P (All-contains (λ y. y ≡ x) (x ∷ []) f.0 (All-one (λ y. y ≡ x) x refl) f.1) f.2

  module _ (f : X → ℕ) where
    pub IsLeast-append : (xs ys : List X) (m n : ℕ) → IsLeast f xs m → IsLeast f ys n → IsLeast f (xs ++ ys) (min m n)
    IsLeast-append xs ys m n a b =
        let Q : X → Type 0 = λ x. f x ≡ min m n in
        let R : X → Type 0 = λ x. min m n ≤ f x in
        record {
          bound = All-append R xs ys (All-weaker (λ x. m ≤ f x) R (λ x h. omega arith) xs a.bound)
              (All-weaker (λ x. n ≤ f x) R (λ x h. omega arith) ys b.bound);
          reached = elim (cases_lt n m) [
            | inl l ↦ Any-append_right Q xs ys (Any-weaker (λ x. f x ≡ n) Q (λ x e. omega arith) ys b.reached)
            | inr l ↦ Any-append_left Q xs ys (Any-weaker (λ x. f x ≡ m) Q (λ x e. omega arith) xs a.reached)
          ];
        }

    pub IsGreatest-append : (xs ys : List X) (m n : ℕ) → IsGreatest f xs m → IsGreatest f ys n
        → IsGreatest f (xs ++ ys) (max m n)
    IsGreatest-append xs ys m n a b =
        let Q : X → Type 0 = λ x. f x ≡ max m n in
        let R : X → Type 0 = λ x. f x ≤ max m n in
        record {
          bound = All-append R xs ys (All-weaker (λ x. f x ≤ m) R (λ x h. omega arith) xs a.bound)
              (All-weaker (λ x. f x ≤ n) R (λ x h. omega arith) ys b.bound);
          reached = elim (cases_lt m n) [
            | inl l ↦ Any-append_right Q xs ys (Any-weaker (λ x. f x ≡ n) Q (λ x e. omega arith) ys b.reached)
            | inr l ↦ Any-append_left Q xs ys (Any-weaker (λ x. f x ≡ m) Q (λ x e. omega arith) xs a.reached)
          ];
        }

    pub IsUnion-append : (xs ys : List X) (m n : ℕ) → IsUnion f xs m → IsUnion f ys n
        → IsUnion f (xs ++ ys) (bit_or m n)
    IsUnion-append xs ys m n a b = record {
      bits = λ bit.
          let Q : X → Type 0 = λ x. bit_at (f x) bit ≡ 1 in
          let both = bit_at_or m n bit in
          let low = bit_at-lt m bit in
          let low' = bit_at-lt n bit in (
            λ e. elim (cases_lt 0 (bit_at m bit)) [
              | inl l ↦ Any-append_left Q xs ys ((a.bits bit).0 (omega arith))
              | inr l ↦ Any-append_right Q xs ys ((b.bits bit).0 (omega arith))
            ],
            λ h. elim (Any-append_cases Q xs ys h) [
              | inl h' ↦ (let e = (a.bits bit).1 h' in omega arith)
              | inr h' ↦ (let e = (b.bits bit).1 h' in omega arith)
            ],
          );
    }

    pub IsLeast-permutation : (xs ys : List X) (n : ℕ) → IsPermutation xs ys → IsLeast f xs n → IsLeast f ys n
    IsLeast-permutation xs ys n s a = record {
      bound = All-permutation (λ x. n ≤ f x) xs ys s a.bound;
      reached = Any-permutation (λ x. f x ≡ n) xs ys s a.reached;
    }

    pub IsGreatest-permutation : (xs ys : List X) (n : ℕ) → IsPermutation xs ys → IsGreatest f xs n → IsGreatest f ys n
    IsGreatest-permutation xs ys n s a = record {
      bound = All-permutation (λ x. f x ≤ n) xs ys s a.bound;
      reached = Any-permutation (λ x. f x ≡ n) xs ys s a.reached;
    }

    pub IsUnion-permutation : (xs ys : List X) (n : ℕ) → IsPermutation xs ys → IsUnion f xs n → IsUnion f ys n
    IsUnion-permutation xs ys n s a = record {
      bits = λ bit.
          let Q : X → Type 0 = λ x. bit_at (f x) bit ≡ 1 in (
            λ e. Any-permutation Q xs ys s ((a.bits bit).0 e),
            λ h. (a.bits bit).1
                (Any-permutation Q ys xs (IsPermutation-sym xs ys s) h),
          );
    }

    pub IsLeast-one : (x : X) → IsLeast f (x ∷ []) (f x)
    IsLeast-one x =
        record { bound = All-one (λ y. f x ≤ f y) x (omega arith); reached = Any-one (λ y. f y ≡ f x) x refl }

    pub IsGreatest-one : (x : X) → IsGreatest f (x ∷ []) (f x)
    IsGreatest-one x =
        record { bound = All-one (λ y. f y ≤ f x) x (omega arith); reached = Any-one (λ y. f y ≡ f x) x refl }

    pub IsUnion-one : (x : X) → IsUnion f (x ∷ []) (f x)
    IsUnion-one x =
        record {
          bits =
              λ bit. (λ e. Any-one (λ y. bit_at (f y) bit ≡ 1) x e, λ a. one-Any (λ y. bit_at (f y) bit ≡ 1) x a);
        }
