-- The clock of two lists of packets together, and of a permuted list.
use Rattle.std.proofs.Common.{◌≡◌, ◌∙◌, ℕ, ◌+◌, ◌≤◌, ◌⊎◌, inl, inr, max, List, [], ◌∷◌, ◌++◌, Option, Some, None, All}
use Rattle.std.proofs.Common.{Any, IsPermutation, length, length-append, refl, ap, sym, subst, arith}
use Rattle.std.proofs.lemmas.Bool.{cases_order}
use Rattle.std.proofs.lemmas.List.Elements.{All-append, All-weaker}
use Rattle.std.proofs.lemmas.List.Sorted.{All-permutation, Contains-permutation, length_permutation}
use Rattle.std.proofs.Math.ListN.{get_or-append}
use Rattle.std.proofs.lemmas.List.{get_or-append-add, append-nil}
use Rattle.packet_accept.specs.declared.packet.Packet.{Packet}
use Rattle.packet_accept.specs.Extremes.{IsGreatest}
use Rattle.packet_accept.specs.Clock.{IsClock, later_clock}

module _ {X : Type 0} (f : X → ℕ) where
  -- none is above a greater number either
  bound_more : (xs : List X) (n m : ℕ) → n ≤ m → All (λ x. f x ≤ n) xs → All (λ x. f x ≤ m) xs
  bound_more xs n m more h = All-weaker (λ x. f x ≤ n) (λ x. f x ≤ m) (λ x below. omega arith) xs h

  -- an element of one of two lists is one of both together
  reached_first : (P : X → Type 0) (xs ys : List X) → Any P xs → Any P (xs ++ ys)
  reached_first P xs ys (k, x, within, is, p) =
      (k, x, rw length-append (omega arith), get_or-append xs ys x k within ∙ is, p)

  reached_second : (P : X → Type 0) (xs ys : List X) → Any P ys → Any P (xs ++ ys)
  reached_second P xs ys (k, x, within, is, p) =
      (length xs + k, x, rw length-append (omega arith), get_or-append-add xs ys k x ∙ is, p)

  one_of_two : (n m : ℕ) → (max n m ≡ n) ⊎ (max n m ≡ m)
  one_of_two n m = elim (cases_order n m)
      [ inl e ↦ inl (omega arith) | inr (inl less) ↦ inr (omega arith) | inr (inr more) ↦ inl (omega arith) ]

  -- the greatest of two lists together is the greater of theirs
  greatest_together : (xs ys : List X) (n m : ℕ) → IsGreatest f xs n → IsGreatest f ys m
      → IsGreatest f (xs ++ ys) (max n m)
  greatest_together xs ys n m one two = record {
    bound = All-append (λ x. f x ≤ max n m) xs ys (bound_more xs n (max n m) (omega arith) one.bound)
        (bound_more ys m (max n m) (omega arith) two.bound);
    reached = elim (one_of_two n m) [
      | inl e ↦ subst (λ k. Any (λ x. f x ≡ k) (xs ++ ys)) (sym e) (reached_first (λ x. f x ≡ n) xs ys one.reached)
      | inr e ↦ subst (λ k. Any (λ x. f x ≡ k) (xs ++ ys)) (sym e) (reached_second (λ x. f x ≡ m) xs ys two.reached)
    ];
  }

pub clock_together : (packets others : List Packet) (one two : Option ℕ) → IsClock packets one → IsClock others two
    → IsClock (packets ++ others) (later_clock one two)
clock_together packets others None two one_is two_is = subst (λ ps. IsClock (ps ++ others) two) (sym one_is) two_is
clock_together packets others (Some time) None one_is two_is =
    subst (λ ps. IsClock (packets ++ ps) (Some time)) (sym two_is) (rw append-nil one_is)
clock_together packets others (Some time) (Some other) one_is two_is =
    greatest_together (λ (p : Packet). p.time) packets others time other one_is two_is

-- an element of a list is one of the permuted list
Any-permutation : {X : Type 0} (P : X → Type 0) (xs ys : List X) → IsPermutation xs ys → Any P xs → Any P ys
Any-permutation P xs ys s (k, x, within, is, p) =
    let there = Contains-permutation xs ys x s (k, within, is) in
    (there.0, x, there.1, there.2, p)

pub clock_permuted : (packets others : List Packet) (clock : Option ℕ) → IsPermutation packets others
    → IsClock packets clock → IsClock others clock
clock_permuted packets [] None s none = refl
clock_permuted packets (p ∷ others) None s none =
    absurd (omega (arith, length_permutation packets (p ∷ others) s, ap length none))
clock_permuted packets others (Some time) s is = record {
  bound = All-permutation (λ (p : Packet). p.time ≤ time) packets others s is.bound;
  reached = Any-permutation (λ (p : Packet). p.time ≡ time) packets others s is.reached;
}
