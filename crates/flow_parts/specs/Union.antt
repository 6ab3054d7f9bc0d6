-- The union of the numbers that a list's elements have, as sets of bits.
use Rattle.std.specs.Prelude.{◌≡◌, ℕ, ◌↔◌, List, Any}
use Rattle.std.specs.Int.{bit_at}

-- n is the union of the sets of bits that f gives: a bit is set in it exactly where one of them has it set.
pub record IsUnion {X : Type 0} (f : X → ℕ) (xs : List X) (n : ℕ) : Type 0 where
  pub bits : (bit : ℕ) → (bit_at n bit ≡ 1) ↔ Any (λ x. bit_at (f x) bit ≡ 1) xs
