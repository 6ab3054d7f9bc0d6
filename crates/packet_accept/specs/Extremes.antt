-- The least and the greatest of the numbers that a list's elements have.
use Rattle.std.specs.Prelude.{◌≡◌, ℕ, ◌≤◌, List, All, Any}

-- n is the least of the numbers that f gives: none is below it, and one is it.
pub record IsLeast {X : Type 0} (f : X → ℕ) (xs : List X) (n : ℕ) : Type 0 where
  pub bound : All (λ x. n ≤ f x) xs
  pub reached : Any (λ x. f x ≡ n) xs

-- n is the greatest of the numbers that f gives: none is above it, and one is it.
pub record IsGreatest {X : Type 0} (f : X → ℕ) (xs : List X) (n : ℕ) : Type 0 where
  pub bound : All (λ x. f x ≤ n) xs
  pub reached : Any (λ x. f x ≡ n) xs
