-- What contracts see of a stream of the standard library behind the edge.
use Rattle.std.specs.Prelude.{ℕ, List, Option}
use Rattle.std.specs.declared.io.Error.{Error}

-- a stream, how many of its calls failed, and the error of the last of these
pub record Counted (S : Type 0) : Type 0 where
  pub stream : S
  pub faults : ℕ
  pub last : Option Error

-- a source, and the first bytes that it gave
pub record Kept (S : Type 0) : Type 0 where
  pub inner : S
  pub first : List ℕ
