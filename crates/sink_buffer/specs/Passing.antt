-- What passes through a buffer in front of a sink.
use Rattle.std.specs.Prelude.{◌≡◌, ℕ, List, ◌++◌, Option}
use Rattle.std.specs.Io.KnownBytes.{Appends}

-- Bytes were held, and a piece came behind them: the sink took the first of these, and the others are held now.
pub record IsPassed (before after : Option (List ℕ)) (held_before held_now piece : List ℕ) : Type 0 where
  pub taken : List ℕ
  pub appended : Appends before after taken
  pub whole : taken ++ held_now ≡ held_before ++ piece
