-- The code's own: the octets of a block, and of an option, are there.
use Rattle.std.specs.Prelude.{ℕ, ◌+◌, ◌≤◌, List, length, ⊤}
use Rattle.pcapng_reader.specs.declared.front.Front.{Front}
use Rattle.pcapng_reader.specs.declared.options.NextOption.{NextOption}
use Rattle.pcapng_reader.specs.declared.options.NextOption.TheVariants as Next
use Rattle.pcapng_reader.specs.Options.{padded_length}

-- a block has at least 12 octets
pub record IsLenOf (bytes : List ℕ) (len : ℕ) : Type 0 where
  pub some : 12 ≤ len
  pub within : len ≤ length bytes

abbrev pub IsFrontOf : List ℕ → Front → Type 0
IsFrontOf bytes (Front.Block order len) = IsLenOf bytes len
IsFrontOf bytes Front.Tail = ⊤
IsFrontOf bytes Front.Malformed = ⊤

-- the value of an option, padded, ends within the octets
abbrev pub IsNextOf : List ℕ → NextOption → Type 0
IsNextOf octets (Next.Coded code len) = 4 + padded_length len ≤ length octets
IsNextOf octets Next.Last = ⊤
IsNextOf octets Next.Beyond = ⊤
