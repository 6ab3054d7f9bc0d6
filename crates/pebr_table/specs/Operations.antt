-- What is done to words that threads share.
use Rattle.std.specs.Prelude.{◌≡◌, ℕ, ◌==◌, List, slice_index, slice_set, if◌then◌else◌}

-- An operation on a word: a load, with what it found; a store, with what it wrote; a compare and exchange, with what it
-- expected, what it would write, and what it found.
pub data Op : Type 0 where
  load : ℕ → ℕ → Op
  store : ℕ → ℕ → Op
  exchange : ℕ → ℕ → ℕ → ℕ → Op

-- It found what the word had.
abbrev pub IsTrueOf : Op → List ℕ → Type 0
IsTrueOf (load word found) words = slice_index words word ≡ found
IsTrueOf (store word value) words = Unit {0}
IsTrueOf (exchange word expected value found) words = slice_index words word ≡ found

-- the words afterwards
abbrev pub words_after : Op → List ℕ → List ℕ
words_after (load word found) words = words
words_after (store word value) words = slice_set words word value
words_after (exchange word expected value found) words =
    if found == expected then slice_set words word value else words
