-- Where the words of a set lie: 64 words for each set, first its turn word, from the 17th on its forty content words.
-- So each lies on cache lines of its own.
use Rattle.std.specs.Prelude.{ℕ, ◌+◌, ◌*◌}

-- The word that says who has the turn.
abbrev pub turn_word : ℕ → ℕ
turn_word set = 64 * set

-- A content word of the set, counted from 0 to 39. Each entry has ten.
abbrev pub set_word : ℕ → ℕ → ℕ
set_word set k = 64 * set + 16 + k

-- The place of an entry among all contents.
abbrev pub content_place : ℕ → ℕ → ℕ
content_place set place = 4 * set + place
