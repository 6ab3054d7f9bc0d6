-- The contents that words show. The code's own: it reads them so at the end.
use Rattle.std.specs.Prelude.{ℕ, ◌+◌, ◌*◌, zero, suc, List, [], ◌∷◌, ◌++◌, slice_index}
use Rattle.turn_cache.specs.Places.{set_word}

-- The ten words of an entry.
abbrev pub content_at : List ℕ → ℕ → ℕ → List ℕ
content_at words set place =
    slice_index words (set_word set (10 * place + 0)) ∷ slice_index words (set_word set (10 * place + 1))
    ∷ slice_index words (set_word set (10 * place + 2))
    ∷ slice_index words (set_word set (10 * place + 3)) ∷ slice_index words (set_word set (10 * place + 4))
    ∷ slice_index words (set_word set (10 * place + 5))
    ∷ slice_index words (set_word set (10 * place + 6)) ∷ slice_index words (set_word set (10 * place + 7))
    ∷ slice_index words (set_word set (10 * place + 8))
    ∷ slice_index words (set_word set (10 * place + 9)) ∷ []

-- The four contents of a set.
abbrev pub four_at : List ℕ → ℕ → List (List ℕ)
four_at words set = content_at words set 0 ∷ content_at words set 1 ∷ content_at words set 2
    ∷ content_at words set 3 ∷ []

-- The contents of the first sets.
abbrev pub contents_at : List ℕ → ℕ → List (List ℕ)
contents_at words zero = []
contents_at words (suc sets) = contents_at words sets ++ four_at words sets
