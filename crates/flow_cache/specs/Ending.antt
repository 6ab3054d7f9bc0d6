-- The entries at the end.
use Rattle.std.specs.Prelude.{ℕ, List, map}
use Rattle.std.specs.List.{range_with_len}
use Rattle.pebr_words.specs.Opening.{slot_of}
use Rattle.flow_cache.specs.Places.{cache_shape}

-- The contents of the first roots, of words that lie one after another.
abbrev pub rows_at : ℕ → ℕ → List ℕ → ℕ → List (List ℕ)
rows_at sets seats words count = map (slot_of (cache_shape sets seats) words) (range_with_len 0 count)
