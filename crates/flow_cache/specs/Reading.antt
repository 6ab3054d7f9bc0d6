-- The entries that a pass read since it last entered.
use Rattle.std.specs.Prelude.{ℕ, List, [], ◌∷◌, length, Option, None, Some, ◌==◌, if◌then◌else◌, flat_map, filter_map}
use Rattle.std.specs.Prelude.{◌%◌, option_map}
use Rattle.std.specs.List.{range_with_len}
use Rattle.flow_parts.specs.declared.fragment.Fragment.{Fragment}
use Rattle.cache_face.specs.Keeping.{entry_of}
use Rattle.cache_face.specs.Meaning.{Written}
use Rattle.pebr_words.specs.Pasts.{Load, Read, Replaced, History, shown_at, written_at}
use Rattle.flow_cache.specs.Places.{root_of, set_of_root}

-- The words of a slot that were read, in their order, each as it was read last.
unfoldable pub words_read : List Read → ℕ → List ℕ
words_read reads slot = filter_map (written_at reads slot) (range_with_len 0 10)

-- The entry of the slot that was found in a root, as a list of one; nothing where no slot was found, or one of its ten
-- words wasn't read.
abbrev pub entry_found : List Read → Option ℕ → List (Option Fragment)
entry_found reads None = []
entry_found reads (Some slot) = if length (words_read reads slot) == 10 then entry_of (words_read reads slot) ∷ []
    else []

-- The entry of a root: that of the slot which its last load found there.
abbrev pub entry_read : History → ℕ → List (Option Fragment)
entry_read past root = entry_found past.reads (shown_at past.loads root)

-- The entries of a set that were read: four, where its four roots were loaded and all words of their slots read.
abbrev pub entries_read : History → ℕ → List (Option Fragment)
entries_read past set = flat_map (λ place. entry_read past (root_of set place)) (range_with_len 0 4)

-- The set of the root that was loaded last.
abbrev pub set_read : List Load → ℕ
set_read [] = 0
set_read (load ∷ loads) = set_of_root load.root

-- What was put into a root, as its place in the root's set and the fragment that its words show.
abbrev pub written_in : Option Replaced → Option Written
written_in None = None
written_in (Some put) =
    option_map (λ (kept : Fragment). let wrote : Written = record { place = put.root % 4; kept = kept } in wrote)
    (entry_of (words_read put.written put.slot))
