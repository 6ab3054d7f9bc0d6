-- What was put in through a pass and what it was handed, beside the note of the cache's own words.
use Rattle.std.specs.Prelude.{List, [], ◌∷◌, ◌++◌, Option, option_to_list, IsPermutation}
use Rattle.flow_parts.specs.declared.fragment.Fragment.{Fragment}
use Rattle.cache_face.specs.Notes.{Note}

-- The fragments that were put in through a pass, in order, and those that it was handed.
pub record Book : Type 0 where
  pub taken : List Fragment
  pub handed : List Fragment

-- Nothing was put in yet.
abbrev pub first_book : Book
first_book = record { taken = []; handed = [] }

-- A fragment is put in, and a fragment is handed out, or none.
abbrev pub book_with : Book → Fragment → Option Fragment → Book
book_with book own out =
    record { taken = book.taken ++ own ∷ []; handed = book.handed ++ option_to_list out }

-- Two books as one.
abbrev pub merged_book : Book → Book → Book
merged_book one other = record { taken = one.taken ++ other.taken; handed = one.handed ++ other.handed }

-- The last of some books.
abbrev pub last_book : List Book → Book
last_book [] = first_book
last_book (book ∷ books) = book

-- What a pass has done: what its book lists, and the rest as its note of the cache's own words has it.
abbrev pub noted : Note → Book → Note
noted note book =
    record { seats = note.seats; taken = book.taken; handed = book.handed; seen = note.seen }

-- The book has what the note has, and some fragments besides, which were put in and handed out as they are.
pub record IsBeside (note : Note) (book : Book) : Type 0 where
  pub bypassed : List Fragment
  pub taken : IsPermutation book.taken (note.taken ++ bypassed)
  pub handed : IsPermutation book.handed (note.handed ++ bypassed)
