-- What a pass has done.
use Rattle.std.specs.Prelude.{ℕ, ◌+◌, List, [], ◌∷◌, ◌++◌, Option, option_to_list}
use Rattle.flow_parts.specs.declared.fragment.Fragment.{Fragment}

-- How many seats a pass stands for, the fragments that were put in through it, in order, the fragments that it was
-- handed, and the entries that it saw, in order.
pub record Note : Type 0 where
  pub seats : ℕ
  pub taken : List Fragment
  pub handed : List Fragment
  pub seen : List Fragment

-- So many seats that have done nothing.
abbrev pub unused_note : ℕ → Note
unused_note seats = record { seats = seats; taken = []; handed = []; seen = [] }

-- A pass of one seat that has done nothing.
abbrev pub first_note : Note
first_note = unused_note 1

-- A pass that was united with another, and has nothing left.
abbrev pub empty_note : Note
empty_note = unused_note 0

-- Two passes as one.
abbrev pub merged_note : Note → Note → Note
merged_note one other =
    record {
      seats = one.seats + other.seats;
      taken = one.taken ++ other.taken;
      handed = one.handed ++ other.handed;
      seen = one.seen ++ other.seen;
    }

-- A fragment is put in, and a fragment is handed out, or none.
abbrev pub note_with : Note → Fragment → Option Fragment → Note
note_with note own out =
    record {
      seats = note.seats;
      taken = note.taken ++ own ∷ [];
      handed = note.handed ++ option_to_list out;
      seen = note.seen;
    }

-- An entry is seen.
abbrev pub note_seeing : Note → Fragment → Note
note_seeing note entry =
    record { seats = note.seats; taken = note.taken; handed = note.handed; seen = note.seen ++ entry ∷ [] }
