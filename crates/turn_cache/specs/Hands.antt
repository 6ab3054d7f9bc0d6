-- What a seat knows.
use Rattle.std.specs.Prelude.{ℕ, suc, ◌+◌, ◌-◌, Bool, false, ◌==◌, ◌&&◌, cond, if◌then◌else◌, List, [], ◌∷◌, ◌++◌}
use Rattle.std.specs.Prelude.{length, Option, None, option_map, take, drop, nat_lt, slice_index_or}
use Rattle.flow_parts.specs.declared.fragment.Fragment.{Fragment}
use Rattle.cache_face.specs.Keeping.{entry_of}
use Rattle.cache_face.specs.Meaning.{Written}
use Rattle.cache_face.specs.Notes.{Note, unused_note, first_note, empty_note, merged_note}

-- What a seat is at: at no set; or it holds the turn of a set and reads its words; or, with the turn, it writes one
-- entry of the set, whose new ten words it keeps, and these words as they stand.
pub data Turn : Type 0 where
  idle : Turn
  reading : ℕ → Turn
  writing : ℕ → ℕ → List ℕ → List ℕ → Turn

-- The numbers that a seat stands for, of which it acts as the first; its note; the sets at which it lost a try, newest
-- first; what it is at; the set that its last try read, and the content words that it read there; what it wrote last.
pub record Hand : Type 0 where
  pub numbers : List ℕ
  pub note : Note
  pub lost : List ℕ
  pub turn : Turn
  pub set : ℕ
  pub read : List ℕ
  pub written : Option Written

-- What is written with ten words at a place.
abbrev pub written_as : ℕ → List ℕ → Option Written
written_as place content =
    option_map (λ (kept : Fragment). let wrote : Written = record { place = place; kept = kept } in wrote)
    (entry_of content)

-- A seat of these numbers that has done nothing.
abbrev pub new_hand : List ℕ → Note → Hand
new_hand numbers note = record {
  numbers = numbers;
  note = note;
  lost = [];
  turn = idle;
  set = 0;
  read = [];
  written = None;
}

-- A seat that was united with another.
abbrev pub spent_hand : Hand
spent_hand = new_hand [] empty_note

-- The number that a seat acts as.
abbrev pub number_of : List ℕ → ℕ
number_of numbers = slice_index_or numbers 0 0

-- The seat has the turn of the set.
abbrev pub is_at : ℕ → Turn → Bool
is_at set idle = false
is_at set (reading at) = at == set
is_at set (writing at place new now) = at == set

-- 1 where the seat has the turn of the set.
abbrev pub turns_held : ℕ → Hand → ℕ
turns_held set hand = cond (is_at set hand.turn) 1 0

-- What the turn word says of the seat: its number, counted from 1, where it has the turn.
abbrev pub claim : ℕ → Hand → ℕ
claim set hand = cond (is_at set hand.turn) (suc (number_of hand.numbers)) 0

-- 1 where the seat writes the entry.
abbrev pub at_work : ℕ → ℕ → Turn → ℕ
at_work set place idle = 0
at_work set place (reading at) = 0
at_work set place (writing at entry new now) = cond ((at == set) && (entry == place)) 1 0

-- How often a number stands among others.
abbrev pub times : ℕ → List ℕ → ℕ
times number [] = 0
times number (other ∷ others) = cond (other == number) 1 0 + times number others

-- 1 where the number is a seat's.
abbrev pub once_below : ℕ → ℕ → ℕ
once_below number seats = cond (nat_lt number seats) 1 0

-- A number of each seat, added up.
abbrev pub total : (Hand → ℕ) → List Hand → ℕ
total f [] = 0
total f (hand ∷ hands) = f hand + total f hands

-- The four entries that forty words show; none where there are more words or fewer.
abbrev pub entries_of : List ℕ → List (Option Fragment)
entries_of words = if length words == 40
    then entry_of (take 10 words) ∷ entry_of (take 10 (drop 10 words)) ∷ entry_of (take 10 (drop 20 words))
    ∷ entry_of (take 10 (drop 30 words)) ∷ []
    else []

-- At a split the new seat gets the first number, and the other keeps the rest.
abbrev pub rest_of : List ℕ → List ℕ
rest_of [] = []
rest_of (number ∷ numbers) = numbers

abbrev pub remaining_hand : Hand → Hand
remaining_hand hand = new_hand (rest_of hand.numbers) (unused_note (hand.note.seats - 1))

abbrev pub split_off : Hand → Hand
split_off hand = new_hand (number_of hand.numbers ∷ []) first_note

-- Two seats as one, which acts as the first.
abbrev pub united_hand : Hand → Hand → Hand
united_hand one other =
    record one {
      numbers = one.numbers ++ other.numbers;
      note = merged_note one.note other.note;
      lost =
          one.lost ++ other.lost;
    }
