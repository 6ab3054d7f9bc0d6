-- What a seat keeps at run time of what it knows.
use Rattle.std.specs.Prelude.{◌≡◌, ◌≢◌, ℕ, ◌≤◌, ◌<◌, ◌^◌, Bool, true, false, List, length, count_by, Option, Some, None}
use Rattle.std.specs.Prelude.{if◌then◌else◌, slice_index, slice_index_or, slice_set}
use Rattle.pebr_core.specs.declared.kinds.Stance.{Stance}
use Rattle.pebr_core.specs.declared.kinds.Stance.TheVariants as stance
use Rattle.pebr_core.specs.declared.kinds.Answer.{Answer}
use Rattle.pebr_core.specs.declared.kinds.Answer.TheVariants as answer
use Rattle.pebr_core.specs.declared.kinds.Shape.{Shape}
use Rattle.pebr_core.specs.declared.kinds.Retired.TheVariants as retire
use Rattle.pebr_core.specs.State.{Seat, Scan, has, is_retired, scan_of, found_at, first_seat, slots_per_seat}
use Rattle.pebr_slots.specs.Sets.{Sets, is_above}
use Rattle.pebr_core.specs.Steps.{last_epoch, after_pass, with_scan, with_look, epoch_of}
use Rattle.pebr_words.specs.declared.looked.Looked.{Looked}
use Rattle.pebr_words.specs.declared.looked.Looked.TheVariants as looked

-- the noted epoch, the slots, and for each seat the epoch that the scan found it in with
pub record Mirrors (noted : ℕ) (slots : Sets) (found : List ℕ) (known : Seat) : Type 0 where
  pub noted_is : known.noted ≡ noted
  pub low : noted ≤ last_epoch
  pub fresh_is : slots.fresh ≡ known.fresh
  pub retired_is : slots.retired ≡ known.retired
  pub kept_is : (scan : Scan) → known.scan ≡ Some scan → slots.kept ≡ scan.kept
  pub few : (other : ℕ) → slice_index found other < 2 ^ 62
  pub found_is : (other epoch : ℕ) → found_at (scan_of known) other ≡ Some epoch → slice_index found other ≡ epoch

-- whether a seat with this status can be passed
abbrev pub passes : Option ℕ → Stance → Bool
passes newest stance.Out = true
passes newest (stance.Ejected epoch) = true
passes newest (stance.In epoch) = is_above newest epoch

-- the answer to a look that found this status
abbrev pub look_answer : Option ℕ → Stance → Answer
look_answer newest stance.Out = answer.Passed
look_answer newest (stance.Ejected epoch) = answer.Passed
look_answer newest (stance.In epoch) = if is_above newest epoch then answer.Passed else answer.In epoch

abbrev pub answer_as : Looked → Answer
answer_as looked.Passed = answer.Passed
answer_as (looked.In epoch) = answer.In epoch

abbrev pub in_epoch : Stance → Option ℕ
in_epoch stance.Out = None
in_epoch (stance.Ejected epoch) = None
in_epoch (stance.In epoch) = Some epoch

-- what a seat knows after a look with this answer
abbrev pub looked_from : ℕ → Looked → Seat → Seat
looked_from other looked.Passed seat = after_pass other seat
looked_from other (looked.In epoch) seat = with_scan seat (with_look (scan_of seat) other epoch)

-- what is kept of the epochs found, after a look with this answer
abbrev pub found_after : List ℕ → ℕ → Looked → List ℕ
found_after found other looked.Passed = found
found_after found other (looked.In epoch) = slice_set found other epoch

abbrev pub IsLow : Looked → Type 0
IsLow looked.Passed = Unit {0}
IsLow (looked.In epoch) = epoch < 2 ^ 62

-- what a seat knows of itself once it has found that it was ejected
abbrev pub ejected_seat : Seat → Seat
ejected_seat seat = record seat { status = stance.Ejected (epoch_of seat.status) }

-- the slots of a seat that has done nothing
abbrev pub IsFirst : Shape → ℕ → Sets → Type 0
IsFirst shape number slots = (slots.fresh ≡ (first_seat shape number).fresh)
    × (slots.retired ≡ (first_seat shape number).retired) × (slots.room ≡ slots_per_seat shape)

-- The slots let this one be retired and this fresh one be taken.
pub record CanTake (slots : Sets) (old new : ℕ) : Type 0 where
  pub unretired : slice_index_or slots.retired old retire.No ≡ retire.No
  pub apart : has slots.fresh old ≡ false
  pub fresh : has slots.fresh new ≡ true
  pub range : old < length slots.retired
  pub room : count_by is_retired slots.retired < slots.room

-- The slots let the slot under a shield be kept.
abbrev pub CanKeep : Sets → Option ℕ → Type 0
CanKeep slots None = Unit {0}
CanKeep slots (Some slot) = (slot < length slots.retired)
    × (slice_index_or slots.retired slot retire.No ≢ retire.Untagged)

-- what is kept, once a shield was read
abbrev pub kept_after : Sets → Option ℕ → List Bool
kept_after slots None = slots.kept
kept_after slots (Some slot) = if is_retired (slice_index_or slots.retired slot retire.No)
    then slice_set slots.kept slot true else slots.kept
