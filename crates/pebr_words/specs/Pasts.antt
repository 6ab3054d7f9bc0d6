-- What a seat's steps were, so far as the seat remembers them.
use Rattle.std.specs.Prelude.{ℕ, ◌+◌, Bool, true, false, ◌&&◌, ◌||◌, List, [], ◌∷◌, Option, Some, None, if◌then◌else◌}
use Rattle.std.specs.Prelude.{◌==◌, max}
use Rattle.pebr_core.specs.declared.kinds.Retired.{Retired}
use Rattle.pebr_core.specs.declared.kinds.Retired.TheVariants as retire
use Rattle.pebr_core.specs.declared.kinds.Step.{Step}
use Rattle.pebr_core.specs.declared.kinds.Step.TheVariants as step
use Rattle.pebr_core.specs.declared.kinds.Answer.{Answer}
use Rattle.pebr_core.specs.declared.kinds.Answer.TheVariants as answer
use Rattle.pebr_core.specs.State.{Seat, has}
use Rattle.pebr_core.specs.Steps.{is_shielded, found_epoch}

-- The seat 'by' ejected the seat 'other', which was in since 'epoch', for a slot that was retired with 'tag'.
pub record Ejection : Type 0 where
  pub by : ℕ
  pub other : ℕ
  pub epoch : ℕ
  pub tag : ℕ

-- the slot of a root, as it was loaded
pub record Load : Type 0 where
  pub root : ℕ
  pub slot : ℕ

-- the word of a slot, as it was read
pub record Read : Type 0 where
  pub slot : ℕ
  pub word : ℕ
  pub value : ℕ

-- A try that other seats made futile: a check that found the seat ejected, or a replacement that found another slot in
-- this root.
pub data Lost : Type 0 where
  was_ejected : Lost
  found_other : ℕ → Lost

-- the slot that was put into a root, and what was written before into slots that were fresh
pub record Replaced : Type 0 where
  pub root : ℕ
  pub slot : ℕ
  pub written : List Read

pub record History : Type 0 where
  -- what its last step answered
  pub last : Answer
  -- how many steps it made, and of these how many of four kinds
  pub steps : ℕ
  pub notes : ℕ
  pub advances : ℕ
  pub pins : ℕ
  pub gives : ℕ
  -- its loads and its reads since its last pin, the newest first
  pub loads : List Load
  pub reads : List Read
  -- the slots that its loads and replacements since its last pin showed in roots or left there, the newest first
  pub shown : List Load
  -- what it wrote into slots that are fresh at it, the newest first
  pub written : List Read
  -- its last replacement: the root, the slot, and what it had written then
  pub put : Option Replaced
  -- the tries that it lost, at most one for each pin, the newest first, and whether one since its last pin
  pub lost : List Lost
  pub has_lost : Bool
  -- the ejections that it made, the newest first
  pub ejections : List Ejection

abbrev pub no_history : History
no_history = record {
  last = answer.Out;
  steps = 0;
  notes = 0;
  advances = 0;
  pins = 0;
  gives = 0;
  loads = [];
  reads = [];
  shown = [];
  written = [];
  put = None;
  lost = [];
  has_lost = false;
  ejections = [];
}

-- what answers tell
abbrev pub slot_in : Answer → ℕ
slot_in (answer.Slot slot) = slot
slot_in _ = 0

abbrev pub value_in : Answer → ℕ
value_in (answer.Word value) = value
value_in _ = 0

abbrev pub is_ejected : Answer → Bool
is_ejected answer.Ejected = true
is_ejected _ = false

abbrev pub is_replaced : Answer → Bool
is_replaced answer.Replaced = true
is_replaced _ = false

-- the greatest tag, 0 where there is none
abbrev pub newest_tag : List Retired → ℕ
newest_tag [] = 0
newest_tag (retire.No ∷ slots) = newest_tag slots
newest_tag (retire.Untagged ∷ slots) = newest_tag slots
newest_tag (retire.Tagged tag ∷ slots) = max tag (newest_tag slots)

-- the reads of other slots
abbrev pub without_slot : ℕ → List Read → List Read
without_slot slot [] = []
without_slot slot (read ∷ reads) = if read.slot == slot then without_slot slot reads else read ∷ without_slot slot reads

-- A seat has hold of a slot where it has seen it, or a shield of it is valid on it.
abbrev pub has_hold : Seat → ℕ → Bool
has_hold seat slot = has seat.seen slot || is_shielded seat slot

-- the slot that was last shown in a root or left there
abbrev pub shown_at : List Load → ℕ → Option ℕ
shown_at [] root = None
shown_at (load ∷ loads) root = if load.root == root then Some load.slot else shown_at loads root

-- what was last written into a word of a slot
abbrev pub written_at : List Read → ℕ → ℕ → Option ℕ
written_at [] slot word = None
written_at (write ∷ writes) slot word = if write.slot == slot && write.word == word then Some write.value
    else written_at writes slot word

-- whether this slot is the one that was shown
abbrev pub is_shown : Option ℕ → ℕ → Bool
is_shown None slot = false
is_shown (Some other) slot = other == slot

-- A lost try is listed, if it is the first since the last pin.
abbrev pub with_lost : Lost → History → History
with_lost try past = if past.has_lost then past else record past { lost = try ∷ past.lost; has_lost = true }

-- What a step with this answer adds to the history of a seat that knew this.
abbrev pub history_after : Step → Answer → Seat → History → History
history_after (step.Note i) a seat past = record past { notes = past.notes + 1 }
history_after (step.Pin i) a seat past =
    record past { pins = past.pins + 1; loads = []; reads = []; shown = []; has_lost = false }
history_after (step.Leave i) a seat past = past
history_after (step.Advance i) a seat past = record past { advances = past.advances + 1 }
history_after (step.Look i j) a seat past = past
history_after (step.Eject i j) a seat past = record past {
  ejections = if is_ejected a
      then record { by = i; other = j; epoch = found_epoch seat j; tag = newest_tag seat.retired } ∷ past.ejections
      else past.ejections;
}
-- what was read of a slot that the seat had no hold of is forgotten, since another seat may have written it
history_after (step.Load i root) a seat past = record past {
  loads = record { root = root; slot = slot_in a } ∷ past.loads;
  reads = if has_hold seat (slot_in a) then past.reads else without_slot (slot_in a) past.reads;
  shown = record { root = root; slot = slot_in a } ∷ past.shown;
}
history_after (step.Shield i place slot) a seat past = past
history_after (step.Check i) a seat past = if is_ejected a then with_lost was_ejected past else past
history_after (step.Unshield i place) a seat past = past
history_after (step.Read i slot word) a seat past =
    record past { reads = record { slot = slot; word = word; value = value_in a } ∷ past.reads }
history_after (step.Write i slot word value) a seat past =
    record past { written = record { slot = slot; word = word; value = value } ∷ past.written }
-- a root that had another slot is a lost try where the seat was shown the old one there
history_after (step.Replace i root old new) a seat past =
    if is_replaced a
    then record past {
      shown = record { root = root; slot = new } ∷ past.shown;
      written =
          without_slot new past.written;
      put = Some (record { root = root; slot = new; written = past.written });
    }
    else (if is_shown (shown_at past.shown root) old then with_lost (found_other root) past else past)
history_after (step.Scan i j place) a seat past = past
history_after (step.Give i) a seat past = record past { gives = past.gives + 1 }

-- the history after one more step, with its answer
abbrev pub past_after : Step → Answer → Seat → History → History
past_after s a seat past = record (history_after s a seat past) { last = a; steps = past.steps + 1 }
