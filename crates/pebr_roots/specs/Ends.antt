-- How a replacement ends, and what several steps make of a seat and of what it remembers.
use Rattle.std.specs.Prelude.{ℕ, ◌+◌, replicate}
use Rattle.pebr_core.specs.declared.kinds.Shape.{Shape}
use Rattle.pebr_core.specs.declared.kinds.ShieldAt.TheVariants as shield
use Rattle.pebr_core.specs.declared.kinds.Step.TheVariants as step
use Rattle.pebr_core.specs.declared.kinds.Answer.{Answer}
use Rattle.pebr_core.specs.declared.kinds.Answer.TheVariants as answer
use Rattle.pebr_core.specs.State.{Seat}
use Rattle.pebr_core.specs.Steps.{after_note, after_pin, after_load, after_shield, after_replace}
use Rattle.pebr_words.specs.Pasts.{History, past_after}
use Rattle.pebr_roots.specs.declared.ends.ReplaceEnd.{ReplaceEnd}
use Rattle.pebr_roots.specs.declared.ends.ReplaceEnd.TheVariants as ended

abbrev pub answer_to : ReplaceEnd → Answer
answer_to ended.Replaced = answer.Replaced
answer_to ended.Other = answer.Other

-- the old slot is retired and the new one taken, where the root was replaced
abbrev pub replaced_seat : ReplaceEnd → ℕ → ℕ → Seat → Seat
replaced_seat ended.Replaced old new seat = after_replace old new seat
replaced_seat ended.Other old new seat = seat

-- the note is changed, where the root was replaced
abbrev pub replaced_note : {N : Type 0} → ReplaceEnd → N → N → N
replaced_note ended.Replaced changed note = changed
replaced_note ended.Other changed note = note

-- Note, which found this epoch, and Pin
abbrev pub entered_seat : Shape → ℕ → Seat → Seat
entered_seat shape epoch seat = after_pin (after_note shape epoch seat)

abbrev pub entered_past : ℕ → ℕ → Seat → History → History
entered_past i epoch seat past = past_after (step.Pin i) (answer.In epoch) seat
    (past_after (step.Note i) (answer.Epoch epoch) seat past)

-- Load, which found this slot, and Shield
abbrev pub loaded_seat : ℕ → ℕ → Seat → Seat
loaded_seat place slot seat = after_shield place (shield.Set slot) (after_load slot seat)

abbrev pub loaded_past : ℕ → ℕ → ℕ → ℕ → Seat → History → History
loaded_past i root place slot seat past =
    past_after (step.Shield i place slot) answer.Set seat (past_after (step.Load i root) (answer.Slot slot) seat past)

-- Unshield for each place
abbrev pub cleared_seat : Shape → Seat → Seat
cleared_seat shape seat = record seat { shields = replicate shape.shields shield.Down }

abbrev pub cleared_past : Shape → History → History
cleared_past shape past = record past { last = answer.Cleared; steps = past.steps + shape.shields }
