-- What a check finds, and what it makes of what the seat knows.
use Rattle.pebr_core.specs.declared.kinds.Answer.{Answer}
use Rattle.pebr_core.specs.declared.kinds.Answer.TheVariants as answer
use Rattle.pebr_core.specs.State.{Seat}
use Rattle.pebr_core.specs.Steps.{after_check}
use Rattle.pebr_words.specs.Mirrors.{ejected_seat}
use Rattle.pebr_shields.specs.declared.checked.Checked.{Checked}
use Rattle.pebr_shields.specs.declared.checked.Checked.TheVariants as checked

abbrev pub answer_to : Checked → Answer
answer_to checked.Valid = answer.Valid
answer_to checked.Ejected = answer.Ejected

-- The seat is still in, and its shields on slots that it has seen are valid, or it knows that it was ejected.
abbrev pub checked_seat : Checked → Seat → Seat
checked_seat checked.Valid seat = after_check seat
checked_seat checked.Ejected seat = ejected_seat seat
