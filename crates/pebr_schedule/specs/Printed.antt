-- The text of a replay: a line for each answer, and then the state.
use Rattle.std.specs.Prelude.{ℕ, Bool, List, [], ◌∷◌, ◌++◌, flat_map, if◌then◌else◌, codes, decimal}
use Rattle.std.specs.List.{range_with_len}
use Rattle.pebr_core.specs.State.{Seat, State, has, seat_at, root_at, shield_at, retired_at, slot_count}
use Rattle.pebr_core.specs.declared.kinds.Answer.{Answer}
use Rattle.pebr_core.specs.declared.kinds.Answer.TheVariants as answer
use Rattle.pebr_core.specs.declared.kinds.Stance.{Stance}
use Rattle.pebr_core.specs.declared.kinds.Stance.TheVariants as stance
use Rattle.pebr_core.specs.declared.kinds.Retired.{Retired}
use Rattle.pebr_core.specs.declared.kinds.Retired.TheVariants as retire
use Rattle.pebr_core.specs.declared.kinds.ShieldAt.{ShieldAt}
use Rattle.pebr_core.specs.declared.kinds.ShieldAt.TheVariants as shield

abbrev pub answer_text : Answer → List ℕ
answer_text (answer.Epoch epoch) = codes "epoch " ++ decimal epoch
answer_text (answer.In epoch) = codes "in " ++ decimal epoch
answer_text answer.Out = codes "out"
answer_text answer.Lost = codes "lost"
answer_text answer.Passed = codes "passed"
answer_text answer.Ejected = codes "ejected"
answer_text (answer.Slot slot) = codes "slot " ++ decimal slot
answer_text answer.Set = codes "set"
answer_text answer.Valid = codes "valid"
answer_text answer.Cleared = codes "cleared"
answer_text (answer.Word word) = codes "word " ++ decimal word
answer_text answer.Written = codes "written"
answer_text answer.Replaced = codes "replaced"
answer_text answer.Other = codes "other"
answer_text answer.Empty = codes "empty"
answer_text (answer.Holds slot) = codes "holds " ++ decimal slot
answer_text (answer.Given given left) = codes "given " ++ decimal given ++ codes " left " ++ decimal left

-- a line
abbrev pub line : List ℕ → List ℕ
line text = text ++ 10 ∷ []

abbrev pub status_text : Stance → List ℕ
status_text stance.Out = codes "out"
status_text (stance.In epoch) = codes "in " ++ decimal epoch
status_text (stance.Ejected epoch) = codes "ejected " ++ decimal epoch

-- a fresh slot, after a space; nothing for another slot
abbrev pub fresh_item : List Bool → ℕ → List ℕ
fresh_item fresh slot = if has fresh slot then codes " " ++ decimal slot else []

-- a retired slot with its tag, after a space; nothing for a slot that isn't retired
abbrev pub retired_item : ℕ → Retired → List ℕ
retired_item slot retire.No = []
retired_item slot retire.Untagged = codes " " ++ decimal slot
retired_item slot (retire.Tagged tag) = codes " " ++ decimal slot ++ codes "@" ++ decimal tag

-- a shield, after a space
abbrev pub shield_item : ShieldAt → List ℕ
shield_item shield.Down = codes " -"
shield_item (shield.Set slot) = codes " s" ++ decimal slot
shield_item (shield.Valid slot) = codes " v" ++ decimal slot

abbrev pub fresh_list : ℕ → Seat → List ℕ
fresh_list slots seat = flat_map (λ slot. fresh_item seat.fresh slot) (range_with_len 0 slots)

abbrev pub retired_list : ℕ → Seat → List ℕ
retired_list slots seat = flat_map (λ slot. retired_item slot (retired_at seat slot)) (range_with_len 0 slots)

abbrev pub shield_list : ℕ → Seat → List ℕ
shield_list places seat = flat_map (λ place. shield_item (shield_at seat place)) (range_with_len 0 places)

abbrev pub root_line : State → ℕ → List ℕ
root_line state root = line (codes "root " ++ decimal root ++ codes " slot " ++ decimal (root_at state root))

abbrev pub seat_line : State → ℕ → List ℕ
seat_line state i =
    let seat = seat_at state i in
    let slots = slot_count state.shape in
    line (codes "seat " ++ decimal i ++ codes " " ++ status_text seat.status ++ codes " noted " ++ decimal seat.noted
    ++ codes " fresh" ++ fresh_list slots seat ++ codes " retired" ++ retired_list slots seat
    ++ codes " shields" ++ shield_list state.shape.shields seat)

abbrev pub state_text : State → List ℕ
state_text state =
    line (codes "epoch " ++ decimal state.epoch)
    ++ flat_map (root_line state) (range_with_len 0 state.shape.roots)
    ++ flat_map (seat_line state) (range_with_len 0 state.shape.seats)

-- the answers, a line for each, and then the state
abbrev pub printed_text : List Answer → State → List ℕ
printed_text answers state = flat_map (λ answer. line (answer_text answer)) answers ++ state_text state
