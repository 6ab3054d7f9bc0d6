-- The text of a schedule: a line for the shape of a core, and a line for each step. Each line ends with the byte 10;
-- the name and the numbers of a line have one space between them.
use Rattle.std.specs.Prelude.{ℕ, ◌+◌, Bool, ◌&&◌, List, [], ◌∷◌, Option, Some, None, Result, Ok, Err, option_and_then}
use Rattle.std.specs.Prelude.{if◌then◌else◌, nat_le, bytes_eq, codes}
use Rattle.pebr_core.specs.declared.kinds.Shape.{Shape}
use Rattle.pebr_core.specs.declared.kinds.Step.{Step}
use Rattle.pebr_core.specs.declared.kinds.Step.TheVariants as step
use Rattle.pebr_schedule.specs.Numbers.{numbers_of, pieces_of}

-- a number of a step is at most this, unless it is a value to write
abbrev pub is_small : ℕ → Bool
is_small number = nat_le number 65535

-- steps with one number
abbrev pub step_of_one : List ℕ → ℕ → Option Step
step_of_one name i =
    if bytes_eq name (codes "note") then Some (step.Note i)
    else (if bytes_eq name (codes "pin") then Some (step.Pin i)
    else (if bytes_eq name (codes "leave") then Some (step.Leave i)
    else (if bytes_eq name (codes "advance") then Some (step.Advance i)
    else (if bytes_eq name (codes "check") then Some (step.Check i)
    else (if bytes_eq name (codes "give") then Some (step.Give i)
    else None)))))

-- steps with two
abbrev pub step_of_two : List ℕ → ℕ → ℕ → Option Step
step_of_two name i j =
    if bytes_eq name (codes "look") then Some (step.Look i j)
    else (if bytes_eq name (codes "eject") then Some (step.Eject i j)
    else (if bytes_eq name (codes "load") then Some (step.Load i j)
    else (if bytes_eq name (codes "unshield") then Some (step.Unshield i j)
    else None)))

-- steps with three
abbrev pub step_of_three : List ℕ → ℕ → ℕ → ℕ → Option Step
step_of_three name i j k =
    if bytes_eq name (codes "shield") then Some (step.Shield i j k)
    else (if bytes_eq name (codes "read") then Some (step.Read i j k)
    else (if bytes_eq name (codes "scan") then Some (step.Scan i j k)
    else None))

-- steps with four; the last number of `write` is the value, which may be any number
abbrev pub step_of_four : List ℕ → ℕ → ℕ → ℕ → ℕ → Option Step
step_of_four name i j k value =
    if bytes_eq name (codes "write") then Some (step.Write i j k value)
    else (if bytes_eq name (codes "replace") && is_small value then Some (step.Replace i j k value)
    else None)

abbrev pub step_with : List ℕ → List ℕ → Option Step
step_with name [] = None
step_with name (i ∷ []) = if is_small i then step_of_one name i else None
step_with name (i ∷ j ∷ []) = if is_small i && is_small j then step_of_two name i j else None
step_with name (i ∷ j ∷ k ∷ []) = if is_small i && is_small j && is_small k then step_of_three name i j k else None
step_with name (i ∷ j ∷ k ∷ value ∷ []) =
    if is_small i && is_small j && is_small k then step_of_four name i j k value else None
step_with name (i ∷ j ∷ k ∷ value ∷ more ∷ others) = None

-- the numbers of the first line, within their limits
abbrev pub shape_with : List ℕ → List ℕ → Option Shape
shape_with name [] = None
shape_with name (roots ∷ []) = None
shape_with name (roots ∷ seats ∷ []) = None
shape_with name (roots ∷ seats ∷ shields ∷ []) = None
shape_with name (roots ∷ seats ∷ shields ∷ batch ∷ []) = None
shape_with name (roots ∷ seats ∷ shields ∷ batch ∷ width ∷ []) =
    if bytes_eq name (codes "core")
    && (nat_le 1 roots && nat_le roots 64) && (nat_le 1 seats && nat_le seats 16) &&
    (nat_le 1 shields && nat_le shields 8)
    && (nat_le 1 batch && nat_le batch 64) && (nat_le 1 width && nat_le width 10)
    then Some (record { roots = roots; seats = seats; shields = shields; batch = batch; width = width })
    else None
shape_with name (roots ∷ seats ∷ shields ∷ batch ∷ width ∷ more ∷ others) = None

-- a line of a name and numbers
abbrev pub line_with : {A : Type 0} → (List ℕ → List ℕ → Option A) → List (List ℕ) → Option A
line_with known [] = None
line_with known (name ∷ pieces) = option_and_then (known name) (numbers_of pieces)

-- the line of a step
abbrev pub step_of : List ℕ → Option Step
step_of line = line_with step_with (pieces_of 32 line)

-- the first line
abbrev pub shape_of : List ℕ → Option Shape
shape_of line = line_with shape_with (pieces_of 32 line)

-- one step before the steps of further lines; where the line isn't a step, the number of the line
abbrev pub with_step : Option Step → ℕ → Result (List Step) ℕ → Result (List Step) ℕ
with_step None number steps = Err number
with_step (Some step) number (Ok steps) = Ok (step ∷ steps)
with_step (Some step) number (Err other) = Err other

-- what follows the last line end is nothing
abbrev pub end_of_lines : List ℕ → ℕ → Result (List Step) ℕ
end_of_lines [] number = Ok []
end_of_lines (byte ∷ bytes) number = Err number

-- The steps of the lines from this number on; the last piece is what follows the last line end. Or the number of the
-- first line that isn't a step's.
abbrev pub steps_of : ℕ → List (List ℕ) → Result (List Step) ℕ
steps_of number [] = Err number
steps_of number (last ∷ []) = end_of_lines last number
steps_of number (line ∷ next ∷ lines) = with_step (step_of line) number (steps_of (number + 1) (next ∷ lines))

abbrev pub with_shape : Option Shape → Result (List Step) ℕ → Result (Shape × List Step) ℕ
with_shape None steps = Err 1
with_shape (Some shape) (Ok steps) = Ok (shape, steps)
with_shape (Some shape) (Err number) = Err number

abbrev pub lines_of : List (List ℕ) → Result (Shape × List Step) ℕ
lines_of [] = Err 1
lines_of (line ∷ []) = Err 1
lines_of (line ∷ next ∷ lines) = with_shape (shape_of line) (steps_of 2 (next ∷ lines))

-- the shape and the steps of a text, or the number of the first line that isn't of the grammar
abbrev pub schedule_of : List ℕ → Result (Shape × List Step) ℕ
schedule_of text = lines_of (pieces_of 10 text)
