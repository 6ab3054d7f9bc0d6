-- How a schedule is spelled.
use Rattle.std.specs.Prelude.{ℕ, ◌^◌, ◌≤◌, ◌<◌, List, [], ◌∷◌, ◌++◌, flat_map, codes, decimal}
use Rattle.pebr_core.specs.declared.kinds.Shape.{Shape}
use Rattle.pebr_core.specs.declared.kinds.Step.{Step}
use Rattle.pebr_core.specs.declared.kinds.Step.TheVariants as step
use Rattle.pebr_schedule.specs.Printed.{line}

-- numbers in decimal, each after one space
abbrev pub numbers_text : List ℕ → List ℕ
numbers_text numbers = flat_map (λ number. 32 ∷ decimal number) numbers

-- the name of a step
abbrev pub name_of : Step → List ℕ
name_of (step.Note i) = codes "note"
name_of (step.Pin i) = codes "pin"
name_of (step.Leave i) = codes "leave"
name_of (step.Advance i) = codes "advance"
name_of (step.Look i j) = codes "look"
name_of (step.Eject i j) = codes "eject"
name_of (step.Load i root) = codes "load"
name_of (step.Shield i place slot) = codes "shield"
name_of (step.Check i) = codes "check"
name_of (step.Unshield i place) = codes "unshield"
name_of (step.Read i slot word) = codes "read"
name_of (step.Write i slot word value) = codes "write"
name_of (step.Replace i root old new) = codes "replace"
name_of (step.Scan i j place) = codes "scan"
name_of (step.Give i) = codes "give"

-- its numbers
abbrev pub numbers_in : Step → List ℕ
numbers_in (step.Note i) = i ∷ []
numbers_in (step.Pin i) = i ∷ []
numbers_in (step.Leave i) = i ∷ []
numbers_in (step.Advance i) = i ∷ []
numbers_in (step.Look i j) = i ∷ j ∷ []
numbers_in (step.Eject i j) = i ∷ j ∷ []
numbers_in (step.Load i root) = i ∷ root ∷ []
numbers_in (step.Shield i place slot) = i ∷ place ∷ slot ∷ []
numbers_in (step.Check i) = i ∷ []
numbers_in (step.Unshield i place) = i ∷ place ∷ []
numbers_in (step.Read i slot word) = i ∷ slot ∷ word ∷ []
numbers_in (step.Write i slot word value) = i ∷ slot ∷ word ∷ value ∷ []
numbers_in (step.Replace i root old new) = i ∷ root ∷ old ∷ new ∷ []
numbers_in (step.Scan i j place) = i ∷ j ∷ place ∷ []
numbers_in (step.Give i) = i ∷ []

abbrev pub AreSmall : List ℕ → Type 0
AreSmall [] = Unit {0}
AreSmall (number ∷ numbers) = (number ≤ 65535) × AreSmall numbers

-- each number is at most 65,535, but a value to write is any number below 2 ^ 64
abbrev pub IsWritable : Step → Type 0
IsWritable (step.Write i slot word value) = AreSmall (i ∷ slot ∷ word ∷ []) × (value < 2 ^ 64)
IsWritable (step.Note i) = AreSmall (i ∷ [])
IsWritable (step.Pin i) = AreSmall (i ∷ [])
IsWritable (step.Leave i) = AreSmall (i ∷ [])
IsWritable (step.Advance i) = AreSmall (i ∷ [])
IsWritable (step.Look i j) = AreSmall (i ∷ j ∷ [])
IsWritable (step.Eject i j) = AreSmall (i ∷ j ∷ [])
IsWritable (step.Load i root) = AreSmall (i ∷ root ∷ [])
IsWritable (step.Shield i place slot) = AreSmall (i ∷ place ∷ slot ∷ [])
IsWritable (step.Check i) = AreSmall (i ∷ [])
IsWritable (step.Unshield i place) = AreSmall (i ∷ place ∷ [])
IsWritable (step.Read i slot word) = AreSmall (i ∷ slot ∷ word ∷ [])
IsWritable (step.Replace i root old new) = AreSmall (i ∷ root ∷ old ∷ new ∷ [])
IsWritable (step.Scan i j place) = AreSmall (i ∷ j ∷ place ∷ [])
IsWritable (step.Give i) = AreSmall (i ∷ [])

abbrev pub AreWritable : List Step → Type 0
AreWritable [] = Unit {0}
AreWritable (s ∷ steps) = IsWritable s × AreWritable steps

-- the limits of a shape in a text
pub record IsPrintable (shape : Shape) : Type 0 where
  pub some_roots : 1 ≤ shape.roots
  pub roots : shape.roots ≤ 64
  pub some_seats : 1 ≤ shape.seats
  pub seats : shape.seats ≤ 16
  pub some_shields : 1 ≤ shape.shields
  pub shields : shape.shields ≤ 8
  pub some_batch : 1 ≤ shape.batch
  pub batch : shape.batch ≤ 64
  pub some_width : 1 ≤ shape.width
  pub width : shape.width ≤ 10

abbrev pub step_text : Step → List ℕ
step_text s = name_of s ++ numbers_text (numbers_in s)

abbrev pub shape_text : Shape → List ℕ
shape_text shape = codes "core" ++ numbers_text
    (shape.roots ∷ shape.seats ∷ shape.shields ∷ shape.batch ∷ shape.width ∷ [])

-- the one text of a schedule
abbrev pub spelled_text : Shape → List Step → List ℕ
spelled_text shape steps = line (shape_text shape) ++ flat_map (λ s. line (step_text s)) steps
