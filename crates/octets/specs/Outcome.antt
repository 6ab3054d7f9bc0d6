-- What reading by rules gives: what was read, or the first fault that is met.
use Rattle.std.specs.Prelude.{Result, Ok, Err}

-- One rule behind another: the second applies only where the first finds no fault.
infixl 10 ◌>>=◌
abbrev pub ◌>>=◌ : {A B F : Type 0} → Result A F → (A → Result B F) → Result B F
(Ok read) >>= rule = rule read
(Err fault) >>= rule = Err fault
