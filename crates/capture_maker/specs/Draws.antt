-- The draws of the generator: a linear congruential sequence of numbers of 64 bits.
use Rattle.std.specs.Prelude.{ℕ, ◌+◌, ◌*◌, ◌/◌, ◌%◌, ◌^◌}

-- The state that follows a state.
abbrev pub state_behind : ℕ → ℕ
state_behind state = (state * 6364136223846793005 + 1442695040888963407) % 2 ^ 64

-- The number that a state gives: its upper 31 bits.
abbrev pub number_of : ℕ → ℕ
number_of state = state / 2 ^ 33
