-- The cause of a fault: an object that fails counts it, and its count never falls.
use Rattle.std.specs.Prelude.{◌≡◌, ℕ, ◌+◌, ◌-◌, ◌^◌, ◌≤◌, min, Result, OnOk, OnErr}

-- One more than a count of 64 bits, which stays at its greatest value.
abbrev pub one_more : ℕ → ℕ
one_more count = min (count + 1) (2 ^ 64 - 1)

-- the count rose, or it is at its greatest value and can't rise
abbrev pub Rose : ℕ → ℕ → Type 0
Rose before now = one_more before ≤ now

-- the count of faults never falls by a call: it stays at `Ok`, and rose at `Err`
pub record HasCause {T E : Type 0} (before now : ℕ) (result : Result T E) : Type 0 where
  pub later : before ≤ now
  pub quiet : OnOk result (now ≡ before)
  pub failed : OnErr result (Rose before now)

-- A call of an object that counts its failed calls and nothing else: each of them counts once.
pub record CountsCall {T E : Type 0} (before now : ℕ) (result : Result T E) : Type 0 where
  pub quiet : OnOk result (now ≡ before)
  pub counted : OnErr result (now ≡ one_more before)
