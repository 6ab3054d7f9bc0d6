-- What is seen of a source or of a sink before and after a call.
use Rattle.std.specs.Prelude.{◌≡◌, ◌⊎◌, ◌+◌, ◌≤◌, ℕ, List, length, take, Option}
use Rattle.std.specs.Io.KnownBytes.{Appends, Consumes, IsAtEnd}
use Rattle.meter_io.specs.Causes.{Rose}
use Rattle.meter_io.specs.Reading.{Takes, TakesAtMost}

-- One object: the bytes that it has left to give, or that it holds, where it tells them, and how often a call of it
-- failed.
pub record Side : Type 0 where
  pub before : Option (List ℕ)
  pub after : Option (List ℕ)
  pub faults_before : ℕ
  pub faults_after : ℕ

-- One object at the call and at the return: `bytes` gives what it has left or holds, and `faults` its count of faults.
abbrev pub side : {S : Type 0} → (S → Option (List ℕ)) → (S → ℕ) → S → S → Side
side bytes faults old new =
    record { before = bytes old; after = bytes new; faults_before = faults old; faults_after = faults new }

-- A call of the object failed.
abbrev pub HasFailed : Side → Type 0
HasFailed object = Rose object.faults_before object.faults_after

-- The object is as it was.
pub record IsUntouched (object : Side) : Type 0 where
  pub bytes : object.after ≡ object.before
  pub faults : object.faults_after ≡ object.faults_before

-- ---- a source

-- The input gave these bytes, at most `limit` of them, and is at its end.
pub record IsRead (input : Side) (limit : ℕ) (bytes : List ℕ) : Type 0 where
  pub given : Consumes input.before input.after bytes
  pub ended : IsAtEnd input.after
  pub within : length bytes ≤ limit

-- The input gave one byte more than the limit.
abbrev pub IsTooLarge : Side → ℕ → Type 0
IsTooLarge input limit = Takes (limit + 1) input.before input.after

-- A read failed, when the input had given at most `limit` bytes.
pub record IsBroken (input : Side) (limit : ℕ) : Type 0 where
  pub cause : HasFailed input
  pub within : TakesAtMost limit input.before input.after

-- The input was read to its end, and is wrong in this way.
pub record IsWrong (input : Side) (limit : ℕ) (Fault : List ℕ → Type 0) : Type 0 where
  pub bytes : List ℕ
  pub read : IsRead input limit bytes
  pub fault : Fault bytes

-- ---- a sink

-- The object took the text.
abbrev pub HasTaken : Side → List ℕ → Type 0
HasTaken object text = Appends object.before object.after text

-- The object took a beginning of the text.
pub record HasBegun (object : Side) (text : List ℕ) : Type 0 where
  pub count : ℕ
  pub taken : HasTaken object (take count text)

-- The object took the text, or a beginning of it where a write failed.
abbrev pub HasTakenOrFailed : Side → List ℕ → Type 0
HasTakenOrFailed object text = HasTaken object text ⊎ (HasBegun object text × HasFailed object)
