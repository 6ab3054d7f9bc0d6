-- What filling a window does.
use Rattle.std.specs.Prelude.{◌≡◌, ◌<◌, ◌≤◌, ℕ, List, ◌++◌, length, take, IfOk, OnErr, Result}
use Rattle.std.specs.declared.option.Option.{Option}
use Rattle.std.specs.Io.KnownBytes.{Consumes, IsAtEnd}
use Rattle.meter_io.specs.declared.fault.Failed.{Failed}
use Rattle.capture_input.specs.declared.fill_end.FillEnd.{FillEnd}
use Rattle.capture_input.specs.declared.fill_end.FillEnd.TheVariants.{Spent, Full, Ended}

-- A window: the bytes that it has, and how many it can have.
pub record WindowState : Type 0 where
  pub bytes : List ℕ
  pub size : ℕ

-- the window that a buffer is, up to a place
abbrev pub window_in : List ℕ → ℕ → WindowState
window_in buffer end = record { bytes = take end buffer; size = length buffer }

-- Why filling ended, when `count` bytes were taken: the first of these three that holds.
abbrev pub HasEndedFor : FillEnd → ℕ → ℕ → WindowState → Option (List ℕ) → Type 0
HasEndedFor Spent count most window left = count ≡ most
HasEndedFor Full count most window left = (count < most) × (length window.bytes ≡ window.size)
HasEndedFor Ended count most window left = (count < most) × (length window.bytes < window.size) × IsAtEnd left

-- The window grew by bytes that the source gave, at most `most`, and the result says what ended that. Fewer than `most`
-- came where a read failed.
pub record IsFilled (most : ℕ) (old new : WindowState) (before after : Option (List ℕ))
    (result : Result FillEnd Failed) : Type 0 where
  pub got : List ℕ
  pub bytes : new.bytes ≡ old.bytes ++ got
  pub taken : Consumes before after got
  pub within : length got ≤ most
  pub size : new.size ≡ old.size
  pub ended : IfOk result (λ e. HasEndedFor e (length got) most new after)
  pub broken : OnErr result (length got < most)
