-- What is asked of a call on a share of the items, and what it does to them. The share begins at the place `base`.
use Rattle.std.specs.Prelude.{◌≡◌, ℕ, ◌+◌, ◌<◌, List, length, slice_index_or}
use denote.Ref.{MutBor}
use denote.Param.Members.{Shared}
use Rattle.std.specs.Fork.{AcceptsAt, ChangesAt}

module _ {F T : Type 0} (g : Shared F (ℕ × (MutBor T × Unit {0})) ((Unit {0}) × (MutBor T × Unit {0}))) (f : F) where
  -- f may be called with each item of xs and its place.
  abbrev pub AcceptsFrom : ℕ → List T → Type 0
  AcceptsFrom base xs = (k : ℕ) (d : T) → k < length xs → AcceptsAt g f (base + k) (slice_index_or xs k d)

  -- Each item of ys is what a call of f with that item of xs and its place may leave, and there are as many.
  pub record ChangesFrom (base : ℕ) (xs ys : List T) : Type 0 where
    pub len : length ys ≡ length xs
    pub each : (k : ℕ) (d : T) → k < length xs → ChangesAt g f (base + k) (slice_index_or xs k d) (slice_index_or ys k d)
