-- The tries that other seats made futile. What a lost try is, each kind of cache says of itself.
use Rattle.std.specs.Prelude.{◌≡◌, ℕ, ◌<◌, List, ◌++◌, length, All}
use Rattle.cache_face.specs.declared.metered.How.{How}
use Rattle.cache_face.specs.declared.metered.How.TheVariants.{Joined, Opened, Replaced, PassedBy}

-- How many tries a call loses: three where the fragment is passed by, and else fewer.
abbrev pub IsTryCount : How → ℕ → Type 0
IsTryCount PassedBy count = count ≡ 3
IsTryCount Joined count = count < 3
IsTryCount Opened count = count < 3
IsTryCount Replaced count = count < 3

-- What a call with this answer lost: so many tries, each of them so. All tries that the pass lost are listed newest
-- first, so these stand before those that it had lost.
pub record HasLost {T : Type 0} (IsTry : T → Type 0) (how : How) (old new : List T) : Type 0 where
  pub tries : List T
  pub listed : new ≡ tries ++ old
  pub each : All IsTry tries
  pub many : IsTryCount how (length tries)
