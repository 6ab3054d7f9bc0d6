-- What became of a packet, after so many lost tries.
use Rattle.std.specs.Prelude.{◌≡◌, ◌≢◌, ℕ, ◌<◌, List, ◌++◌, length, All, Option, Some}
use Rattle.flow_parts.specs.declared.fragment.Fragment.{Fragment}
use Rattle.flow_parts.specs.declared.timeouts.Timeouts.{Timeouts}
use Rattle.cache_face.specs.declared.metered.How.{How}
use Rattle.cache_face.specs.declared.metered.How.TheVariants.{Joined, Opened, Replaced, PassedBy}
use Rattle.pebr_words.specs.Pasts.{Lost, History}
use Rattle.flow_cache.specs.Shown.{IsTryOf}
use Rattle.flow_cache.specs.Trying.{HasChosen}

-- So many tries were lost at a set.
pub record HaveLost (set count : ℕ) (old new : History) : Type 0 where
  pub tries : List Lost
  pub listed : new.lost ≡ tries ++ old.lost
  pub many : length tries ≡ count
  pub each : All (IsTryOf set) tries

-- The fragment was put in after fewer than three lost tries, or it is handed out after three, and there is another
-- seat.
abbrev pub IsOutcome : Timeouts → ℕ → ℕ → History → Fragment → ℕ → How → Option Fragment → Type 0
IsOutcome limits seats set past own count Joined out = (count < 3) × HasChosen limits set past own Joined out
IsOutcome limits seats set past own count Opened out = (count < 3) × HasChosen limits set past own Opened out
IsOutcome limits seats set past own count Replaced out = (count < 3) × HasChosen limits set past own Replaced out
IsOutcome limits seats set past own count PassedBy out = (count ≡ 3) × (seats ≢ 1) × (out ≡ Some own)
