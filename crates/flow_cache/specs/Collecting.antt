-- How often a pass collected, and which operations only a collection makes. A pass notes the epoch once at each
-- collection, and otherwise only where it enters, and pins.
use Rattle.std.specs.Prelude.{◌≡◌, ◌≢◌, ◌⊎◌, ℕ, ◌+◌, ◌<◌, ◌≤◌, Bool, false, List, ◌++◌, length, All}
use Rattle.pebr_core.specs.declared.kinds.Shape.{Shape}
use Rattle.pebr_core.specs.State.{Seat}
use Rattle.pebr_core.specs.Frames.{retired_count}
use Rattle.pebr_table.specs.Operations.{Op, load, store, exchange}
use Rattle.pebr_words.specs.Places.{index, epoch_word, status_word, shield_word}
use Rattle.pebr_words.specs.Pasts.{History}
use Rattle.pebr_roots.specs.Orders.{HasMade, HasMadeCollection}

-- The pass collected this many times.
abbrev pub HasCollected : ℕ → History → History → Type 0
HasCollected times old new = new.notes + old.pins ≡ old.notes + new.pins + times

-- The operations begin with those of a collection without force, of a seat that knew this.
pub record HasBegun (shape : Shape) (me : ℕ) (known : Seat) (past : History) (old new : List Op) : Type 0 where
  pub ended : Bool
  pub past' : History
  pub mid : List Op
  pub collection : HasMadeCollection shape false me known ended past past' old mid
  pub most : ℕ
  pub later : HasMade most mid new

-- A word of another seat: its status, or one of its shields.
abbrev pub IsOfOther : Shape → ℕ → ℕ → Type 0
IsOfOther shape me word = (other : ℕ) × (other < shape.seats) × (other ≢ me)
    × ((word ≡ index shape (status_word other))
    ⊎ ((place : ℕ) × (place < shape.shields) × (word ≡ index shape (shield_word other place))))

-- An operation that only a collection makes: any on a word of another seat, or a store or an exchange of the epoch.
abbrev pub IsCollecting : Shape → ℕ → Op → Type 0
IsCollecting shape me (load word found) = IsOfOther shape me word
IsCollecting shape me (store word value) = (word ≡ index shape epoch_word) ⊎ IsOfOther shape me word
IsCollecting shape me (exchange word expected value found) =
    (word ≡ index shape epoch_word) ⊎ IsOfOther shape me word

-- So many operations at most were made, and none of them is one that only a collection makes.
pub record HasSpared (shape : Shape) (me most : ℕ) (old new : List Op) : Type 0 where
  pub made : List Op
  pub is : new ≡ made ++ old
  pub few : length made ≤ most
  pub none : All (λ op. ¬ (IsCollecting shape me op)) made

-- What a call collects, of a seat that knew this before: from 32 retired slots on it begins with a collection without
-- force, and there is one more at most; with fewer it never collects, and makes no operation of a collection.
pub record CollectsFrom (shape : Shape) (me : ℕ) (known : Seat) (old new : History)
    (before after : List Op) : Type 0 where
  pub times : ℕ
  pub collected : HasCollected times old new
  pub most : times ≤ 2
  pub from : 32 ≤ retired_count known → (1 ≤ times) × HasBegun shape me known old before after
  pub below : retired_count known < 32 → (times ≡ 0) × (most : ℕ) × HasSpared shape me most before after
