-- A change of one seat keeps every fact on states, where the seat keeps its own facts and those with each other seat.
use Rattle.std.proofs.Common.{◌≡◌, ◌≢◌, ℕ, ◌<◌, ◌≤◌, false, length, Some, sym, ◌∙◌, subst, arith, length-set}
use Rattle.std.proofs.lemmas.List.Sums.{sum_by-set}
use Rattle.pebr_core.specs.State.{Scan, Seat, State, has, seat_at, retired_at, slot_count, slots_per_seat, nobody}
use Rattle.pebr_core.specs.Steps.{with_seat, last_epoch}
use Rattle.pebr_core.specs.Kept.{Uses, times_held, times_in, IsPinnedUpTo, IsTaggedUpTo, HasSeenNoOlder, IsScanOf}
use Rattle.pebr_core.specs.Kept.{PassedHasSeenNone, ScannedIsKept, LookedIsOlder, Kept, held_count, IsSeatOfShape}
use Rattle.pebr_core.specs.Kept.{IsOfShape, IsSound}
use Rattle.pebr_core.proofs.Marks.{set_at}

-- what is known of one seat by itself, the i-th, at this epoch
abbrev pub Alone : ℕ → ℕ → Seat → Type 0
Alone most i seat =
    (seat.noted ≤ most)
    × IsPinnedUpTo most seat.status
    × ((slot : ℕ) → IsTaggedUpTo most (retired_at seat slot))
    × ((scan : Scan) → seat.scan ≡ Some scan → IsScanOf i seat scan)

-- what is known of the slots of one seat and the uses of another, the j-th
abbrev pub Between : Seat → ℕ → Seat → Type 0
Between owner j reader =
    ((slot : ℕ) → Uses reader slot → has owner.fresh slot ≡ false)
    × HasSeenNoOlder owner reader
    × ((scan : Scan) → owner.scan ≡ Some scan → PassedHasSeenNone scan j reader)
    × ((scan : Scan) → owner.scan ≡ Some scan → ScannedIsKept scan j reader)
    × ((scan : Scan) → owner.scan ≡ Some scan → LookedIsOlder owner.retired scan j reader)

pub alone : (state : State) → Kept state → (i : ℕ) → Alone state.epoch i (seat_at state i)
alone state k i = (k.epochs.noted i, k.epochs.pinned i, k.epochs.tagged i, k.scans i)

pub between : (state : State) → Kept state → (i j : ℕ) → Between (seat_at state i) j (seat_at state j)
between state k i j = (
  k.safe.unused i j,
  k.older i j,
  λ scan e. k.passed i scan e j,
  λ scan e. k.shielded i scan e j,
  λ scan e. k.looked i scan e j,
)

-- facts on each seat and on each two seats make a state kept
pub kept_from : (state : State) → state.epoch ≤ last_epoch
    → ((slot : ℕ) → slot < slot_count state.shape → times_in state slot ≡ 1)
    → ((i : ℕ) → Alone state.epoch i (seat_at state i))
    → ((i j : ℕ) → Between (seat_at state i) j (seat_at state j))
    → Kept state
kept_from state bound once one two = record {
  safe = record { unused = λ i j. (two i j).0; once = once };
  epochs = record { epoch = bound; noted = λ i. (one i).0; pinned = λ i. (one i).1; tagged = λ i. (one i).2 };
  older = λ i j. (two i j).1;
  scans = λ i. (one i).3;
  passed = λ i scan e j. (two i j).2 scan e;
  shielded = λ i scan e j. (two i j).3 scan e;
  looked = λ i scan e j. (two i j).4 scan e;
}

-- a seat of the changed state is the new one, or an old one
pub seat_changed : (P : Seat → Type 0) (state : State) (i : ℕ) (seat : Seat) (j : ℕ) → i < length state.seats
    → (j ≡ i → P seat) → (j ≢ i → P (seat_at state j)) → P (seat_at (with_seat state i seat) j)
seat_changed P state i seat j inside here there = set_at P state.seats i seat nobody j inside here there

module _ (state : State) (i : ℕ) (seat : Seat) (sound : IsSound state) (inside : i < state.shape.seats) where
  in_list : i < length state.seats
  in_list = omega (arith, sound.shape.seats)

  pub shape_kept : IsSeatOfShape state.shape seat → IsOfShape (with_seat state i seat)
  shape_kept fits = record {
    roots = sound.shape.roots;
    slots = sound.shape.slots;
    words = sound.shape.words;
    width = sound.shape.width;
    seats = length-set state.seats i seat ∙ sound.shape.seats;
    each = λ j h. seat_changed (IsSeatOfShape state.shape) state i seat j in_list (λ _. fits)
        (λ _. sound.shape.each j h);
  }

  pub once_kept : ((slot : ℕ) → times_held slot seat ≡ times_held slot (seat_at state i)) → (slot : ℕ)
      → slot < slot_count state.shape → times_in (with_seat state i seat) slot ≡ 1
  once_kept same slot h =
      let sums = sum_by-set (times_held slot) state.seats i seat nobody in_list in
      let before = sound.kept.safe.once slot h in
      let equal = same slot in
      omega (arith, sums, before, equal)

  pub seat_kept : IsSeatOfShape state.shape seat
      → ((slot : ℕ) → times_held slot seat ≡ times_held slot (seat_at state i))
      → held_count seat ≡ held_count (seat_at state i)
      → Alone state.epoch i seat
      → Between seat i seat
      → ((j : ℕ) → j ≢ i → Between seat j (seat_at state j))
      → ((j : ℕ) → j ≢ i → Between (seat_at state j) i seat)
      → IsSound (with_seat state i seat)
  seat_kept fits times count one own first second = record {
    shape = shape_kept fits;
    kept = kept_from (with_seat state i seat) sound.kept.epochs.epoch (once_kept times)
        (λ j. seat_changed (Alone state.epoch j) state i seat j in_list
        (λ e. subst (λ k. Alone state.epoch k seat) (sym e) one)
        (λ _. alone state sound.kept j))
        (λ j k. seat_changed (λ owner. Between owner k (seat_at (with_seat state i seat) k)) state i seat j in_list
        (λ e. seat_changed (λ reader. Between seat k reader) state i seat k in_list
        (λ d. subst (λ m. Between seat m seat) (sym d) own)
        (λ n. first k n))
        (λ n. seat_changed (λ reader. Between (seat_at state j) k reader) state i seat k in_list
        (λ d. subst (λ m. Between (seat_at state j) m seat) (sym d) (second j n))
        (λ _. between state sound.kept j k)));
    holding = λ j h. seat_changed (λ s. held_count s ≡ slots_per_seat state.shape) state i seat j in_list
        (λ e. count ∙ sound.holding i inside)
        (λ _. sound.holding j h);
  }
