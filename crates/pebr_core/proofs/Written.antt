-- What a core's entries stand for after one seat's entry is written.
use Rattle.std.proofs.Common.{◌≡◌, ℕ, ◌<◌, true, length, get_or, set, All, sym, ◌∙◌, ap, subst, arith}
use Rattle.std.specs.Vec.{with_item}
use Rattle.std.proofs.lemmas.List.{length-map, length-set, map-set, get_or-map}
use Rattle.std.proofs.lemmas.List.Elements.{All-get_or, All-from_get_or}
use Rattle.pebr_core.specs.declared.kinds.Step.{Step}
use Rattle.pebr_core.specs.declared.seats.SeatData.{SeatData}
use Rattle.pebr_core.specs.declared.machine.Core.TheInside.{Inside}
use Rattle.pebr_core.specs.State.{State, nobody, seat_at}
use Rattle.pebr_core.specs.Steps.{is_enabled, after, next, with_seat}
use Rattle.pebr_core.specs.Kept.{IsSound}
use Rattle.pebr_core.specs.Shown.{shown_seat, shown_state, HasRoom, IsCore}
use Rattle.pebr_core.proofs.Marks.{set_anywhere}
use Rattle.pebr_core.proofs.Law.{step_sound, next_enabled}

-- the core with one seat's entry written
abbrev pub written : Inside → ℕ → SeatData → Inside
written core i new =
    record {
      shape = core.shape;
      epoch = core.epoch;
      roots = core.roots;
      words = core.words;
      seats =
          with_item core.seats i new;
    }

pub seats_length : (core : Inside) → IsCore core → length core.seats.items ≡ core.shape.seats
seats_length core held = sym (length-map core.seats.items shown_seat) ∙ held.sound.shape.seats

-- the seat that was read
pub seat_read : (core : Inside) (i : ℕ) (entry : SeatData) → IsCore core → i < core.shape.seats
    → entry ≡ get_or core.seats.items i entry → seat_at (shown_state core) i ≡ shown_seat entry
seat_read core i entry held inside read =
    get_or-map shown_seat core.seats.items i entry nobody (omega (arith, seats_length core held))
    ∙ ap shown_seat (sym read)

pub room_read : (core : Inside) (i : ℕ) (entry : SeatData) → IsCore core → i < core.shape.seats
    → entry ≡ get_or core.seats.items i entry → HasRoom core.shape entry
room_read core i entry held inside read =
    subst (HasRoom core.shape) (sym read)
    (All-get_or (HasRoom core.shape) core.seats.items i entry (omega (arith, seats_length core held)) held.room)

pub shown_written : (core : Inside) (i : ℕ) (new : SeatData)
    → shown_state (written core i new) ≡ with_seat (shown_state core) i (shown_seat new)
shown_written core i new = ap (λ seats. record (shown_state core) { seats = seats })
    (map-set shown_seat core.seats.items i new)

-- the room stays where the new entry has it
pub room_written : (core : Inside) (i : ℕ) (entry new : SeatData) → IsCore core → HasRoom core.shape new
    → All (HasRoom core.shape) (set core.seats.items i new)
room_written core i entry new held room =
    All-from_get_or (HasRoom core.shape) (set core.seats.items i new) entry
    (λ j lt. set_anywhere (HasRoom core.shape) core.seats.items i new entry j (λ _. room)
    (All-get_or (HasRoom core.shape) core.seats.items j entry
    (omega (arith, length-set core.seats.items i new)) held.room))

-- A step that is enabled and that makes of the state what the written entry stands for.
pub step_written : (core : Inside) (i : ℕ) (entry new : SeatData) (s : Step) → IsCore core
    → is_enabled (shown_state core) s ≡ true
    → HasRoom core.shape new
    → after (shown_state core) s ≡ with_seat (shown_state core) i (shown_seat new)
    → IsCore (written core i new) × (shown_state (written core i new) ≡ (next (shown_state core) s).1)
step_written core i entry new s held enabled room made =
    let is_after : shown_state (written core i new) ≡ after (shown_state core) s =
    shown_written core i new ∙ sym made in (
      record {
        sound = subst IsSound (sym is_after) (step_sound (shown_state core) s held.sound enabled);
        limits = held.limits;
        room = room_written core i entry new held room;
      },
      is_after ∙ sym (ap (λ n. n.1) (next_enabled (shown_state core) s enabled)),
    )

-- the same, where the core is seen as this state
pub step_done : (core : Inside) (state : State) (i : ℕ) (entry new : SeatData) (s : Step) → IsCore core
    → shown_state core ≡ state
    → is_enabled state s ≡ true
    → HasRoom core.shape new
    → after (shown_state core) s ≡ with_seat (shown_state core) i (shown_seat new)
    → IsCore (written core i new) × (shown_state (written core i new) ≡ (next state s).1)
step_done core state i entry new s held same enabled room made =
    let done = step_written core i entry new s held (subst (λ z. is_enabled z s ≡ true) (sym same) enabled) room made in
    (done.0, done.1 ∙ ap (λ z. (next z s).1) same)

-- what was read of one seat's entry, by what is known of the state
pub seat_known : (core : Inside) (state : State) (i : ℕ) (entry : SeatData) → IsCore core → shown_state core ≡ state
    → i < state.shape.seats → entry ≡ get_or core.seats.items i entry
    → (seat_at (shown_state core) i ≡ shown_seat entry) × HasRoom core.shape entry
seat_known core state i entry held same inside read =
    let here : i < core.shape.seats = subst (λ n. i < n) (sym (ap (λ z. z.shape.seats) same)) inside in
    (seat_read core i entry held here read, room_read core i entry held here read)

pub written_held : (core : Inside) (i : ℕ) (entry new : SeatData) → IsCore core → HasRoom core.shape new
    → IsSound (shown_state (written core i new)) → IsCore (written core i new)
written_held core i entry new held room sound =
    record { sound = sound; limits = held.limits; room = room_written core i entry new held room }
