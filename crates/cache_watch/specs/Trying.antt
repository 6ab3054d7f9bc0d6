-- The code's own: what came of one try.
use Rattle.std.specs.Prelude.{◌≡◌, ◌≢◌, ◌∷◌, ℕ, ◌+◌, IsTrue}
use Rattle.std.specs.List.{list_all}
use Rattle.flow_key.specs.declared.key.FlowKey.{FlowKey}
use Rattle.cache_face.specs.Notes.{Note, note_seeing}
use Rattle.pebr_core.specs.State.{Seat, is_down}
use Rattle.pebr_words.specs.Pasts.{History, was_ejected}
use Rattle.cache_watch.specs.declared.hold.Tried.{Tried}
use Rattle.cache_watch.specs.declared.hold.Tried.TheVariants.{Held, Absent, Ejected}
use Rattle.cache_watch.specs.Holding.{IsHolding, IsHeld, IsAbsent}

-- The seat entered once and lost no try.
abbrev pub HasEntered : History → History → Type 0
HasEntered old new = (new.pins ≡ old.pins + 1) × (new.lost ≡ old.lost)

abbrev pub IsTried : ℕ → FlowKey → ℕ → Tried → Seat → History → History → Type 0
IsTried set key seats (Held hold) known old new =
    HasEntered old new × IsHolding hold.place hold.fragment known new × IsHeld set key new hold.fragment
IsTried set key seats Absent known old new =
    HasEntered old new × IsTrue (list_all is_down known.shields) × IsAbsent set key new
IsTried set key seats Ejected known old new =
    (new.pins ≡ old.pins + 1) × IsTrue (list_all is_down known.shields) × (new.lost ≡ was_ejected ∷ old.lost)
    × (seats ≢ 1)

-- The note lists what is held as seen.
abbrev pub note_tried : Tried → Note → Note
note_tried (Held hold) note = note_seeing note hold.fragment
note_tried Absent note = note
note_tried Ejected note = note
