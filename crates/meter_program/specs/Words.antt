-- The words of a command line: the name of a command, then its options.
use Rattle.std.specs.Prelude.{ℕ, if◌then◌else◌, List, [], ◌∷◌, Option, Some, None, codes, option_map, slice_index}
use Rattle.std.specs.Str.{bytes_eq}
use Rattle.command_words.specs.Options.{Rule, values_of}
use Rattle.meter_program.specs.declared.words.Command.{Command}
use Rattle.meter_program.specs.declared.words.Command.TheVariants.{Meter, Show, Make, Schedule, Selftest}
use Rattle.ipfix_model.specs.Sizes.{template_message_length}

-- An option by its name, its least and its greatest value, and its default; without one it must be given.
abbrev pub option : List ℕ → ℕ → ℕ → Option ℕ → Rule
option name low high default = record { name = name; low = low; high = high; default = default }

abbrev pub meter_options : List Rule
meter_options =
    option (codes "idle") 1 86400 (Some 300)
    ∷ (option (codes "active") 1 86400 (Some 1800)
    ∷ (option (codes "workers") 1 64 (Some 1)
    ∷ (option (codes "sets") 1 65536 (Some 4096)
    ∷ (option (codes "piece") 1 65536 (Some 256)
    ∷ (option (codes "size") template_message_length 65535 (Some 1400)
    ∷ [])))))

abbrev pub make_options : List Rule
make_options =
    option (codes "seed") 0 18446744073709551615 None
    ∷ (option (codes "packets") 1 1000000 None
    ∷ (option (codes "keys") 1 4096 (Some 64)
    ∷ []))

-- What a command line asks for: to meter with an idle time-out and an active time-out in seconds, a number of workers,
-- of sets of the cache and of records a piece, and a message size in octets; to show a stream; to make a capture by a
-- seed, a number of packets and a number of keys; to replay a schedule; to meter such a capture without reading it.
pub data Asked : Type 0 where
  meter : (idle active workers sets piece size : ℕ) → Asked
  show : Asked
  make : (seed packets keys : ℕ) → Asked
  schedule : Asked
  selftest : (seed packets keys : ℕ) → Asked

abbrev pub meter_with : List ℕ → Asked
meter_with values =
    meter (slice_index values 0) (slice_index values 1) (slice_index values 2) (slice_index values 3)
    (slice_index values 4) (slice_index values 5)

abbrev pub make_with : List ℕ → Asked
make_with values = make (slice_index values 0) (slice_index values 1) (slice_index values 2)

abbrev pub selftest_with : List ℕ → Asked
selftest_with values = selftest (slice_index values 0) (slice_index values 1) (slice_index values 2)

-- What the command line of one command asks for, by the command's options.
abbrev pub asked_with : List Rule → (List ℕ → Asked) → List (List ℕ) → Option Asked
asked_with table ask options = option_map ask (values_of table options)

-- What a command line asks for whose command makes a capture.
abbrev pub asked_to_make : List ℕ → List (List ℕ) → Option Asked
asked_to_make name options =
    if bytes_eq name (codes "make") then asked_with make_options make_with options
    else (if bytes_eq name (codes "selftest") then asked_with make_options selftest_with options
    else None)

-- What these words ask for: the first is the name of a command, and the others are its options.
abbrev pub asked_by : List (List ℕ) → Option Asked
asked_by [] = None
asked_by (name ∷ options) =
    if bytes_eq name (codes "meter") then asked_with meter_options meter_with options
    else (if bytes_eq name (codes "show") then asked_with [] (λ values. show) options
    else (if bytes_eq name (codes "schedule") then asked_with [] (λ values. schedule) options
    else asked_to_make name options))

-- What a command asks for.
abbrev pub asked_of : Command → Asked
asked_of (Meter settings) = meter settings.idle settings.active settings.workers settings.sets settings.piece
    settings.size
asked_of Show = show
asked_of (Make settings) = make settings.seed settings.packets settings.keys
asked_of Schedule = schedule
asked_of (Selftest settings) = selftest settings.seed settings.packets settings.keys
