-- The words of a command line: `pipe`, then its options.
use Rattle.std.specs.Prelude.{ℕ, if◌then◌else◌, List, [], ◌∷◌, Option, Some, None, codes, option_map, slice_index}
use Rattle.std.specs.Str.{bytes_eq}
use Rattle.command_words.specs.Options.{Rule, values_of}
use Rattle.meter_program.specs.Words.{Asked, meter, option}
use Rattle.pipe_program.specs.declared.settings.PipeSettings.{PipeSettings}
use Rattle.ipfix_model.specs.Sizes.{template_message_length}

abbrev pub pipe_options : List Rule
pipe_options =
    option (codes "idle") 1 86400 (Some 300)
    ∷ (option (codes "active") 1 86400 (Some 1800)
    ∷ (option (codes "workers") 1 62 (Some 1)
    ∷ (option (codes "sets") 1 65536 (Some 4096)
    ∷ (option (codes "queue") 1 64 (Some 16)
    ∷ (option (codes "batch") 262184 4194304 (Some 1048576)
    ∷ (option (codes "size") template_message_length 65535 (Some 1400)
    ∷ []))))))

-- What a command line asks for: to meter with an idle time-out and an active time-out in seconds, a number of workers
-- and of sets of the cache, how many batches the queue holds, the most bytes of a batch, and a message size in octets.
pub data Piping : Type 0 where
  pipe : (idle active workers sets queue batch size : ℕ) → Piping

-- It means what `meter` means that is asked for the same, with the bytes of a batch in place of the records of a piece.
abbrev pub as_meter : Piping → Asked
as_meter (pipe idle active workers sets queue batch size) = meter idle active workers sets batch size

abbrev pub pipe_with : List ℕ → Piping
pipe_with values =
    pipe (slice_index values 0) (slice_index values 1) (slice_index values 2) (slice_index values 3)
    (slice_index values 4) (slice_index values 5)
    (slice_index values 6)

-- What options ask for.
abbrev pub piping_with : List (List ℕ) → Option Piping
piping_with options = option_map pipe_with (values_of pipe_options options)

-- What these words ask for: the first is `pipe`, and the others are its options.
abbrev pub piping_by : List (List ℕ) → Option Piping
piping_by [] = None
piping_by (name ∷ options) = if bytes_eq name (codes "pipe") then piping_with options else None

-- What the settings say.
abbrev pub piping_of : PipeSettings → Piping
piping_of settings = pipe settings.idle settings.active settings.workers settings.sets settings.queue settings.batch
    settings.size
