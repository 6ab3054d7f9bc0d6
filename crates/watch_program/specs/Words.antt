-- What the words of a command line ask for.
use Rattle.std.specs.Prelude.{ℕ, if◌then◌else◌, List, [], ◌∷◌, Option, Some, None, codes, option_and_then}
use Rattle.std.specs.Str.{bytes_eq}
use Rattle.command_words.specs.Options.{Rule, values_of}
use Rattle.watch_program.specs.declared.settings.WatchSettings.{WatchSettings}

-- What is asked for: how many workers meter, how many sets the cache has, and how many asks there are.
pub record Asked : Type 0 where
  pub workers : ℕ
  pub sets : ℕ
  pub asks : ℕ

abbrev pub asked_of : WatchSettings → Asked
asked_of settings = record { workers = settings.workers; sets = settings.sets; asks = settings.asks }

-- The options of the command: their names, least and greatest values, and defaults.
abbrev pub options : List Rule
options =
    record { name = codes "workers"; low = 1; high = 63; default = Some 1 }
    ∷ (record { name = codes "sets"; low = 1; high = 65536; default = Some 4096 }
    ∷ (record { name = codes "asks"; low = 1; high = 10000; default = Some 100 } ∷ []))

-- What the values of the options ask for.
abbrev pub asked_with : List ℕ → Option Asked
asked_with [] = None
asked_with (workers ∷ []) = None
asked_with (workers ∷ (sets ∷ [])) = None
asked_with (workers ∷ (sets ∷ (asks ∷ []))) = Some record { workers = workers; sets = sets; asks = asks }
asked_with (workers ∷ (sets ∷ (asks ∷ (more ∷ values)))) = None

-- What words ask for: the first is `watch`, and the others are its options.
abbrev pub asked_by : List (List ℕ) → Option Asked
asked_by [] = None
asked_by (name ∷ words) = if bytes_eq name (codes "watch") then option_and_then asked_with (values_of options words)
    else None
