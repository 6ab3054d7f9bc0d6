-- What the words of a command line ask for.
use Rattle.std.specs.Prelude.{ℕ, if◌then◌else◌, List, [], ◌∷◌, Option, Some, None, codes, option_and_then}
use Rattle.std.specs.Str.{bytes_eq}
use Rattle.command_words.specs.Options.{Rule, values_of}
use Rattle.pair_program.specs.declared.settings.PairSettings.{PairSettings}
use Rattle.ipfix_model.specs.Sizes.{bi_template_message_length}

-- What is asked for: an idle time-out in seconds, and the most octets of a message.
pub record Asked : Type 0 where
  pub idle : ℕ
  pub size : ℕ

abbrev pub asked_of : PairSettings → Asked
asked_of settings = record { idle = settings.idle; size = settings.size }

-- The options of the command: their names, least and greatest values, and defaults.
abbrev pub options : List Rule
options =
    record { name = codes "idle"; low = 1; high = 86400; default = Some 300 }
    ∷ record { name = codes "size"; low = bi_template_message_length; high = 65535; default = Some 1400 } ∷ []

-- What the values of the options ask for.
abbrev pub asked_with : List ℕ → Option Asked
asked_with [] = None
asked_with (idle ∷ []) = None
asked_with (idle ∷ (size ∷ [])) = Some record { idle = idle; size = size }
asked_with (idle ∷ (size ∷ (more ∷ values))) = None

-- What words ask for: the first is `pair`, and the others are its options.
abbrev pub asked_by : List (List ℕ) → Option Asked
asked_by [] = None
asked_by (name ∷ words) = if bytes_eq name (codes "pair") then option_and_then asked_with (values_of options words)
    else None
