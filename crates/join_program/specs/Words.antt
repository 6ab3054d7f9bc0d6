-- What the words of a command line ask for.
use Rattle.std.specs.Prelude.{ℕ, ◌+◌, ◌==◌, ◌&&◌, Bool, true, false, not, nat_le, nat_lt, if◌then◌else◌, List, [], ◌∷◌}
use Rattle.std.specs.Prelude.{length, take, drop, filter, Option, Some, None, codes, option_and_then}
use Rattle.std.specs.List.{list_any}
use Rattle.std.specs.Str.{bytes_eq}
use Rattle.command_words.specs.Options.{Rule, values_of}
use Rattle.ipfix_model.specs.Sizes.{template_message_length}

-- One share of several: its number, counted from 1, and how many there are.
pub record OneOf : Type 0 where
  pub number : ℕ
  pub count : ℕ

-- What is asked for: to join these files, with time-outs in seconds, into messages of at most `size` octets; all
-- records, or those of one share.
pub record Asked : Type 0 where
  pub idle : ℕ
  pub active : ℕ
  pub size : ℕ
  pub share : Option OneOf
  pub files : List (List ℕ)

-- ---- options and files

-- An option begins with two hyphens (45).
abbrev pub is_option : List ℕ → Bool
is_option [] = false
is_option (first ∷ []) = false
is_option (first ∷ (second ∷ rest)) = (first == 45) && (second == 45)

-- An option has its value in the same word, after an equals sign (61).
abbrev pub has_value : List ℕ → Bool
has_value word = list_any (λ x. x == 61) word

-- How many words at the front are options and their values; the others are files. Where an option waits for its value,
-- the next word is the value.
abbrev pub option_words : Bool → List (List ℕ) → ℕ
option_words waiting [] = 0
option_words true (word ∷ words) = 1 + option_words false words
option_words false (word ∷ words) = if is_option word then 1 + option_words (not (has_value word)) words else 0

-- There are 1 to 65,536 files, and standard input, `-`, is at most one of them.
abbrev pub are_files : List (List ℕ) → Bool
are_files files =
    nat_lt 0 (length files) && nat_le (length files) 65536
    && nat_le (length (filter (λ name. bytes_eq name (codes "-")) files)) 1

-- ---- the options: their names, least and greatest values, and defaults

abbrev pub options : List Rule
options =
    record { name = codes "idle"; low = 1; high = 86400; default = Some 300 }
    ∷ record { name = codes "active"; low = 1; high = 86400; default = Some 1800 }
    ∷ record { name = codes "size"; low = template_message_length; high = 65535; default = Some 1400 } ∷ []

-- The options with a share: both of its numbers must be given.
abbrev pub share_options : List Rule
share_options =
    record { name = codes "idle"; low = 1; high = 86400; default = Some 300 }
    ∷ record { name = codes "active"; low = 1; high = 86400; default = Some 1800 }
    ∷ record { name = codes "size"; low = template_message_length; high = 65535; default = Some 1400 }
    ∷ record { name = codes "part"; low = 1; high = 4096; default = None }
    ∷ record { name = codes "parts"; low = 1; high = 4096; default = None } ∷ []

-- What the values of the options ask for, with these files.
abbrev pub asked_with : List (List ℕ) → List ℕ → Option Asked
asked_with files [] = None
asked_with files (idle ∷ []) = None
asked_with files (idle ∷ (active ∷ [])) = None
asked_with files (idle ∷ (active ∷ (size ∷ []))) =
    Some record { idle = idle; active = active; size = size; share = None; files = files }
asked_with files (idle ∷ (active ∷ (size ∷ (number ∷ [])))) = None
asked_with files (idle ∷ (active ∷ (size ∷ (number ∷ (count ∷ []))))) = if nat_le number count
    then Some record {
      idle = idle;
      active = active;
      size = size;
      share = Some record { number = number; count = count };
      files = files;
    } else None
asked_with files (idle ∷ (active ∷ (size ∷ (number ∷ (count ∷ (more ∷ values)))))) = None

-- The values of the options without a share, or else of those with one.
abbrev pub values_by : Option (List ℕ) → Option (List ℕ) → Option (List ℕ)
values_by None shared = shared
values_by (Some values) shared = Some values

-- ---- the command line

abbrev pub asked_of_files : List (List ℕ) → List (List ℕ) → Option Asked
asked_of_files words files = if are_files files
    then option_and_then (asked_with files) (values_by (values_of options words) (values_of share_options words))
    else None

-- What the words after the command's name ask for: options and their values, and then files.
abbrev pub asked_of_words : List (List ℕ) → Option Asked
asked_of_words words =
    asked_of_files (take (option_words false words) words) (drop (option_words false words) words)

-- What words ask for: the first is `join`, then come its options, and the others are files.
abbrev pub asked_by : List (List ℕ) → Option Asked
asked_by [] = None
asked_by (name ∷ words) = if bytes_eq name (codes "join") then asked_of_words words else None
