-- What the words behind a program's name ask for.
use Rattle.std.specs.Prelude.{ℕ, Bool, false, ◌||◌, if◌then◌else◌, List, [], ◌∷◌, codes}
use Rattle.std.specs.Str.{bytes_eq}
use Rattle.program_help.specs.declared.request.Request.{Request}
use Rattle.program_help.specs.declared.request.Request.TheVariants.{Help, HelpOf, Version, Run}

abbrev pub is_help_option : List ℕ → Bool
is_help_option word = bytes_eq word (codes "--help") || bytes_eq word (codes "-h")

abbrev pub is_help_word : List ℕ → Bool
is_help_word word = is_help_option word || bytes_eq word (codes "help")

abbrev pub is_version_word : List ℕ → Bool
is_version_word word = bytes_eq word (codes "--version") || bytes_eq word (codes "-V")

-- One word alone.
abbrev pub request_by_word : List ℕ → Request
request_by_word first = if is_help_word first then Help else if is_version_word first then Version else Run

-- Two words or more, by the first and the second.
abbrev pub request_by_words : List ℕ → List ℕ → Request
request_by_words first second =
    if is_help_word first then HelpOf 1
    else if is_version_word first then Version
    else if is_help_option second then HelpOf 0
    else Run

abbrev pub request_of : List (List ℕ) → Request
request_of [] = Run
request_of (first ∷ []) = request_by_word first
request_of (first ∷ (second ∷ words)) = request_by_words first second

-- Whether the first word is the command's.
abbrev pub is_in_front : List ℕ → List (List ℕ) → Bool
is_in_front command [] = false
is_in_front command (first ∷ words) = bytes_eq first command

-- The words with the command's in front, if that isn't the first one already.
abbrev pub with_command : List ℕ → List (List ℕ) → List (List ℕ)
with_command command words = if is_in_front command words then words else command ∷ words
