-- Reads the words of one command as its options, by a table of them.
use Rattle.std.specs.Prelude.{ℕ, Bool, true, ⊤, ◌≤◌, ◌==◌, ◌&&◌, nat_le, nat_lt, if◌then◌else◌, List, [], ◌∷◌, length}
use Rattle.std.specs.Prelude.{Option, Some, None, option_map, option_and_then}
use Rattle.std.specs.Char.{is_ascii_digit}
use Rattle.std.specs.List.{list_any, list_all, before_first, after_first}
use Rattle.std.specs.Option.{option_map_or}
use Rattle.std.specs.Str.{bytes_eq}
use Rattle.std.specs.Str.Parse.{digits_value}

-- An option: its name, its least and its greatest value, and its default, the value where it isn't given. An option
-- without a default must be given.
pub record Rule : Type 0 where
  pub name : List ℕ
  pub low : ℕ
  pub high : ℕ
  pub default : Option ℕ

-- ---- words

-- The text behind a hyphen (45).
abbrev pub behind_hyphen : List ℕ → Option (List ℕ)
behind_hyphen [] = None
behind_hyphen (first ∷ rest) = if first == 45 then Some rest else None

-- A name, and behind the first equals sign (61), where there is one, a value.
abbrev pub name_and_value : List ℕ → List ℕ × Option (List ℕ)
name_and_value text = (
  before_first (λ x. x == 61) text,
  if list_any (λ x. x == 61) text then Some (after_first (λ x. x == 61) text) else None,
)

-- The same for a text that isn't empty; none for an empty one.
abbrev pub named_value : List ℕ → Option (List ℕ × Option (List ℕ))
named_value [] = None
named_value (first ∷ rest) = Some (name_and_value (first ∷ rest))

-- A word `--name` or `--name=value`, as its name and its value, if any; none for any other word.
abbrev pub option_word : List ℕ → Option (List ℕ × Option (List ℕ))
option_word word = option_and_then named_value (option_and_then behind_hyphen (behind_hyphen word))

-- What is given for an option: its name and the text of its value.
abbrev pub Given : Type 0
Given = List ℕ × List ℕ

-- ---- the grammar

-- One option in front of the others, where these words are options.
abbrev pub with_option : Given → Option (List Given) → Option (List Given)
with_option given others = option_map (λ more. given ∷ more) others

-- An option's word, before the words behind it, read by `behind`: where it has no value, the next word is its value.
abbrev pub option_then : Option (List ℕ × Option (List ℕ)) → (Option (List ℕ) → Option (List Given))
    → Option (List Given)
option_then None behind = None
option_then (Some (name, Some value)) behind = with_option (name, value) (behind None)
option_then (Some (name, None)) behind = behind (Some name)

-- The options that the words are; none where they are not options. The first argument is a name that waits for its
-- value, if there is one.
unfoldable pub options_from : Option (List ℕ) → List (List ℕ) → Option (List Given)
options_from None [] = Some []
options_from (Some name) [] = None
options_from None (word ∷ words) = option_then (option_word word) (λ waiting. options_from waiting words)
options_from (Some name) (word ∷ words) = with_option (name, word) (options_from None words)

-- ---- values

-- The number that one to twenty decimal digits write; none for any other text.
abbrev pub number_of : List ℕ → Option ℕ
number_of text =
    if nat_lt 0 (length text) && nat_le (length text) 20 && list_all is_ascii_digit text
    then Some (digits_value 10 text)
    else None

-- The number, where it is from `low` to `high`; else none.
abbrev pub within : ℕ → ℕ → ℕ → Option ℕ
within low high number = if nat_le low number && nat_le number high then Some number else None

-- The texts that are given for a name.
abbrev pub texts_for : List ℕ → List Given → List (List ℕ)
texts_for name [] = []
texts_for name (given ∷ more) = if bytes_eq given.0 name then given.1 ∷ texts_for name more else texts_for name more

-- The value of an option, by the texts given for it: with none, its default; with one, the number that it writes, where
-- this is in range; with more than one, no value.
abbrev pub value_by : Rule → List (List ℕ) → Option ℕ
value_by rule [] = rule.default
value_by rule (text ∷ []) = option_and_then (within rule.low rule.high) (number_of text)
value_by rule (text ∷ (another ∷ texts)) = None

-- ---- the command line

-- Each name that is given is that of an option.
abbrev pub are_known : List Rule → List Given → Bool
are_known table given = list_all (λ one. list_any (λ rule. bytes_eq rule.name one.0) table) given

-- The value of each option, in the order of the table.
abbrev pub values_by : List Rule → List Given → Option (List ℕ)
values_by [] given = Some []
values_by (rule ∷ table) given =
    option_and_then (λ value. option_map (λ values. value ∷ values) (values_by table given))
    (value_by rule (texts_for rule.name given))

-- The values of the options of a table, in the table's order, by the words behind a command's name. The words must be
-- options of the table, each given at most once and with a value in its range, and an option without a default must be
-- given; otherwise there are no values.
abbrev pub values_of : List Rule → List (List ℕ) → Option (List ℕ)
values_of table words =
    option_and_then (λ given. if are_known table given then values_by table given else None) (options_from None words)

-- ---- ranges

-- The default, where there is one, is in the option's range.
abbrev pub has_default_within : Rule → Bool
has_default_within rule = option_map_or (λ value. nat_le rule.low value && nat_le value rule.high) rule.default true

abbrev pub have_defaults_within : List Rule → Bool
have_defaults_within table = list_all has_default_within table

-- There is a value for each option, in its range.
abbrev pub AreWithin : List Rule → List ℕ → Type 0
AreWithin [] [] = ⊤
AreWithin [] (value ∷ values) = ⊥
AreWithin (rule ∷ table) [] = ⊥
AreWithin (rule ∷ table) (value ∷ values) = (rule.low ≤ value) × (value ≤ rule.high) × AreWithin table values
