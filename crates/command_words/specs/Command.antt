-- The code's own: the command that `clap` reads the words by, and the values of what it found.
use Rattle.std.specs.Prelude.{ℕ, true, List, [], ◌∷◌, map, Option, Some, None, option_map, option_and_then}
use Rattle.clap.specs.Words.{App, Text, new_rule}
use Rattle.clap.specs.Walk.{Rule as ArgumentRule}
use Rattle.clap.specs.Simple.{new_shape}
use Rattle.clap.specs.declared.builder.action.ArgAction.TheVariants.{Set}
use Rattle.command_words.specs.Options.{Rule, value_by}

-- An option of the command: its name, with one value.
abbrev pub given_rule : Text → ArgumentRule
given_rule name = record (new_rule name) { long = Some name; action = Some Set }

-- The command with these options: no program's name before them, and no help.
abbrev pub app_for : List Text → App
app_for names = record {
  top = record (new_shape []) { rules = map given_rule names; no_binary_name = true; disable_help_flag = true };
  subs = [];
}

abbrev pub names_in : List Rule → List Text
names_in table = map (λ (rule : Rule). rule.name) table

-- The text of a value as a list: that one text, or no text.
abbrev pub texts_of : Option Text → List Text
texts_of None = []
texts_of (Some text) = text ∷ []

-- The values of the options, by the text that was found for each name.
abbrev pub values_found : List Rule → (Text → Option Text) → Option (List ℕ)
values_found [] found = Some []
values_found (rule ∷ table) found =
    option_and_then (λ value. option_map (λ values. value ∷ values) (values_found table found))
    (value_by rule (texts_of (found rule.name)))
