-- What contracts see of a table of options.
use Rattle.std.specs.Prelude.{List, map}
use Rattle.command_words.specs.declared.rule.OptionRule.{OptionRule}
use Rattle.command_words.specs.Options.{Rule}

-- An option of a table.
abbrev pub rule_of : OptionRule → Rule
rule_of rule = record { name = rule.name.now; low = rule.low; high = rule.high; default = rule.default }

abbrev pub rules_of : List OptionRule → List Rule
rules_of table = map rule_of table
