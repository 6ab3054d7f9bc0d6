use Rattle.std.proofs.Common.{◌≡◌, ◌++◌, List, ℕ, drop, option_map}
use Rattle.clap.specs.Words.{first_value, found_of}
use Rattle.command_words.specs.Command.{values_found}
use Rattle.command_words.specs.Views.{rules_of}
use Rattle.command_words.proofs.reading.values_found.Given as goal

abbrev pub invariant-loop-rule : goal.invariant-loop-rule
invariant-loop-rule l =
    option_map (λ (more : List ℕ). l.values.items ++ more)
    (values_found (rules_of (drop l.rule-index l.table)) (first_value (found_of l.matches)))
    ≡ values_found (rules_of l.table) (first_value (found_of l.matches))
