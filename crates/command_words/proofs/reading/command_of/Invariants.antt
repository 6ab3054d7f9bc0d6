use Rattle.std.proofs.Common.{◌≡◌, take}
use Rattle.clap.specs.Words.{app_of}
use Rattle.command_words.specs.Command.{app_for, names_in}
use Rattle.command_words.specs.Views.{rules_of}
use Rattle.command_words.proofs.reading.command_of.Given as goal

abbrev pub invariant-loop-rule : goal.invariant-loop-rule
invariant-loop-rule l = app_of l.command ≡ app_for (names_in (rules_of (take l.rule-index l.table)))
