use Rattle.std.proofs.Common.{rules, ◌≡◌, ◌++◌, ◌∷◌, [], ◌∙◌, refl, sym, ap, ap₂, map, take, get_or, length, List, ℕ}
use Rattle.std.proofs.Common.{◌+◌, ◌<◌, arith, None}
use Rattle.clap.specs.Words.{App, Rule, rule_of, with_rule}
use Rattle.std.proofs.lemmas.Grind.{take_at_read}
use Rattle.command_words.specs.Command.{given_rule, app_for, names_in}
use Rattle.command_words.specs.Views.{rules_of}
use Rattle.command_words.specs.declared.rule.OptionRule.{OptionRule}
use Rattle.command_words.proofs.reading.command_of.Goals as goal

rules-snoc : (table : List OptionRule) (option : OptionRule)
    → map given_rule (names_in (rules_of (table ++ option ∷ []))) ≡ map given_rule (names_in (rules_of table))
    ++ given_rule option.name.now ∷ []
rules-snoc [] option = refl
rules-snoc (first ∷ table) option = ap (λ rest. given_rule first.name.now ∷ rest) (rules-snoc table option)

-- one option more
app-snoc : (table : List OptionRule) (i : ℕ) (option : OptionRule) → i < length table
    → with_rule (app_for (names_in (rules_of (take i table)))) (given_rule (get_or table i option).name.now)
    ≡ app_for (names_in (rules_of (take (i + 1) table)))
app-snoc table i option within =
    let with_rules : List Rule → App = λ rules. record { top = record (app_for []).top { rules = rules }; subs = [] } in
    ap with_rules (sym (rules-snoc (take i table) (get_or table i option))
    ∙ ap (λ t. map given_rule (names_in (rules_of t))) (sym (take_at_read table i option within).1))

abbrev nobody : OptionRule
nobody = record { name = record { ref_ptr = (0, 0); now = [] }; low = 0; high = 0; default = None }

pub loop-rule-preserved : goal.loop-rule-preserved
loop-rule-preserved c =
    let made : rule_of c.action-option.result
    ≡ given_rule (get_or c.args.table.now c.loop-rule.rule-index nobody).name.now = search rules in
    c.in_ok-command.ensures.shape (search rules)
    ∙ ap₂ with_rule c.loop-rule.invariant made
    ∙ app-snoc c.args.table.now c.loop-rule.rule-index nobody (omega (arith, c.loop-rule-test.true))
