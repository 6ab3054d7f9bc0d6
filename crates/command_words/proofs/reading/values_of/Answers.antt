use Rattle.std.proofs.Common.{◌≡◌, ◌∙◌, sym, ap, subst, map, true, false, ⊎_elim, true≢false}
use Rattle.std.specs.String.{string_bytes}
use Rattle.std.proofs.lemmas.Result.{IfErr-weaker, IfOk-weaker}
use Rattle.clap.specs.Words.{first_of, first_value, found_of, matches_of, is_simple, kind_of}
use denote.Enum.Bare.{sameb}
use Rattle.clap.specs.contracts.error.kind.ErrorKind.{the_type}
use Rattle.clap.specs.declared.error.kind.ErrorKind.TheVariants.{OutOfMemory}
use Rattle.clap.specs.Kinds.{IsAmong}
use Rattle.clap.specs.Faults.{fault_of, is_simple_and_free}
use Rattle.clap.proofs.WalkLemmas.{first_value-rows}
use Rattle.command_words.specs.Command.{names_in}
use Rattle.command_words.specs.Views.{rules_of, rule_of}
use Rattle.command_words.proofs.Rules.{is-simple, is-free}
use Rattle.command_words.proofs.Ranges.{values-within, within-length, length-map}
use Rattle.command_words.proofs.Taken.{reading-ok, dashes-none, refused-none}
use Rattle.command_words.proofs.reading.values_of.Goals as goal

pub returns-then-has_dashes-clause-refused : goal.returns-then-has_dashes-clause-refused
returns-then-has_dashes-clause-refused c =
    λ _. dashes-none (rules_of c.args.table.now) (map string_bytes c.args.words.now)
    (sym c.has_dashes.ensures ∙ c.if-has_dashes.true)

pub returns-in-Ok-clause-values : goal.returns-in-Ok-clause-values
returns-in-Ok-clause-values c =
    let table = rules_of c.args.table.now in
    let words = map string_bytes c.args.words.now in
    let command = c.in_ok-command.ensures in
    let found = first_value (found_of c.in-Ok.matches) in
    let quiet = sym (ap (λ a. fault_of a words) command)
    ∙ c.in-Ok.ensures.kinds (ap is_simple_and_free command ∙ is-free (names_in table)) in
    let rows = (c.in-Ok.ensures.matches (ap is_simple command ∙ is-simple (names_in table))).0
    ∙ ap (λ a. matches_of a words) command in
    let same = reading-ok table words found (sym c.has_dashes.ensures ∙ c.if-has_dashes.false) quiet
    (λ name. first_value-rows (found_of c.in-Ok.matches) name ∙ ap (first_of name) rows) in
    IfOk-weaker c.values_found.result _ _ (λ values is. sym same ∙ is) c.values_found.ensures.values

pub returns-in-Ok-clause-within : goal.returns-in-Ok-clause-within
returns-in-Ok-clause-within c =
    IfOk-weaker c.values_found.result _ _
    (λ values is. values-within (rules_of c.args.table.now)
    (map string_bytes c.args.words.now) values.items c.requires.defaults is) (returns-in-Ok-clause-values c)

pub returns-in-Ok-clause-count : goal.returns-in-Ok-clause-count
returns-in-Ok-clause-count c =
    IfOk-weaker c.values_found.result _ _
    (λ values is. within-length (rules_of c.args.table.now) values.items
    (values-within (rules_of c.args.table.now) (map string_bytes c.args.words.now) values.items c.requires.defaults is)
    ∙ length-map rule_of c.args.table.now) (returns-in-Ok-clause-values c)

pub returns-in-Ok-clause-refused : goal.returns-in-Ok-clause-refused
returns-in-Ok-clause-refused c =
    let table = rules_of c.args.table.now in
    let words = map string_bytes c.args.words.now in
    let command = c.in_ok-command.ensures in
    let found = first_value (found_of c.in-Ok.matches) in
    let quiet = sym (ap (λ a. fault_of a words) command)
    ∙ c.in-Ok.ensures.kinds (ap is_simple_and_free command ∙ is-free (names_in table)) in
    let rows = (c.in-Ok.ensures.matches (ap is_simple command ∙ is-simple (names_in table))).0
    ∙ ap (λ a. matches_of a words) command in
    let same = reading-ok table words found (sym c.has_dashes.ensures ∙ c.if-has_dashes.false) quiet
    (λ name. first_value-rows (found_of c.in-Ok.matches) name ∙ ap (first_of name) rows) in
    IfErr-weaker c.values_found.result _ _ (λ error is refused. sym same ∙ is refused) c.values_found.ensures.refused

pub returns-in-Err-2-clause-refused : goal.returns-in-Err-2-clause-refused
returns-in-Err-2-clause-refused c =
    let table = rules_of c.args.table.now in
    let words = map string_bytes c.args.words.now in
    let command = c.in_ok-command.ensures in
    let kinds = c.in-Err.ensures.kinds (ap is_simple_and_free command ∙ is-free (names_in table)) in
    λ _. refused-none table words (λ quiet. ⊎_elim
    (λ memory.
    let same : false ≡ true = sym c.if-eq.false ∙ c.eq.ensures
    ∙ ap (λ k. sameb the_type k OutOfMemory) (c.kind.ensures ∙ memory) in
    true≢false (sym same))
    (λ among. subst (IsAmong (kind_of c.in-Err.error)) (ap (λ a. fault_of a words) command ∙ quiet) among)
    kinds)
