use Rattle.std.proofs.Common.{◌≡◌, ◌∙◌, sym, ap, Some, map, Ok, Err, Result}
use Rattle.std.specs.Prelude.{option_map, IfErr, IsErrAnd}
use Rattle.std.specs.String.{string_bytes}
use Rattle.command_words.specs.Options.{values_of}
use Rattle.command_words.specs.Views.{rules_of}
use Rattle.meter_program.specs.Words.{meter_options, meter_with}
use Rattle.meter_program.proofs.words.settings.Goals as goal

pub returns-clause-settings : goal.returns-clause-settings
returns-clause-settings c =
    let table : rules_of c.as_slice.result.now ≡ meter_options = ap rules_of c.as_slice.ensures in
    ap (λ t. option_map meter_with (values_of t (map string_bytes c.args.options.now))) (sym table)
    ∙ ap (option_map meter_with) c.in_ok-values.ensures.values
    ∙ ap (λ values. Some (meter_with values)) (sym c.as_slice-2.ensures.value)

err-weaker : {T E : Type 0} (r : Result T E) (P Q : E → Type 0) → IsErrAnd r P → ((e : E) → P e → Q e) → IfErr r Q
err-weaker (Ok x) P Q is more = absurd is
err-weaker (Err e) P Q is more = more e is

pub returns-in_err-values-clause-refused : goal.returns-in_err-values-clause-refused
returns-in_err-values-clause-refused c =
    let table : rules_of c.as_slice.result.now ≡ meter_options = ap rules_of c.as_slice.ensures in
    let refused = c.in_err-values.ensures.refused in
    err-weaker c.from_residual.result _ _ c.from_residual.ensures.1
    (λ error same is. ap (λ t. option_map meter_with (values_of t (map string_bytes c.args.options.now))) (sym table)
    ∙ ap (option_map meter_with) (refused (cc (same, is))))
