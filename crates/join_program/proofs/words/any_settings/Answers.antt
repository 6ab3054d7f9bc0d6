-- The options without a share, or else those with one.
use Rattle.std.proofs.Common.{◌≡◌, ◌∙◌, ℕ, List, ap, Some, None, Option, Result, Ok, Err, map}
use Rattle.std.specs.Prelude.{option_and_then, IfErr}
use Rattle.std.specs.String.{string_bytes}
use Rattle.std.proofs.lemmas.Result.{IfOk-weaker}
use Rattle.command_words.specs.Options.{values_of}
use Rattle.join_program.specs.Words.{values_by, asked_with, Asked, options, share_options}
use Rattle.join_program.proofs.words.any_settings.Goals as goal

err_more : {T E : Type 0} (r : Result T E) (P Q : E → Type 0) → ((e : E) → P e → Q e) → IfErr r P → IfErr r Q
err_more (Ok x) P Q more is = tt
err_more (Err e) P Q more is = more e is

pub returns-in-Err-NotOptions-clause-asked : goal.returns-in-Err-NotOptions-clause-asked
returns-in-Err-NotOptions-clause-asked c = IfOk-weaker c.share_settings.result _ _
    (λ settings asked files.
    ap (λ v. option_and_then (asked_with files)
    (values_by v (values_of share_options (map string_bytes c.args.words.now))))
    (c.in-Err-NotOptions.ensures.refused c.in-Err-NotOptions.field-0-is) ∙ asked files) c.share_settings.ensures.asked

pub returns-in-Err-NotOptions-clause-refused : goal.returns-in-Err-NotOptions-clause-refused
returns-in-Err-NotOptions-clause-refused c = err_more c.share_settings.result _ _
    (λ error refused is files.
    ap (λ v. option_and_then (asked_with files)
    (values_by v (values_of share_options (map string_bytes c.args.words.now))))
    (c.in-Err-NotOptions.ensures.refused c.in-Err-NotOptions.field-0-is) ∙ refused is files)
    c.share_settings.ensures.refused

chosen : (files : List (List ℕ)) (plain shared : Option (List ℕ)) (asked : Asked)
    → option_and_then (asked_with files) plain ≡ Some asked
    → option_and_then (asked_with files) (values_by plain shared) ≡ Some asked
chosen files None shared asked e = absurd (let two : ◌≡◌ {A = Option Asked} None (Some asked) = e in cc)
chosen files (Some values) shared asked e = e

pub returns-in_default-2-clause-asked : goal.returns-in_default-2-clause-asked
returns-in_default-2-clause-asked c = IfOk-weaker c.settings.result _ _
    (λ settings asked files. chosen files (values_of options (map string_bytes c.args.words.now))
    (values_of share_options (map string_bytes c.args.words.now)) _ (asked files)) c.settings.ensures.asked
