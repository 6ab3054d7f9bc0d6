-- The words at the front are options, and the others are files.
use Rattle.std.proofs.Common.{◌≡◌, ◌∙◌, ℕ, List, Bool, false, true, cond, sym, ap, subst, Some, None, Option, Result}
use Rattle.std.proofs.Common.{Ok, Err, map}
use Rattle.std.proofs.Common.{take, drop, refl}
use Rattle.std.specs.Prelude.{option_and_then, IfErr, IsErrAnd}
use Rattle.std.specs.String.{string_bytes}
use Rattle.std.proofs.lemmas.List.{drop-map, take-map}
use Rattle.command_words.specs.Options.{values_of}
use Rattle.join_program.specs.Words.{values_by, asked_with, Asked, options, share_options, option_words, are_files}
use Rattle.join_program.specs.Words.{asked_of_words}
use Rattle.join_program.specs.Taking.{asked_of}
use Rattle.join_program.proofs.words.command_in.Goals as goal

err-weaker : {T E : Type 0} (r : Result T E) (P Q : E → Type 0) → IsErrAnd r P → ((e : E) → P e → Q e) → IfErr r Q
err-weaker (Ok x) P Q is more = absurd is
err-weaker (Err e) P Q is more = more e is

abbrev asked_in : List (List ℕ) → List (List ℕ) → Option Asked
asked_in files words = option_and_then (asked_with files)
    (values_by (values_of options words) (values_of share_options words))

none_either : (b : Bool) (x : Option Asked) → x ≡ None → cond b x None ≡ None
none_either true x e = e
none_either false x e = refl

refused_words : (words front : List (List ℕ)) → front ≡ take (option_words false words) words
    → asked_in (drop (option_words false words) words) front ≡ None → asked_of_words words ≡ None
refused_words words front front_is none =
    none_either (are_files (drop (option_words false words) words)) _
    (subst (λ ws. asked_in (drop (option_words false words) words) ws ≡ None) front_is none)

asked_words : (words front back : List (List ℕ)) (asked : List (List ℕ) → Asked)
    → front ≡ take (option_words false words) words → back ≡ drop (option_words false words) words
    → are_files back ≡ true → asked_in back front ≡ Some (asked back) → asked_of_words words ≡ Some (asked back)
asked_words words front back asked front_is back_is are is =
    ap (λ b. cond b (asked_in (drop (option_words false words) words) (take (option_words false words) words)) None)
    (ap are_files (sym back_is) ∙ are)
    ∙ ap (λ ws. asked_in (drop (option_words false words) words) ws) (sym front_is)
    ∙ ap (λ fs. asked_in fs front) (sym back_is) ∙ is

pub returns-in_err-settings-clause-refused : goal.returns-in_err-settings-clause-refused
returns-in_err-settings-clause-refused c =
    let refused = c.in_err-settings.ensures.refused in
    err-weaker c.from_residual.result _ _ c.from_residual.ensures.1
    (λ error same is. refused_words (map string_bytes c.args.words.now) (map string_bytes c.split_at.result.0.now)
    (ap (map string_bytes) c.split_at.ensures.front ∙ sym (take-map string_bytes c.option_words.result c.args.words.now)
    ∙ ap (λ n. take n (map string_bytes c.args.words.now)) c.option_words.ensures.number)
    (refused (cc (same, is)) _))

pub returns-clause-asked : goal.returns-clause-asked
returns-clause-asked c = asked_words (map string_bytes c.args.words.now) (map string_bytes c.split_at.result.0.now)
    (map string_bytes c.split_at.result.1.now) (asked_of c.in_ok-settings.settings)
    (ap (map string_bytes) c.split_at.ensures.front ∙ sym (take-map string_bytes c.option_words.result c.args.words.now)
    ∙ ap (λ n. take n (map string_bytes c.args.words.now)) c.option_words.ensures.number)
    (ap (map string_bytes) c.split_at.ensures.back ∙ sym (drop-map string_bytes c.option_words.result c.args.words.now)
    ∙ ap (λ n. drop n (map string_bytes c.args.words.now)) c.option_words.ensures.number)
    (sym c.are_files.ensures ∙ c.if-not-are_files.false) (c.in_ok-settings.ensures.asked _)
