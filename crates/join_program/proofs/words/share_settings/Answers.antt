-- The values of the options with a share.
use Rattle.std.proofs.Common.{◌≡◌, ◌∙◌, ◌≤◌, ℕ, List, [], ◌∷◌, sym, ap, arith, refl, Some, None, map, Ok, Err, Result}
use Rattle.std.proofs.Common.{cond}
use Rattle.std.proofs.Common.{get_or, length, ◌<◌}
use Rattle.std.proofs.lemmas.Bool.{le-leb}
use Rattle.std.specs.Prelude.{option_and_then, IfErr, IsErrAnd}
use Rattle.std.specs.String.{string_bytes}
use Rattle.command_words.specs.Options.{values_of}
use Rattle.command_words.specs.Views.{rules_of}
use Rattle.join_program.specs.Words.{share_options, asked_with}
use Rattle.join_program.proofs.words.share_settings.Goals as goal

err-weaker : {T E : Type 0} (r : Result T E) (P Q : E → Type 0) → IsErrAnd r P → ((e : E) → P e → Q e) → IfErr r Q
err-weaker (Ok x) P Q is more = absurd is
err-weaker (Err e) P Q is more = more e is

pub returns-in_err-values-clause-refused : goal.returns-in_err-values-clause-refused
returns-in_err-values-clause-refused c =
    let table : rules_of c.as_slice.result.now ≡ share_options = ap rules_of c.as_slice.ensures in
    let refused = c.in_err-values.ensures.refused in
    err-weaker c.from_residual.result _ _ c.from_residual.ensures.1
    (λ error same is files.
    ap (λ t. option_and_then (asked_with files) (values_of t (map string_bytes c.args.words.now))) (sym table)
    ∙ ap (option_and_then (asked_with files)) (refused (cc (same, is))))

asked_shared : (files : List (List ℕ)) (idle active size number count : ℕ) → number ≤ count
    → asked_with files (idle ∷ active ∷ size ∷ number ∷ count ∷ []) ≡ Some (record {
      idle = idle;
      active = active;
      size = size;
      share = Some (record { number = number; count = count });
      files = files;
    })
asked_shared files idle active size number count low =
    ap (λ b. cond b (Some (record {
      idle = idle;
      active = active;
      size = size;
      share = Some (record { number = number; count = count });
      files = files;
    }))
    None) (le-leb number count low)

five : (xs : List ℕ) → 5 ≤ length xs → length xs < 6
    → xs ≡ get_or xs 0 0 ∷ get_or xs 1 0 ∷ get_or xs 2 0 ∷ get_or xs 3 0 ∷ get_or xs 4 0 ∷ []
five [] low high = absurd (omega (arith, low))
five (a ∷ []) low high = absurd (omega (arith, low))
five (a ∷ (b ∷ [])) low high = absurd (omega (arith, low))
five (a ∷ (b ∷ (c ∷ []))) low high = absurd (omega (arith, low))
five (a ∷ (b ∷ (c ∷ (d ∷ [])))) low high = absurd (omega (arith, low))
five (a ∷ (b ∷ (c ∷ (d ∷ (e ∷ []))))) low high = refl
five (a ∷ (b ∷ (c ∷ (d ∷ (e ∷ (f ∷ xs)))))) low high = absurd (omega (arith, high))

pub returns-clause-asked : goal.returns-clause-asked
returns-clause-asked c = λ files.
    let table : rules_of c.as_slice.result.now ≡ share_options = ap rules_of c.as_slice.ensures in
    let values = c.as_slice-2.result.now in
    ap (λ t. option_and_then (asked_with files) (values_of t (map string_bytes c.args.words.now))) (sym table)
    ∙ ap (option_and_then (asked_with files)) (c.in_ok-values.ensures.values
    ∙ ap Some (sym c.as_slice-2.ensures.value ∙ five values c.in-len5.len_at_least c.in-len5.len_below))
    ∙ asked_shared files (get_or values 0 0) (get_or values 1 0) (get_or values 2 0) (get_or values 3 0)
    (get_or values 4 0) c.if-number-count.false
