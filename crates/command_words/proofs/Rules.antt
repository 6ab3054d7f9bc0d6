-- The rules of a command of options as `clap` builds it, and which of them a name finds.
use Rattle.std.proofs.Common.{◌≡◌, ◌&&◌, ◌||◌, ℕ, Bool, true, false, not, cond, refl, sym, ap, ◌∙◌, List, [], ◌∷◌, map}
use Rattle.std.proofs.Common.{Option, Some, None, is_some, true≢false}
use Rattle.std.specs.Prelude.{count_by}
use Rattle.std.specs.List.{list_any, list_all}
use Rattle.std.specs.Str.{bytes_eq}
use Rattle.std.proofs.lemmas.Slice.Eq.{bytes_eq-Decides}
use Rattle.clap.specs.Walk.{Rule, Text, arg_by_id, arg_by_long, arg_by_short, arg_by_index, is_early_multiple}
use Rattle.clap.specs.Simple.{App, Shape, new_shape, filled_from, built, is_simple, is_buildable, is_ready}
use Rattle.clap.specs.Simple.{is_ready_leaf}
use Rattle.clap.specs.Faults.{is_simple_and_free, is_free_app}
use Rattle.std.proofs.lemmas.Bool.{and_from}
use Rattle.command_words.specs.Command.{given_rule, app_for}
use Rattle.clap.specs.declared.builder.value_parser.ValueParser.TheVariants as vp

-- an option as it is built
abbrev pub built_rule : Text → Rule
built_rule name = record (given_rule name) {
  parser = Some vp.String;
  range = Some (record { start_inclusive = 1; end_inclusive = 1 });
}

abbrev pub rules_for : List Text → List Rule
rules_for names = map built_rule names

-- the command of these options as it is built
abbrev pub shape_for : List Text → Shape
shape_for names = record (new_shape []) {
  rules = rules_for names;
  no_binary_name = true;
  disable_help_flag = true;
  disable_help_subcommand = true;
  is_built = true;
}

pub filled-is : (names : List Text) (i : ℕ) → filled_from i (map given_rule names) ≡ rules_for names
filled-is [] i = refl
filled-is (name ∷ names) i = ap (λ rest. built_rule name ∷ rest) (filled-is names i)

pub built-is : (names : List Text) → built (app_for names) ≡ record { top = shape_for names; subs = [] }
built-is names = ap (λ rules. record { top = record (shape_for names) { rules = rules }; subs = [] })
    (filled-is names 1)

-- ---- which option a name finds

abbrev pub is_known : List Text → Text → Bool
is_known names name = list_any (λ n. bytes_eq n name) names

-- the first of two tests that holds
pub or-later : (b rest : Bool) → (b || rest) ≡ true → b ≡ false → rest ≡ true
or-later true rest known none = absurd (true≢false none)
or-later false rest known none = known

same-name : (n name : Text) → bytes_eq n name ≡ true → n ≡ name
same-name n name same = (bytes_eq-Decides n name).0 same

long-step : (b : Bool) (n name : Text) (rest : Option Rule) → (b ≡ true → n ≡ name)
    → (b ≡ false → rest ≡ Some (built_rule name))
    → cond (b || false) (Some (built_rule n)) rest ≡ Some (built_rule name)
long-step true n name rest here there = ap (λ x. Some (built_rule x)) (here refl)
long-step false n name rest here there = there refl

id-step : (b : Bool) (n name : Text) (rest : Option Rule) → (b ≡ true → n ≡ name)
    → (b ≡ false → rest ≡ Some (built_rule name))
    → cond b (Some (built_rule n)) rest ≡ Some (built_rule name)
id-step true n name rest here there = ap (λ x. Some (built_rule x)) (here refl)
id-step false n name rest here there = there refl

pub long-known : (names : List Text) (name : Text) → is_known names name ≡ true
    → arg_by_long (rules_for names) name ≡ Some (built_rule name)
long-known [] name known = absurd (true≢false (sym known))
long-known (n ∷ names) name known =
    long-step (bytes_eq n name) n name (arg_by_long (rules_for names) name) (same-name n name)
    (λ other. long-known names name (or-later _ _ known other))

pub id-known : (names : List Text) (name : Text) → is_known names name ≡ true
    → arg_by_id (rules_for names) name ≡ Some (built_rule name)
id-known [] name known = absurd (true≢false (sym known))
id-known (n ∷ names) name known =
    id-step (bytes_eq n name) n name (arg_by_id (rules_for names) name) (same-name n name)
    (λ other. id-known names name (or-later _ _ known other))

none-step : (b rest : Bool) (n : Text) (found : Option Rule) → (b || rest) ≡ false → (rest ≡ false → found ≡ None)
    → cond (b || false) (Some (built_rule n)) found ≡ None
none-step true rest n found unknown there = absurd (true≢false unknown)
none-step false rest n found unknown there = there unknown

pub long-unknown : (names : List Text) (name : Text) → is_known names name ≡ false
    → arg_by_long (rules_for names) name ≡ None
long-unknown [] name unknown = refl
long-unknown (n ∷ names) name unknown =
    none-step (bytes_eq n name) (is_known names name) n (arg_by_long (rules_for names) name) unknown
    (long-unknown names name)

pub short-none : (names : List Text) (x : ℕ) → arg_by_short (rules_for names) x ≡ None
short-none [] x = refl
short-none (n ∷ names) x = short-none names x

pub index-none : (names : List Text) (i : ℕ) → arg_by_index (rules_for names) i ≡ None
index-none [] i = refl
index-none (n ∷ names) i = index-none names i

-- ---- the command is simple, and its options have no rule on one another

simple-given : (names : List Text) → list_all (λ a. a.is_simple) (map given_rule names) ≡ true
simple-given [] = refl
simple-given (n ∷ names) = simple-given names

simple-built : (names : List Text) → list_all (λ a. a.is_simple) (rules_for names) ≡ true
simple-built [] = refl
simple-built (n ∷ names) = simple-built names

free-built : (names : List Text) → list_all (λ a. a.is_free) (rules_for names) ≡ true
free-built [] = refl
free-built (n ∷ names) = free-built names

in-order : (names : List Text) (n : ℕ) → list_any (is_early_multiple n) (rules_for names) ≡ false
in-order [] n = refl
in-order (name ∷ names) n = in-order names n

ready : (names : List Text) → is_ready (shape_for names) ≡ true
ready names = and_from _ _ (simple-built names)
    (ap not (in-order names (count_by (λ (a : Rule). is_some a.index) (rules_for names))))

pub is-simple : (names : List Text) → is_simple (app_for names) ≡ true
is-simple names =
    ap (λ (b : App). is_buildable (app_for names) && (is_ready b.top && list_all is_ready_leaf b.subs)) (built-is names)
    ∙ and_from _ _ (and_from _ _ (simple-given names) refl) (and_from _ _ (ready names) refl)

pub is-free : (names : List Text) → is_simple_and_free (app_for names) ≡ true
is-free names = and_from _ _ (is-simple names) (ap is_free_app (built-is names) ∙ and_from _ _ (free-built names) refl)
