-- The rows that given options make hold what the grammar says is given for each name.
use Rattle.std.proofs.Common.{◌≡◌, ◌||◌, ◌++◌, Bool, true, false, not, cond, refl, sym, ap, subst, ◌∙◌, List, [], ◌∷◌}
use Rattle.std.proofs.Common.{Option, Some, None, true≢false, ⊎_elim}
use Rattle.std.specs.Prelude.{slice_get, option_and_then}
use Rattle.std.specs.List.{list_all}
use Rattle.std.specs.Str.{bytes_eq}
use Rattle.std.proofs.lemmas.Slice.Eq.{bytes_eq-Decides}
use Rattle.std.proofs.lemmas.Bool.{and_parts, and_from, or_parts, or_cases, not-true}
use Rattle.clap.specs.Walk.{Row, Text, at_row, more_values, without, first_of, has_row, reading_by}
use Rattle.command_words.specs.Options.{Given, texts_for}
use Rattle.command_words.specs.Command.{texts_of}
use Rattle.command_words.proofs.Rules.{built_rule, is_known}
use Rattle.command_words.proofs.Walks.{with_row, rows_with, are_fresh}
use Rattle.command_words.proofs.Passing.{is_plain, are_plain}
use Rattle.clap.specs.declared.parser.matches.ValueSource.TheVariants.{CommandLine}

-- the row of a given option
abbrev row_for : Given → Row
row_for given =
    record {
      id = given.0;
      values = given.1 ∷ [];
      count = None;
      source = Some CommandLine;
      reading =
          reading_by (built_rule given.0);
    }

-- a row that isn't there
absent : (name : Text) (change : Row → List Row) (missing rows : List Row) → has_row name rows ≡ false
    → at_row name change missing rows ≡ rows ++ missing
absent name change missing [] none = refl
absent name change missing (row ∷ rows) none =
    let parts = or_parts (bytes_eq row.id name) (has_row name rows) none in
    rw parts.0 (ap (λ rest. row ∷ rest) (absent name change missing rows parts.1))

none-more : (rows : List Row) → rows ++ [] ≡ rows
none-more [] = refl
none-more (row ∷ rows) = ap (λ rest. row ∷ rest) (none-more rows)

added : (rows : List Row) (given : Given) → has_row given.0 rows ≡ false
    → with_row rows given ≡ rows ++ row_for given ∷ []
added rows given none =
    let same : without given.0 rows ≡ rows = absent given.0 (λ _. []) [] rows none ∙ none-more rows in
    rw same (absent given.0 (more_values CommandLine (given.1 ∷ [])) (row_for given ∷ []) rows none)

or-false : (b : Bool) → (b || false) ≡ b
or-false true = refl
or-false false = refl

or-shift : (a b c : Bool) → (a || (b || c)) ≡ ((a || b) || c)
or-shift true b c = refl
or-shift false b c = refl

has-more : (rows : List Row) (row : Row) (name : Text)
    → has_row name (rows ++ row ∷ []) ≡ (has_row name rows || bytes_eq row.id name)
has-more [] row name = or-false (bytes_eq row.id name)
has-more (first ∷ rows) row name =
    ap (λ b. bytes_eq first.id name || b) (has-more rows row name)
    ∙ or-shift (bytes_eq first.id name) (has_row name rows) (bytes_eq row.id name)

has-added : (rows : List Row) (given : Given) (name : Text) → has_row given.0 rows ≡ false
    → has_row name (with_row rows given) ≡ (has_row name rows || bytes_eq given.0 name)
has-added rows given name none = ap (has_row name) (added rows given none) ∙ has-more rows (row_for given) name

-- ---- the first value of a name

there-step : (b rest : Bool) (row : Row) (one other : Option Row) → (b || rest) ≡ true
    → (rest ≡ true → option_and_then (λ (r : Row). slice_get r.values 0) one
    ≡ option_and_then (λ (r : Row). slice_get r.values 0) other)
    → option_and_then (λ (r : Row). slice_get r.values 0) (cond b (Some row) one)
    ≡ option_and_then (λ (r : Row). slice_get r.values 0) (cond b (Some row) other)
there-step true rest row one other has later = refl
there-step false rest row one other has later = later has

first-there : (rows : List Row) (row : Row) (name : Text) → has_row name rows ≡ true
    → first_of name (rows ++ row ∷ []) ≡ first_of name rows
first-there [] row name has = absurd (true≢false (sym has))
first-there (first ∷ rows) row name has =
    there-step (bytes_eq first.id name) (has_row name rows) first _ _ has (first-there rows row name)

first-new : (rows : List Row) (row : Row) (name : Text) → has_row name rows ≡ false → bytes_eq row.id name ≡ true
    → first_of name (rows ++ row ∷ []) ≡ slice_get row.values 0
first-new [] row name none here = rw here refl
first-new (first ∷ rows) row name none here =
    let parts = or_parts (bytes_eq first.id name) (has_row name rows) none in
    rw parts.0 (first-new rows row name parts.1 here)

first-none : (rows : List Row) (name : Text) → has_row name rows ≡ false → first_of name rows ≡ None
first-none [] name none = refl
first-none (first ∷ rows) name none =
    let parts = or_parts (bytes_eq first.id name) (has_row name rows) none in rw parts.0 (first-none rows name parts.1)

-- ---- new options: each name is given at most once

not-has : (names : List Text) (rows : List Row) (one : Given) (more : List Given)
    → are_fresh names rows (one ∷ more) ≡ true
    → (has_row one.0 rows ≡ false) × (are_fresh names (with_row rows one) more ≡ true) × (is_known names one.0 ≡ true)
not-has names rows one more fresh =
    let outer = and_parts (is_known names one.0) _ fresh in
    let inner = and_parts (not (has_row one.0 rows)) _ outer.1 in (not-true _ inner.0, inner.1, outer.0)

abbrev Once : List Row → List Given → Text → Type 0
Once rows given name = (texts_for name given ≡ []) × (first_of name (rows_with rows given) ≡ first_of name rows)

once-step : (names : List Text) (rows : List Row) (one : Given) (more : List Given) (name : Text) (b : Bool)
    → bytes_eq one.0 name ≡ b
    → are_fresh names rows (one ∷ more) ≡ true → has_row name rows ≡ true
    → (has_row name (with_row rows one) ≡ true → Once (with_row rows one) more name)
    → Once rows (one ∷ more) name
once-step names rows one more name true same fresh has rest =
    let none = (not-has names rows one more fresh).0 in
    let bad : true ≡ false = sym has ∙ ap (λ n. has_row n rows) (sym ((bytes_eq-Decides one.0 name).0 same)) ∙ none in
    absurd (true≢false bad)
once-step names rows one more name false other fresh has rest =
    let parts = not-has names rows one more fresh in
    let later = rest (has-added rows one name parts.0 ∙ rw has refl) in
    (rw other later.0, later.1 ∙ ap (first_of name) (added rows one parts.0) ∙ first-there rows (row_for one) name has)

-- a name that has a row isn't given again
given-once : (names : List Text) (rows : List Row) (given : List Given) (name : Text)
    → are_fresh names rows given ≡ true → has_row name rows ≡ true → Once rows given name
given-once names rows [] name fresh has = (refl, refl)
given-once names rows (one ∷ more) name fresh has =
    once-step names rows one more name _ refl fresh has
    (given-once names (with_row rows one) more name (not-has names rows one more fresh).1)

value-step : (names : List Text) (rows : List Row) (one : Given) (more : List Given) (name : Text) (b : Bool)
    → bytes_eq one.0 name ≡ b
    → are_fresh names rows (one ∷ more) ≡ true → has_row name rows ≡ false
    → (has_row name (with_row rows one) ≡ false
    → texts_for name more ≡ texts_of (first_of name (rows_with (with_row rows one) more)))
    → texts_for name (one ∷ more) ≡ texts_of (first_of name (rows_with rows (one ∷ more)))
value-step names rows one more name true same fresh none rest =
    let parts = not-has names rows one more fresh in
    let once = given-once names (with_row rows one) more name parts.1
    (has-added rows one name parts.0 ∙ rw (none, same) refl) in
    let first : first_of name (rows_with (with_row rows one) more) ≡ Some one.1 =
    once.1 ∙ ap (first_of name) (added rows one parts.0) ∙ first-new rows (row_for one) name none same in
    rw (same, once.0, first) refl
value-step names rows one more name false other fresh none rest =
    let parts = not-has names rows one more fresh in
    rw other (rest (has-added rows one name parts.0 ∙ rw (none, other) refl))

-- what is given for a name is the first value of its row
pub value-given : (names : List Text) (rows : List Row) (given : List Given) (name : Text)
    → are_fresh names rows given ≡ true → has_row name rows ≡ false
    → texts_for name given ≡ texts_of (first_of name (rows_with rows given))
value-given names rows [] name fresh none = rw (first-none rows name none) refl
value-given names rows (one ∷ more) name fresh none =
    value-step names rows one more name _ refl fresh none
    (value-given names (with_row rows one) more name (not-has names rows one more fresh).1)

pub all-known : (names : List Text) (rows : List Row) (given : List Given) → are_fresh names rows given ≡ true
    → list_all (λ (one : Given). is_known names one.0) given ≡ true
all-known names rows [] fresh = refl
all-known names rows (one ∷ more) fresh =
    let parts = not-has names rows one more fresh in
    and_from _ _ parts.2 (all-known names (with_row rows one) more parts.1)

-- ---- options that are given at most once, each with a number, are new

-- at most one text, which begins with no hyphen
abbrev pub fits : List Text → Bool
fits [] = true
fits (text ∷ []) = is_plain text
fits (text ∷ (another ∷ texts)) = false

abbrev pub AllFit : List Text → List Given → Type 0
AllFit names given = (name : Text) → is_known names name ≡ true → fits (texts_for name given) ≡ true

abbrev AreApart : List Row → List Given → Type 0
AreApart rows given = (name : Text) → has_row name rows ≡ true → texts_for name given ≡ []

one-fits : (text : Text) (texts : List Text) → fits (text ∷ texts) ≡ true → (texts ≡ []) × (is_plain text ≡ true)
one-fits text [] ok = (refl, ok)
one-fits text (another ∷ texts) ok = absurd (true≢false (sym ok))

-- what is given for a name of one option and of the others
tail-fits : (one : Given) (more : List Given) (name : Text) (b : Bool) → bytes_eq one.0 name ≡ b
    → fits (texts_for name (one ∷ more)) ≡ true → fits (texts_for name more) ≡ true
tail-fits one more name true same ok =
    let at : fits (one.1 ∷ texts_for name more) ≡ true = rw same at ok in
    ap fits (one-fits one.1 (texts_for name more) at).0
tail-fits one more name false other ok = rw other at ok

tail-none : (one : Given) (more : List Given) (name : Text) (b : Bool) → bytes_eq one.0 name ≡ b
    → texts_for name (one ∷ more) ≡ [] → texts_for name more ≡ []
tail-none one more name true same none = let at : one.1 ∷ texts_for name more ≡ [] = rw same at none in absurd (cc)
tail-none one more name false other none = rw other at none

not-there : (rows : List Row) (one : Given) (more : List Given) (b : Bool) → has_row one.0 rows ≡ b
    → AreApart rows (one ∷ more) → b ≡ false
not-there rows one more false has apart = refl
not-there rows one more true has apart =
    let same = (bytes_eq-Decides one.0 one.0).1 refl in
    let at : one.1 ∷ texts_for one.0 more ≡ [] = rw same at (apart one.0 has) in absurd (cc)

apart-tail : (names : List Text) (rows : List Row) (one : Given) (more : List Given) (name : Text)
    → is_known names one.0 ≡ true → AllFit names (one ∷ more) → AreApart rows (one ∷ more)
    → has_row one.0 rows ≡ false → has_row name (with_row rows one) ≡ true → texts_for name more ≡ []
apart-tail names rows one more name known all apart none has = ⊎_elim
    (λ before. tail-none one more name _ refl (apart name before))
    (λ (here : bytes_eq one.0 name ≡ true).
    let named : one.0 ≡ name = (bytes_eq-Decides one.0 name).0 here in
    let at : fits (one.1 ∷ texts_for name more) ≡ true =
    rw here at (all name (subst (λ n. is_known names n ≡ true) named known)) in
    (one-fits one.1 (texts_for name more) at).0)
    (or_cases _ _ (sym (has-added rows one name none) ∙ has))

pub all-fresh : (names : List Text) (rows : List Row) (given : List Given)
    → list_all (λ (one : Given). is_known names one.0) given ≡ true → AllFit names given
    → AreApart rows given → (are_fresh names rows given ≡ true) × (are_plain given ≡ true)
all-fresh names rows [] known all apart = (refl, refl)
all-fresh names rows (one ∷ more) known all apart =
    let parts = and_parts (is_known names one.0) _ known in
    let none = not-there rows one more _ refl apart in
    let same = (bytes_eq-Decides one.0 one.0).1 refl in
    let at : fits (one.1 ∷ texts_for one.0 more) ≡ true = rw same at (all one.0 parts.0) in
    let rest = all-fresh names (with_row rows one) more parts.1 (λ name k. tail-fits one more name _ refl (all name k))
    (λ name has. apart-tail names rows one more name parts.0 all apart none has) in (
      and_from _ _ parts.0 (and_from _ _ (ap not none) rest.0),
      and_from _ _
          (one-fits one.1 (texts_for one.0 more) at).1 rest.1,
    )
