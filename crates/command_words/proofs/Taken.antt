-- What `clap` finds gives the values that the grammar says, and what it refuses has none.
use Rattle.std.proofs.Common.{◌≡◌, ◌&&◌, ◌||◌, ℕ, Bool, true, false, cond, refl, sym, ap, ap₂, subst, ◌∙◌, List, []}
use Rattle.std.proofs.Common.{◌∷◌, Option, Some, None, true≢false}
use Rattle.std.specs.Prelude.{◌==◌, nat_lt, nat_le, length, option_map, option_and_then, if◌then◌else◌}
use Rattle.std.specs.Char.{is_ascii_digit}
use Rattle.std.specs.List.{list_any, list_all}
use Rattle.std.specs.Str.{bytes_eq}
use Rattle.std.specs.Str.Parse.{digits_value}
use Rattle.std.proofs.lemmas.Slice.Eq.{bytes_eq-Decides}
use Rattle.std.proofs.lemmas.Bool.{and_parts, eqb-true}
use Rattle.clap.specs.Words.{Text, first_of, matches_of}
use Rattle.clap.specs.Faults.{fault_of}
use Rattle.command_words.specs.Options.{Rule, Given, texts_for, number_of, within, value_by, are_known, values_by}
use Rattle.command_words.specs.Options.{values_of, options_from}
use Rattle.command_words.specs.Command.{app_for, names_in, texts_of, values_found}
use Rattle.command_words.proofs.Rules.{is_known, or-later}
use Rattle.command_words.proofs.Walks.{has_dashes, taken-read}
use Rattle.command_words.proofs.Passing.{is_plain, read-taken}
use Rattle.command_words.proofs.Rows.{value-given, all-known, all-fresh, fits}
use Rattle.command_words.proofs.Faults.{fault-is, matches-are}

-- the names of a table are known as those of its options
known-same : (table : List Rule) (name : Text)
    → list_any (λ (rule : Rule). bytes_eq rule.name name) table ≡ is_known (names_in table) name
known-same [] name = refl
known-same (rule ∷ table) name = ap (λ b. bytes_eq rule.name name || b) (known-same table name)

known-all : (table : List Rule) (given : List Given)
    → are_known table given ≡ list_all (λ (one : Given). is_known (names_in table) one.0) given
known-all table [] = refl
known-all table (one ∷ more) = ap₂ (λ a b. a && b) (known-same table one.0) (known-all table more)

-- ---- what is found gives the values

found-same : (table : List Rule) (given : List Given) (found : Text → Option Text)
    → ((name : Text) → texts_for name given ≡ texts_of (found name))
    → values_found table found ≡ values_by table given
found-same [] given found same = refl
found-same (rule ∷ table) given found same =
    ap₂ (λ texts rest. option_and_then (λ (value : ℕ). option_map (λ (values : List ℕ). value ∷ values) rest)
    (value_by rule texts)) (sym (same rule.name)) (found-same table given found same)

pub reading-ok : (table : List Rule) (words : List Text) (found : Text → Option Text) → has_dashes words ≡ false
    → fault_of (app_for (names_in table)) words ≡ []
    → ((name : Text) → found name ≡ first_of name (matches_of (app_for (names_in table)) words))
    → values_found table found ≡ values_of table words
reading-ok table words found wordy quiet is =
    let names = names_in table in
    let read = taken-read names words wordy (sym (fault-is names words) ∙ quiet) in
    let each : (name : Text) → texts_for name read.given ≡ texts_of (found name) = λ name.
    value-given names [] read.given name read.fresh refl
    ∙ ap texts_of (ap (first_of name) (sym (matches-are names words ∙ read.ends)) ∙ sym (is name)) in
    let known : are_known table read.given ≡ true =
    known-all table read.given ∙ all-known names [] read.given read.fresh in
    found-same table read.given found each
    ∙ sym (ap (option_and_then (λ given. if are_known table given then values_by table given else None)) read.are
    ∙ rw known refl)

-- ---- a command line is taken

some-test : {X : Type 0} (b : Bool) (v w : X) → cond b (Some v) None ≡ Some w → b ≡ true
some-test true v w is = refl
some-test false v w is = absurd (cc)

first-digit : (x : ℕ) (xs : Text) (b : Bool) → (x == 45) ≡ b → is_ascii_digit x ≡ true → is_plain (x ∷ xs) ≡ true
first-digit x xs true hyphen digit =
    let at : is_ascii_digit 45 ≡ true = subst (λ n. is_ascii_digit n ≡ true) (eqb-true x 45 hyphen) digit in
    absurd (true≢false (sym at))
first-digit x xs false other digit = rw other refl

number-plain : (text : Text) (number : ℕ) → number_of text ≡ Some number → is_plain text ≡ true
number-plain [] number is = refl
number-plain (x ∷ xs) number is =
    let test = some-test (nat_lt 0 (length (x ∷ xs)) && nat_le (length (x ∷ xs)) 20 && list_all is_ascii_digit (x ∷ xs))
    (digits_value 10 (x ∷ xs)) number is in
    let digits : list_all is_ascii_digit (x ∷ xs) ≡ true =
    (and_parts (nat_lt 0 (length (x ∷ xs)) && nat_le (length (x ∷ xs)) 20) _ test).1 in
    first-digit x xs _ refl (and_parts (is_ascii_digit x) (list_all is_ascii_digit xs) digits).0

value-fits : (rule : Rule) (texts : List Text) (value : ℕ) → value_by rule texts ≡ Some value → fits texts ≡ true
value-fits rule [] value is = refl
value-fits rule (text ∷ []) value is = text-fits (number_of text) refl is
  where
    text-fits : (number : Option ℕ) → number_of text ≡ number
        → option_and_then (within rule.low rule.high) number ≡ Some value → is_plain text ≡ true
    text-fits None none bad = absurd (cc)
    text-fits (Some n) some ok = number-plain text n some
value-fits rule (text ∷ (another ∷ texts)) value is = absurd (cc)

-- the first option of a table has a value, and so have the others
pub both-some : (value : Option ℕ) (rest : Option (List ℕ)) (values : List ℕ)
    → option_and_then (λ (v : ℕ). option_map (λ (vs : List ℕ). v ∷ vs) rest) value ≡ Some values
    → (v : ℕ) × (vs : List ℕ) × (value ≡ Some v) × (rest ≡ Some vs) × (v ∷ vs ≡ values)
both-some None rest values is = absurd (cc)
both-some (Some v) None values is = absurd (cc)
both-some (Some v) (Some vs) values is = (v, vs, refl, refl, cc)

all-fit : (table : List Rule) (given : List Given) (values : List ℕ) → values_by table given ≡ Some values
    → (name : Text) → is_known (names_in table) name ≡ true
    → fits (texts_for name given) ≡ true
all-fit [] given values are name known = absurd (true≢false (sym known))
all-fit (rule ∷ table) given values are name known =
    let both = both-some (value_by rule (texts_for rule.name given)) (values_by table given) values are in
    by-name (bytes_eq rule.name name) refl (value-fits rule (texts_for rule.name given) both.0 both.2)
    (λ other. all-fit table given both.1 both.3 name (or-later _ _ known other))
  where
    by-name : (b : Bool) → bytes_eq rule.name name ≡ b → fits (texts_for rule.name given) ≡ true
        → (b ≡ false → fits (texts_for name given) ≡ true) → fits (texts_for name given) ≡ true
    by-name true same here there = subst (λ n. fits (texts_for n given) ≡ true)
        ((bytes_eq-Decides rule.name name).0 same) here
    by-name false other here there = there refl

-- where the words have values, clap takes them
pub some-taken : (table : List Rule) (words : List Text) (values : List ℕ) → values_of table words ≡ Some values
    → (has_dashes words ≡ false) × (fault_of (app_for (names_in table)) words ≡ [])
some-taken table words values are = by-options (options_from None words) refl are
  where
    by-known : (given : List Given) (b : Bool) → are_known table given ≡ b → options_from None words ≡ Some given
        → cond b (values_by table given) None ≡ Some values
        → (has_dashes words ≡ false) × (fault_of (app_for (names_in table)) words ≡ [])
    by-known given false unknown options none = absurd (cc)
    by-known given true known options some =
        let names = names_in table in
        let fresh = all-fresh names [] given (sym (known-all table given) ∙ known) (all-fit table given values some)
        (λ name has. absurd (true≢false (sym has))) in
        let passes = read-taken names words given options fresh.0 fresh.1 in
        (passes.wordy, fault-is names words ∙ passes.quiet)

    by-options : (o : Option (List Given)) → options_from None words ≡ o
        → option_and_then (λ given. if are_known table given then values_by table given else None) o ≡ Some values
        → (has_dashes words ≡ false) × (fault_of (app_for (names_in table)) words ≡ [])
    by-options None options none = absurd (cc)
    by-options (Some given) options some = by-known given _ refl options some

none-from : {X : Type 0} (o : Option X) → ((x : X) → o ≡ Some x → ⊥) → o ≡ None
none-from None never = refl
none-from (Some x) never = absurd (never x refl)

pub dashes-none : (table : List Rule) (words : List Text) → has_dashes words ≡ true → values_of table words ≡ None
dashes-none table words has = none-from (values_of table words)
    (λ values are. true≢false (sym has ∙ (some-taken table words values are).0))

pub refused-none : (table : List Rule) (words : List Text) → (fault_of (app_for (names_in table)) words ≡ [] → ⊥)
    → values_of table words ≡ None
refused-none table words fails = none-from (values_of table words)
    (λ values are. fails (some-taken table words values are).1)
