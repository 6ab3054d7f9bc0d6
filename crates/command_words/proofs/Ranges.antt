-- The values of a table are in the ranges of its options.
use Rattle.std.proofs.Common.{◌≡◌, ◌&&◌, ◌≤◌, ℕ, suc, Bool, true, false, cond, refl, ap, subst, List, [], ◌∷◌, map}
use Rattle.std.proofs.Common.{length, Option, Some, None}
use Rattle.std.specs.Prelude.{nat_le, option_and_then, if◌then◌else◌}
use Rattle.std.proofs.lemmas.Bool.{and_parts, leb-true}
use Rattle.command_words.specs.Options.{Rule, Given, texts_for, number_of, within, value_by, are_known, values_by}
use Rattle.command_words.specs.Options.{values_of, options_from, has_default_within, have_defaults_within, AreWithin}
use Rattle.command_words.proofs.Taken.{both-some}

number-within : (low high n value : ℕ) (b : Bool) → (nat_le low n && nat_le n high) ≡ b
    → cond b (Some n) None ≡ Some value → (low ≤ value) × (value ≤ high)
number-within low high n value false is none = absurd (cc)
number-within low high n value true is some =
    let same : n ≡ value = cc in
    let parts = and_parts (nat_le low n) (nat_le n high) is in
    (subst (λ v. low ≤ v) same (leb-true low n parts.0), subst (λ v. v ≤ high) same (leb-true n high parts.1))

default-within : (low high : ℕ) (default : Option ℕ) (value : ℕ)
    → has_default_within (record { name = []; low = low; high = high; default = default }) ≡ true → default ≡ Some value
    → (low ≤ value) × (value ≤ high)
default-within low high None value ok is = absurd (cc)
default-within low high (Some n) value ok is =
    let same : n ≡ value = cc in
    let parts = and_parts (nat_le low n) (nat_le n high) ok in
    (subst (λ v. low ≤ v) same (leb-true low n parts.0), subst (λ v. v ≤ high) same (leb-true n high parts.1))

text-within : (low high : ℕ) (number : Option ℕ) (value : ℕ) → option_and_then (within low high) number ≡ Some value
    → (low ≤ value) × (value ≤ high)
text-within low high None value is = absurd (cc)
text-within low high (Some n) value is = number-within low high n value _ refl is

value-within : (rule : Rule) (texts : List (List ℕ)) (value : ℕ) → has_default_within rule ≡ true
    → value_by rule texts ≡ Some value → (rule.low ≤ value) × (value ≤ rule.high)
value-within rule [] value ok is = default-within rule.low rule.high rule.default value ok is
value-within rule (text ∷ []) value ok is = text-within rule.low rule.high (number_of text) value is
value-within rule (text ∷ (another ∷ texts)) value ok is = absurd (cc)

all-within : (table : List Rule) (given : List Given) (values : List ℕ) → have_defaults_within table ≡ true
    → values_by table given ≡ Some values → AreWithin table values
all-within [] given [] ok is = tt
all-within [] given (value ∷ values) ok is = absurd (cc)
all-within (rule ∷ table) given values ok is =
    let both = both-some (value_by rule (texts_for rule.name given)) (values_by table given) values is in
    let parts = and_parts (has_default_within rule) (have_defaults_within table) ok in
    let here = value-within rule (texts_for rule.name given) both.0 parts.0 both.2 in
    subst (AreWithin (rule ∷ table)) both.4 (here.0, here.1, all-within table given both.1 parts.1 both.3)

known-within : (table : List Rule) (given : List Given) (values : List ℕ) (b : Bool) → have_defaults_within table ≡ true
    → cond b (values_by table given) None ≡ Some values → AreWithin table values
known-within table given values false ok is = absurd (cc)
known-within table given values true ok is = all-within table given values ok is

options-within : (table : List Rule) (options : Option (List Given)) (values : List ℕ)
    → have_defaults_within table ≡ true
    → option_and_then (λ given. if are_known table given then values_by table given else None) options ≡ Some values
    → AreWithin table values
options-within table None values ok is = absurd (cc)
options-within table (Some given) values ok is = known-within table given values (are_known table given) ok is

pub values-within : (table : List Rule) (words : List (List ℕ)) (values : List ℕ) → have_defaults_within table ≡ true
    → values_of table words ≡ Some values → AreWithin table values
values-within table words values ok is = options-within table (options_from None words) values ok is

pub within-length : (table : List Rule) (values : List ℕ) → AreWithin table values → length values ≡ length table
within-length [] [] ok = refl
within-length [] (value ∷ values) ok = absurd ok
within-length (rule ∷ table) [] ok = absurd ok
within-length (rule ∷ table) (value ∷ values) ok = ap (λ n. suc n) (within-length table values ok.2)

pub length-map : {X Y : Type 0} (f : X → Y) (xs : List X) → length (map f xs) ≡ length xs
length-map f [] = refl
length-map f (x ∷ xs) = ap (λ n. suc n) (length-map f xs)
