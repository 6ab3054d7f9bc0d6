-- What the contract of `clap` says of a command of options: its faults are those of the walk, and its matches the rows
-- at the end of the walk.
use Rattle.std.proofs.Common.{◌≡◌, ◌&&◌, ◌||◌, Bool, true, false, not, cond, refl, ap, ◌∙◌, List, [], ◌∷◌, map, Option}
use Rattle.std.proofs.Common.{Some, None}
use Rattle.std.specs.Prelude.{fold}
use Rattle.std.specs.List.{list_any}
use Rattle.clap.specs.Walk.{Row, Text, idle, settled, has_row, with_default, finished, walk, nothing_held, rows_after}
use Rattle.clap.specs.Simple.{App, label_of, matches_of}
use Rattle.clap.specs.Takes.{is_given}
use Rattle.clap.specs.Kinds.{Kinds, or_else}
use Rattle.clap.specs.Faults.{fault_of, built_fault, level_fault, entered_fault, defaults_fault, default_fault}
use Rattle.clap.specs.Faults.{check_fault, walk_fault, settle_fault}
use Rattle.command_words.specs.Command.{app_for}
use Rattle.command_words.proofs.Rules.{built_rule, rules_for, shape_for, built-is}
use Rattle.command_words.proofs.Turns.{walk_at, or-nothing}
use Rattle.command_words.proofs.Walks.{faults, rows_at_end}

or-true : (b : Bool) → (b || true) ≡ true
or-true true = refl
or-true false = refl

cond-same : {A : Type 0} (b : Bool) (x : A) → cond b x x ≡ x
cond-same true x = refl
cond-same false x = refl

-- without defaults nothing is added behind the walk
default-none : (name : Text) (rows : List Row) → default_fault rows (built_rule name) ≡ []
default-none name rows = rw (or-true (has_row name rows)) refl

default-same : (name : Text) (rows : List Row) → with_default rows (built_rule name) ≡ rows
default-same name rows = cond-same (has_row name rows) rows

defaults-none : (names : List Text) (rows : List Row) → defaults_fault rows (rules_for names) ≡ []
unfolding defaults_fault
defaults-none [] rows = refl
defaults-none (name ∷ names) rows =
    ap (λ k. or_else k (defaults_fault (with_default rows (built_rule name)) (rules_for names)))
    (default-none name rows)
    ∙ defaults-none names (with_default rows (built_rule name))

finished-same : (names : List Text) (rows : List Row) → fold with_default rows (rules_for names) ≡ rows
finished-same [] rows = refl
finished-same (name ∷ names) rows = ap (λ r. fold with_default r (rules_for names)) (default-same name rows)
    ∙ finished-same names rows

none-required : (names : List Text) (rows : List Row)
    → list_any (λ a. a.required && not (is_given a.id rows)) (rules_for names) ≡ false
none-required [] rows = refl
none-required (name ∷ names) rows = none-required names rows

check-none : (names : List Text) (rows : List Row) (b : Bool) → check_fault (shape_for names) rows b ≡ []
check-none names rows true = rw (none-required names rows) refl
check-none names rows false = rw (none-required names rows) refl

-- without subcommands none is entered
none-entered : (names : List Text) (stop : Option (Text × List Text))
    → entered_fault (record { top = shape_for names; subs = [] }) stop ≡ []
none-entered names None = refl
none-entered names (Some stop) = refl

level-is : (names words : List Text) (below : Kinds) (b : Bool) → below ≡ []
    → level_fault (shape_for names) [] nothing_held words b below ≡ faults names (walk_at [] None idle) words
level-is names words below b none =
    let end = (walk (rules_for names) [] nothing_held words).held in
    ap (λ k. or_else (walk_fault (shape_for names) [] (walk_at [] None idle) words) k)
    (ap (λ k. or_else k
    (or_else (settle_fault (rules_for names) false end)
    (or_else (defaults_fault (settled (rules_for names) end).rows (rules_for names))
    (check_fault (shape_for names) (finished (rules_for names) end) b)))) none
    ∙ ap (or_else (settle_fault (rules_for names) false end))
    (ap (λ k. or_else k (check_fault (shape_for names) (finished (rules_for names) end) b))
    (defaults-none names (settled (rules_for names) end).rows)
    ∙ check-none names (finished (rules_for names) end) b)
    ∙ or-nothing (settle_fault (rules_for names) false end))

pub fault-is : (names words : List Text) → fault_of (app_for names) words ≡ faults names (walk_at [] None idle) words
fault-is names words =
    ap (λ (b : App). built_fault b nothing_held words) (built-is names)
    ∙ level-is names words _ _ (none-entered names (walk (rules_for names) [] nothing_held words).stopped)

pub matches-are : (names words : List Text)
    → matches_of (app_for names) words ≡ rows_at_end names (walk_at [] None idle) words
matches-are names words =
    ap (λ (b : App). rows_after b.top.rules (map label_of b.subs) words) (built-is names)
    ∙ finished-same names (rows_at_end names (walk_at [] None idle) words)
