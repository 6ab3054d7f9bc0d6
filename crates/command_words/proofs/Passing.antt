-- Words that are options, each once and with a value that looks like none, are taken by `clap`.
use Rattle.std.proofs.Common.{◌≡◌, ℕ, Bool, true, false, not, refl, sym, ap, subst, ◌∙◌, List, [], ◌∷◌, Option, Some}
use Rattle.std.proofs.Common.{None, true≢false}
use Rattle.std.specs.Prelude.{◌==◌, is_none}
use Rattle.std.specs.List.{list_all}
use Rattle.std.specs.Str.{bytes_eq}
use Rattle.std.proofs.lemmas.Slice.Eq.{bytes_eq-Decides}
use Rattle.std.proofs.lemmas.Bool.{and_parts, or_from}
use Rattle.clap.specs.Lexer.{long_of, short_of, strip_byte}
use Rattle.clap.specs.Walk.{Row, Text, Walk, idle, settled_rows, has_row}
use Rattle.clap.specs.Kinds.{or_else}
use Rattle.clap.specs.Faults.{walk_fault, repeat_fault}
use Rattle.command_words.specs.Options.{Given, option_then, with_option, options_from}
use Rattle.command_words.proofs.Rules.{rules_for, is_known}
use Rattle.command_words.proofs.Turns.{walk_at, awaiting, dashes, settling, joined-turn, joined-next, apart-turn}
use Rattle.command_words.proofs.Turns.{apart-next, value-turn, value-next}
use Rattle.command_words.proofs.Walks.{has_dashes, faults, rows_at_end, with_row, rows_with, are_fresh, cons-faults}
use Rattle.command_words.proofs.Walks.{none-repeat, settled-value, settling-value}

-- a text that begins with no hyphen
abbrev pub is_plain : Text → Bool
is_plain text = is_none (strip_byte 45 text)

abbrev pub are_plain : List Given → Bool
are_plain given = list_all (λ one. is_plain one.1) given

plain-from : (b : Bool) (x : ℕ) (xs : Text) → (x == 45) ≡ b → is_plain (x ∷ xs) ≡ true
    → (bytes_eq (x ∷ xs) dashes ≡ false) × (long_of (x ∷ xs) ≡ None) × (short_of (x ∷ xs) ≡ None)
plain-from true x xs first plainly = let bad : false ≡ true = sym (rw first refl) ∙ plainly in
    absurd (true≢false (sym bad))
plain-from false x xs first plainly = (rw first refl, rw first refl, rw first refl)

plain-parts : (text : Text) → is_plain text ≡ true
    → (bytes_eq text dashes ≡ false) × (long_of text ≡ None) × (short_of text ≡ None)
plain-parts [] plainly = (refl, refl, refl)
plain-parts (x ∷ xs) plainly = plain-from _ x xs refl plainly

word-wordy : (word : Text) (b : Bool) (o : Text × Option Text) → bytes_eq word dashes ≡ b → long_of word ≡ Some o
    → b ≡ false
word-wordy word false o same is = refl
word-wordy word true o same is =
    let at : None ≡ Some o = sym (ap long_of ((bytes_eq-Decides word dashes).0 same)) ∙ is in absurd (cc)

with-some : (one : Given) (others : Option (List Given)) (given : List Given) → with_option one others ≡ Some given
    → (more : List Given) × (others ≡ Some more) × (given ≡ one ∷ more)
with-some one None given is = absurd (cc)
with-some one (Some more) given is = (more, refl, cc)

pub record Passes (names : List Text) (rows : List Row) (given : List Given) (words : List Text)
    (w : Walk) : Type 0 where
  pub wordy : has_dashes words ≡ false
  pub quiet : faults names w words ≡ []
  pub ends : rows_at_end names w words ≡ rows_with rows given

abbrev Idles : List Text → List Text → Type 0
Idles names words = (rows : List Row) (p : Option (Text × List Text)) (given : List Given)
    → options_from None words ≡ Some given
    → are_fresh names (settled_rows (rules_for names) p rows) given ≡ true → are_plain given ≡ true
    → settling names rows p ≡ []
    → Passes names (settled_rows (rules_for names) p rows) given words (walk_at rows p idle)

abbrev Awaits : List Text → List Text → Type 0
Awaits names words = (rows : List Row) (name : Text) (given : List Given) → options_from (Some name) words ≡ Some given
    → are_fresh names rows given ≡ true → are_plain given ≡ true → Passes names rows given words (awaiting rows name)

-- the first of given options: known, new, and followed by others that are so
first-fresh : (names : List Text) (rows : List Row) (one : Given) (more : List Given)
    → are_fresh names rows (one ∷ more) ≡ true
    → (is_known names one.0 ≡ true) × (repeat_fault false one.0 rows ≡ [])
    × (are_fresh names (with_row rows one) more ≡ true)
first-fresh names rows one more fresh =
    let outer = and_parts (is_known names one.0) _ fresh in
    let inner = and_parts (not (has_row one.0 rows)) _ outer.1 in
    (outer.0, none-repeat _ one.0 rows refl inner.0, inner.1)

joined-step : (names : List Text) (word : Text) (words : List Text) (name value : Text) (rows : List Row)
    (p : Option (Text × List Text)) (more : List Given)
    → long_of word ≡ Some (name, Some value) → Idles names words → options_from None words ≡ Some more
    → are_fresh names (settled_rows (rules_for names) p rows) ((name, value) ∷ more) ≡ true
    → are_plain ((name, value) ∷ more) ≡ true → settling names rows p ≡ []
    → Passes names (settled_rows (rules_for names) p rows) ((name, value) ∷ more) (word ∷ words) (walk_at rows p idle)
joined-step names word words name value rows p more long idles are fresh plainly settles =
    let wordy = word-wordy word _ _ refl long in
    let settled = settled_rows (rules_for names) p rows in
    let first = first-fresh names settled (name, value) more fresh in
    let plains = and_parts (is_plain value) _ plainly in
    let then = joined-next names rows p word name value wordy long first.0 in
    let here = joined-turn names rows p word name value wordy long first.0
    ∙ ap (λ k. or_else k (repeat_fault false name settled)) settles ∙ first.1 in
    let rest = idles (with_row settled (name, value)) None more are first.2 plains.1 refl in
    record {
      wordy = or_from _ _ wordy rest.wordy;
      quiet = cons-faults names (walk_at rows p idle) word words here
          (subst (λ w. faults names w words ≡ []) (sym then) rest.quiet);
      ends = ap (λ w. rows_at_end names w words) then ∙ rest.ends;
    }

apart-step : (names : List Text) (word : Text) (words : List Text) (name : Text) (rows : List Row)
    (p : Option (Text × List Text)) (given : List Given)
    → is_known names name ≡ true → long_of word ≡ Some (name, None) → Awaits names words
    → options_from (Some name) words ≡ Some given
    → are_fresh names (settled_rows (rules_for names) p rows) given ≡ true → are_plain given ≡ true
    → settling names rows p ≡ []
    → Passes names (settled_rows (rules_for names) p rows) given (word ∷ words) (walk_at rows p idle)
apart-step names word words name rows p given known long awaits are fresh plainly settles =
    let wordy = word-wordy word _ _ refl long in
    let settled = settled_rows (rules_for names) p rows in
    let then = apart-next names rows p word name wordy long known in
    let rest = awaits settled name given are fresh plainly in
    record {
      wordy = or_from _ _ wordy rest.wordy;
      quiet = cons-faults names (walk_at rows p idle) word words
          (apart-turn names rows p word name wordy long known ∙ settles)
          (subst (λ w. faults names w words ≡ []) (sym then) rest.quiet);
      ends = ap (λ w. rows_at_end names w words) then ∙ rest.ends;
    }

await-step : (names : List Text) (word : Text) (words : List Text) (name : Text) (rows : List Row) (more : List Given)
    → Idles names words → options_from None words ≡ Some more → are_fresh names rows ((name, word) ∷ more) ≡ true
    → are_plain ((name, word) ∷ more) ≡ true
    → Passes names rows ((name, word) ∷ more) (word ∷ words) (awaiting rows name)
await-step names word words name rows more idles are fresh plainly =
    let first = first-fresh names rows (name, word) more fresh in
    let plains = and_parts (is_plain word) _ plainly in
    let plain = plain-parts word plains.0 in
    let then = value-next names rows name word plain.0 plain.1 plain.2 first.0 in
    let settles = settled-value names rows name word first.0 in
    let rest = idles rows (Some (name, word ∷ [])) more are
    (subst (λ r. are_fresh names r more ≡ true) (sym settles) first.2) plains.1
    (settling-value names rows name word first.0 ∙ first.1) in
    record {
      wordy = or_from _ _ plain.0 rest.wordy;
      quiet = cons-faults names (awaiting rows name) word words
          (value-turn names rows name word plain.0 plain.1 plain.2 first.0)
          (subst (λ w. faults names w words ≡ []) (sym then) rest.quiet);
      ends = ap (λ w. rows_at_end names w words) then ∙ rest.ends ∙ ap (λ r. rows_with r more) settles;
    }

-- an option that waits for its value is one of the command's
known-given : (names : List Text) (rows : List Row) (name : Text) (words : List Text) (given : List Given)
    → options_from (Some name) words ≡ Some given
    → are_fresh names rows given ≡ true → is_known names name ≡ true
unfolding options_from
known-given names rows name [] given is fresh = absurd (cc)
known-given names rows name (word ∷ words) given is fresh =
    let some = with-some (name, word) (options_from None words) given is in
    (first-fresh names rows (name, word) some.0 (subst (λ g. are_fresh names rows g ≡ true) some.2 fresh)).0

idle-step : (names : List Text) (word : Text) (words : List Text) (o : Option (Text × Option Text)) → long_of word ≡ o
    → Idles names words → Awaits names words → Idles names (word ∷ words)
unfolding options_from
idle-step names word words None long idles awaits rows p given is fresh plainly settles =
    let bad : None ≡ Some given = sym (ap (λ o. option_then o (λ waiting. options_from waiting words)) long) ∙ is in
    absurd (cc)
idle-step names word words (Some (name, Some value)) long idles awaits rows p given is fresh plainly settles =
    let some = with-some (name, value) (options_from None words) given
    (sym (ap (λ o. option_then o (λ waiting. options_from waiting words)) long) ∙ is) in
    let settled = settled_rows (rules_for names) p rows in
    subst (λ g. Passes names settled g (word ∷ words) (walk_at rows p idle)) (sym some.2)
    (joined-step names word words name value rows p some.0 long idles some.1
    (subst (λ g. are_fresh names settled g ≡ true) some.2 fresh)
    (subst (λ g. are_plain g ≡ true) some.2 plainly) settles)
idle-step names word words (Some (name, None)) long idles awaits rows p given is fresh plainly settles =
    let are = sym (ap (λ o. option_then o (λ waiting. options_from waiting words)) long) ∙ is in
    apart-step names word words name rows p given
    (known-given names (settled_rows (rules_for names) p rows) name words given are fresh) long awaits are fresh plainly
    settles

awaits-step : (names : List Text) (word : Text) (words : List Text) → Idles names words → Awaits names (word ∷ words)
unfolding options_from
awaits-step names word words idles rows name given is fresh plainly =
    let some = with-some (name, word) (options_from None words) given is in
    subst (λ g. Passes names rows g (word ∷ words) (awaiting rows name)) (sym some.2)
    (await-step names word words name rows some.0 idles some.1 (subst (λ g. are_fresh names rows g ≡ true) some.2 fresh)
    (subst (λ g. are_plain g ≡ true) some.2 plainly))

passes : (names words : List Text) → Idles names words × Awaits names words
unfolding walk_fault options_from
passes names [] = (
  λ rows p given is fresh plainly settles.
      let none : given ≡ [] = cc in
      record {
        wordy = refl;
        quiet = settles;
        ends =
            ap (rows_with (settled_rows (rules_for names) p rows)) (sym none);
      },
  λ rows name given is fresh plainly. absurd (cc),
)
passes names (word ∷ words) =
    let rest = passes names words in
    (idle-step names word words _ refl rest.0 rest.1, awaits-step names word words rest.0)

-- given options, each new and with a value that begins with no hyphen, are taken
pub read-taken : (names words : List Text) (given : List Given) → options_from None words ≡ Some given
    → are_fresh names [] given ≡ true → are_plain given ≡ true
    → Passes names [] given words (walk_at [] None idle)
read-taken names words given is fresh plainly = (passes names words).0 [] None given is fresh plainly refl
