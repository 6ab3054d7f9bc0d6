-- The walk of `clap` over all the words of a command of options is the reading of the grammar.
use Rattle.std.proofs.Common.{◌≡◌, ◌&&◌, Bool, true, false, not, refl, sym, ap, subst, ◌∙◌, List, [], ◌∷◌, Option, Some}
use Rattle.std.proofs.Common.{None, true≢false}
use Rattle.std.specs.Prelude.{fold}
use Rattle.std.specs.List.{list_any}
use Rattle.std.specs.Str.{bytes_eq}
use Rattle.std.proofs.lemmas.Bool.{and_from, or_parts}
use Rattle.clap.specs.Lexer.{long_of}
use Rattle.clap.specs.Walk.{Row, Text, Held, Walk, idle, used, settled, settled_rows, has_row}
use Rattle.clap.specs.Kinds.{Kinds, or_else}
use Rattle.clap.specs.Faults.{walk_fault, settle_fault, repeat_fault}
use Rattle.command_words.specs.Options.{Given, option_word, option_then, with_option, options_from}
use Rattle.command_words.proofs.Rules.{built_rule, rules_for, shape_for, is_known, id-known}
use Rattle.command_words.proofs.Turns.{walk_at, awaiting, dashes, turn, next, settling, or-nothing, or-none}
use Rattle.command_words.proofs.Turns.{joined-turn, joined-next, apart-turn, apart-next, awaits-none, awaited-next}
use Rattle.command_words.proofs.Turns.{option-passes, stray-fails}

abbrev pub has_dashes : List Text → Bool
has_dashes words = list_any (λ word. bytes_eq word dashes) words

abbrev pub at_end : List Text → Walk → List Text → Held
at_end names w words = (fold (next names) w words).held

abbrev pub faults : List Text → Walk → List Text → Kinds
faults names w words = or_else (walk_fault (shape_for names) [] w words)
    (settle_fault (rules_for names) false (at_end names w words))

abbrev pub rows_at_end : List Text → Walk → List Text → List Row
rows_at_end names w words = (settled (rules_for names) (at_end names w words)).rows

-- ---- the rows that given options make

abbrev pub with_row : List Row → Given → List Row
with_row rows given = used (built_rule given.0) (given.1 ∷ []) rows

abbrev pub rows_with : List Row → List Given → List Row
rows_with rows [] = rows
rows_with rows (given ∷ more) = rows_with (with_row rows given) more

-- each is an option of the command, and has no row yet
abbrev pub are_fresh : List Text → List Row → List Given → Bool
are_fresh names rows [] = true
are_fresh names rows (given ∷ more) = is_known names given.0 &&
    (not (has_row given.0 rows) && are_fresh names (with_row rows given) more)

-- ---- one word more

faults-cons : (names : List Text) (w : Walk) (word : Text) (words : List Text) → faults names w (word ∷ words) ≡ []
    → (turn names w word ≡ []) × (faults names (next names w word) words ≡ [])
unfolding walk_fault
faults-cons names w word words none =
    let outer = or-none (or_else (turn names w word) (walk_fault (shape_for names) [] (next names w word) words)) _
    none in
    let inner = or-none (turn names w word) (walk_fault (shape_for names) [] (next names w word) words) outer.0 in (
      inner.0,
      ap (λ k. or_else k (settle_fault (rules_for names) false (at_end names (next names w word) words)))
          inner.1 ∙ outer.1,
    )

pub cons-faults : (names : List Text) (w : Walk) (word : Text) (words : List Text) → turn names w word ≡ []
    → faults names (next names w word) words ≡ []
    → faults names w (word ∷ words) ≡ []
unfolding walk_fault
cons-faults names w word words here there =
    ap (λ k. or_else (or_else k (walk_fault (shape_for names) [] (next names w word) words))
    (settle_fault (rules_for names) false (at_end names (next names w word) words))) here
    ∙ there

same-word : (word : Text) → option_word word ≡ long_of word
same-word word = refl

repeat-none : (b : Bool) (name : Text) (rows : List Row) → has_row name rows ≡ b → repeat_fault false name rows ≡ []
    → not b ≡ true
repeat-none false name rows has none = refl
repeat-none true name rows has none =
    let at : repeat_fault false name rows ≡ Rattle.clap.specs.declared.error.kind.ErrorKind.TheVariants.ArgumentConflict
    ∷ [] = rw has refl in
    let bad = sym at ∙ none in absurd (cc)

pub none-repeat : (b : Bool) (name : Text) (rows : List Row) → has_row name rows ≡ b → not b ≡ true
    → repeat_fault false name rows ≡ []
none-repeat false name rows has none = rw has refl
none-repeat true name rows has none = absurd (true≢false (sym none))

-- a value that was read is settled as its option's row
pub settled-value : (names : List Text) (rows : List Row) (name value : Text) → is_known names name ≡ true
    → settled_rows (rules_for names) (Some (name, value ∷ [])) rows ≡ with_row rows (name, value)
settled-value names rows name value known = rw (id-known names name known) refl

pub settling-value : (names : List Text) (rows : List Row) (name value : Text) → is_known names name ≡ true
    → settling names rows (Some (name, value ∷ [])) ≡ repeat_fault false name rows
settling-value names rows name value known = rw (id-known names name known) (or-nothing _)

-- ---- words that clap takes are options

pub record ReadAs (names : List Text) (rows : List Row) (waiting : Option Text) (words : List Text)
    (w : Walk) : Type 0 where
  pub given : List Given
  pub are : options_from waiting words ≡ Some given
  pub fresh : are_fresh names rows given ≡ true
  pub ends : rows_at_end names w words ≡ rows_with rows given

abbrev Idles : List Text → List Text → Type 0
Idles names words = (rows : List Row) (p : Option (Text × List Text)) → faults names (walk_at rows p idle) words ≡ []
    → (settling names rows p ≡ []) × ReadAs names (settled_rows (rules_for names) p rows) None words
    (walk_at rows p idle)

abbrev Awaits : List Text → List Text → Type 0
Awaits names words = (rows : List Row) (name : Text) → is_known names name ≡ true
    → faults names (awaiting rows name) words ≡ []
    → ReadAs names rows (Some name) words (awaiting rows name)

idle-step : (names : List Text) (word : Text) (words : List Text) (o : Option (Text × Option Text))
    → bytes_eq word dashes ≡ false → long_of word ≡ o
    → Idles names words → Awaits names words → Idles names (word ∷ words)
unfolding options_from
idle-step names word words None wordy long idles awaits rows p none =
    absurd (stray-fails names rows p word wordy long (faults-cons names (walk_at rows p idle) word words none).0)
idle-step names word words (Some (name, Some value)) wordy long idles awaits rows p none =
    let cut = faults-cons names (walk_at rows p idle) word words none in
    let known = option-passes names rows p word name (Some value) _ wordy long refl cut.0 in
    let settled = settled_rows (rules_for names) p rows in
    let then = joined-next names rows p word name value wordy long known in
    let rest = idles (with_row settled (name, value)) None (subst (λ w. faults names w words ≡ []) then cut.1) in
    let parts = or-none (settling names rows p) (repeat_fault false name settled)
    (sym (joined-turn names rows p word name value wordy long known) ∙ cut.0) in (
      parts.0,
      record {
        given = (name, value) ∷ rest.1.given;
        are = ap (λ o. option_then o (λ waiting. options_from waiting words)) long
            ∙ ap (with_option (name, value)) rest.1.are;
        fresh = and_from _ _ known (and_from _ _ (repeat-none _ name settled refl parts.1) rest.1.fresh);
        ends = ap (λ w. rows_at_end names w words) then ∙ rest.1.ends;
      },
    )
idle-step names word words (Some (name, None)) wordy long idles awaits rows p none =
    let cut = faults-cons names (walk_at rows p idle) word words none in
    let known = option-passes names rows p word name None _ wordy long refl cut.0 in
    let settled = settled_rows (rules_for names) p rows in
    let then = apart-next names rows p word name wordy long known in
    let rest = awaits settled name known (subst (λ w. faults names w words ≡ []) then cut.1) in (
      sym (apart-turn names rows p word name wordy long known) ∙ cut.0,
      record {
        given = rest.given;
        are = ap (λ o. option_then o (λ waiting. options_from waiting words)) long ∙ rest.are;
        fresh = rest.fresh;
        ends = ap (λ w. rows_at_end names w words) then ∙ rest.ends;
      },
    )

await-step : (names : List Text) (word : Text) (words : List Text) → bytes_eq word dashes ≡ false → Idles names words
    → Awaits names (word ∷ words)
unfolding options_from
await-step names word words wordy idles rows name known none =
    let cut = faults-cons names (awaiting rows name) word words none in
    let then = awaited-next names rows name word _ _ known wordy refl refl cut.0 in
    let rest = idles rows (Some (name, word ∷ [])) (subst (λ w. faults names w words ≡ []) then cut.1) in
    let settles = settled-value names rows name word known in
    record {
      given = (name, word) ∷ rest.1.given;
      are = ap (with_option (name, word)) rest.1.are;
      fresh = and_from _ _ known
          (and_from _ _ (repeat-none _ name rows refl (sym (settling-value names rows name word known) ∙ rest.0))
          (subst (λ r. are_fresh names r rest.1.given ≡ true) settles rest.1.fresh));
      ends = ap (λ w. rows_at_end names w words) then ∙ rest.1.ends ∙ ap (λ r. rows_with r rest.1.given) settles;
    }

reads : (names words : List Text) → has_dashes words ≡ false → Idles names words × Awaits names words
unfolding walk_fault options_from
reads names [] wordy = (
  λ rows p none. (none, record { given = []; are = refl; fresh = refl; ends = refl }),
  λ rows name known none. let bad = sym (awaits-none names rows name known) ∙ none in absurd (cc),
)
reads names (word ∷ words) wordy =
    let parts = or_parts (bytes_eq word dashes) (has_dashes words) wordy in
    let rest = reads names words parts.1 in
    (idle-step names word words _ parts.0 refl rest.0 rest.1, await-step names word words parts.0 rest.0)

-- words without `--` that clap takes
pub taken-read : (names words : List Text) → has_dashes words ≡ false → faults names (walk_at [] None idle) words ≡ []
    → ReadAs names [] None words (walk_at [] None idle)
taken-read names words wordy none = ((reads names words wordy).0 [] None none).1
