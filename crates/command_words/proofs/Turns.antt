-- What one word of a command of options comes to in `clap`'s walk.
use Rattle.std.proofs.Common.{◌≡◌, ℕ, Bool, true, false, refl, sym, ap, ◌∙◌, List, [], ◌∷◌, length, Option, Some, None}
use Rattle.std.specs.Prelude.{slice_get}
use Rattle.std.specs.Str.{bytes_eq, chars}
use Rattle.std.proofs.lemmas.Slice.Eq.{bytes_eq-Decides}
use Rattle.clap.specs.Lexer.{long_of, short_of}
use Rattle.clap.specs.Walk.{Row, Text, Held, Walk, Waiting, idle, option, walked, used, settled_rows, bundle_met, plain}
use Rattle.clap.specs.Kinds.{Kinds, or_else}
use Rattle.clap.specs.Faults.{turn_fault, settle_fault, repeat_fault, flags_fault}
use Rattle.clap.specs.declared.error.kind.ErrorKind.TheVariants as kind
use Rattle.command_words.proofs.Rules.{built_rule, rules_for, shape_for, is_known, long-known, long-unknown, id-known}
use Rattle.command_words.proofs.Rules.{short-none, index-none}

-- what is held between words: the rows so far, and the option whose value is being read
abbrev pub held_at : List Row → Option (Text × List Text) → Held
held_at rows pending = record { rows = rows; pending = pending; skip = 0 }

abbrev pub walk_at : List Row → Option (Text × List Text) → Waiting → Walk
walk_at rows pending waiting =
    record { held = held_at rows pending; waiting = waiting; position = 1; is_trailing = false; stopped = None }

-- where an option waits for its value
abbrev pub awaiting : List Row → Text → Walk
awaiting rows name = walk_at rows (Some (name, [])) (option name)

abbrev pub dashes : Text
dashes = 45 ∷ 45 ∷ []

abbrev pub turn : List Text → Walk → Text → Kinds
turn names w word = turn_fault (shape_for names) [] w word

abbrev pub next : List Text → Walk → Text → Walk
next names w word = walked (rules_for names) [] w word

abbrev pub settling : List Text → List Row → Option (Text × List Text) → Kinds
settling names rows pending = settle_fault (rules_for names) false (held_at rows pending)

pub or-nothing : (a : Kinds) → or_else a [] ≡ a
or-nothing [] = refl
or-nothing (k ∷ ks) = refl

pub or-none : (a b : Kinds) → or_else a b ≡ [] → (a ≡ []) × (b ≡ [])
or-none [] b none = (refl, none)
or-none (k ∷ ks) b none = absurd (cc)

-- ---- an option's word, where no value is awaited

pub joined-turn : (names : List Text) (rows : List Row) (p : Option (Text × List Text)) (word name value : Text)
    → bytes_eq word dashes ≡ false
    → long_of word ≡ Some (name, Some value) → is_known names name ≡ true
    → turn names (walk_at rows p idle) word ≡ or_else (settling names rows p)
    (repeat_fault false name (settled_rows (rules_for names) p rows))
joined-turn names rows p word name value wordy is known =
    rw (wordy, is, long-known names name known) (or-nothing _ ∙ ap (or_else (settling names rows p)) (or-nothing _))

pub joined-next : (names : List Text) (rows : List Row) (p : Option (Text × List Text)) (word name value : Text)
    → bytes_eq word dashes ≡ false
    → long_of word ≡ Some (name, Some value) → is_known names name ≡ true
    → next names (walk_at rows p idle) word ≡ walk_at
    (used (built_rule name) (value ∷ []) (settled_rows (rules_for names) p rows)) None idle
unfolding walked
joined-next names rows p word name value wordy is known =
    rw (wordy, is, long-known names name known) refl

pub apart-turn : (names : List Text) (rows : List Row) (p : Option (Text × List Text)) (word name : Text)
    → bytes_eq word dashes ≡ false
    → long_of word ≡ Some (name, None) → is_known names name ≡ true
    → turn names (walk_at rows p idle) word ≡ settling names rows p
apart-turn names rows p word name wordy is known =
    rw (wordy, is, long-known names name known) (or-nothing _)

pub apart-next : (names : List Text) (rows : List Row) (p : Option (Text × List Text)) (word name : Text)
    → bytes_eq word dashes ≡ false
    → long_of word ≡ Some (name, None) → is_known names name ≡ true
    → next names (walk_at rows p idle) word ≡ awaiting (settled_rows (rules_for names) p rows) name
unfolding walked
apart-next names rows p word name wordy is known =
    rw (wordy, is, long-known names name known) refl

-- ---- a word that is awaited as a value, and looks like no option

pub value-turn : (names : List Text) (rows : List Row) (name value : Text) → bytes_eq value dashes ≡ false
    → long_of value ≡ None → short_of value ≡ None
    → is_known names name ≡ true → turn names (awaiting rows name) value ≡ []
value-turn names rows name value wordy long short known = rw (wordy, long, short) refl

pub value-next : (names : List Text) (rows : List Row) (name value : Text) → bytes_eq value dashes ≡ false
    → long_of value ≡ None → short_of value ≡ None
    → is_known names name ≡ true → next names (awaiting rows name) value ≡ walk_at rows (Some (name, value ∷ [])) idle
unfolding walked
value-next names rows name value wordy long short known =
    let same = (bytes_eq-Decides name name).1 refl in
    rw (wordy, long, short, id-known names name known, same) refl

-- ---- words that are refused, and words that only look like short options

abbrev stray : Kinds
stray = kind.UnknownArgument ∷ []

first-short : (names : List Text) (first : ℕ) (rest : Text) (h : Held) (x : ℕ)
    → slice_get (chars (first ∷ rest)) 0 ≡ Some x
    → flags_fault (rules_for names) false (length (first ∷ rest)) (first ∷ rest) 0 h ≡ stray
unfolding flags_fault
first-short names first rest h x is = rw (is, short-none names x) refl

no-short : (names : List Text) (first : ℕ) (rest : Text) (h : Held) → slice_get (chars (first ∷ rest)) 0 ≡ None
    → flags_fault (rules_for names) false (length (first ∷ rest)) (first ∷ rest) 0 h ≡ []
unfolding flags_fault
no-short names first rest h is = rw is refl

no-short-met : (names : List Text) (first : ℕ) (rest : Text) (h : Held) → slice_get (chars (first ∷ rest)) 0 ≡ None
    → bundle_met (rules_for names) (length (first ∷ rest)) (first ∷ rest) 0 plain h ≡ (h, plain)
unfolding bundle_met
no-short-met names first rest h is = rw is refl

-- no option's word, where no value is awaited
short-stray : (names : List Text) (rows : List Row) (p : Option (Text × List Text)) (word : Text) (x : ℕ) (xs : Text)
    (first : Option ℕ)
    → bytes_eq word dashes ≡ false → long_of word ≡ None → short_of word ≡ Some (x ∷ xs)
    → slice_get (chars (x ∷ xs)) 0 ≡ first
    → turn names (walk_at rows p idle) word ≡ stray
short-stray names rows p word x xs (Some y) wordy long short is =
    rw (wordy, long, short, first-short names x xs (held_at rows p) y is) refl
short-stray names rows p word x xs None wordy long short is =
    rw (
      wordy,
      long,
      short,
      no-short names x xs (held_at rows p) is,
      no-short-met names x xs
          (held_at rows p) is,
      index-none names 1,
    ) refl

pub stray-turn : (names : List Text) (rows : List Row) (p : Option (Text × List Text)) (word : Text)
    (flags : Option Text)
    → bytes_eq word dashes ≡ false → long_of word ≡ None → short_of word ≡ flags
    → turn names (walk_at rows p idle) word ≡ stray
unfolding flags_fault bundle_met
stray-turn names rows p word None wordy long short = rw (wordy, long, short, index-none names 1) refl
stray-turn names rows p word (Some []) wordy long short = rw (wordy, long, short, index-none names 1) refl
stray-turn names rows p word (Some (x ∷ xs)) wordy long short =
    short-stray names rows p word x xs _ wordy long short refl

-- an option's word of another name
pub unknown-turn : (names : List Text) (rows : List Row) (p : Option (Text × List Text)) (waiting : Waiting)
    (word name : Text) (value : Option Text)
    → bytes_eq word dashes ≡ false → long_of word ≡ Some (name, value) → is_known names name ≡ false → waiting ≡ idle
    → turn names (walk_at rows p waiting) word ≡ stray
unknown-turn names rows p waiting word name value wordy is unknown idles =
    rw (idles, wordy, is, long-unknown names name unknown) refl

-- an option's word where a value is awaited
abbrev missing : Kinds
missing = kind.InvalidValue ∷ []

pub awaits-none : (names : List Text) (rows : List Row) (name : Text) → is_known names name ≡ true
    → settling names rows (Some (name, [])) ≡ missing
awaits-none names rows name known = rw (id-known names name known) refl

other-option : (names : List Text) (rows : List Row) (name word other : Text) (value : Option Text) (b : Bool)
    → is_known names name ≡ true
    → bytes_eq word dashes ≡ false → long_of word ≡ Some (other, value) → is_known names other ≡ b
    → turn names (awaiting rows name) word ≡ [] → ⊥
other-option names rows name word other value false known wordy is unknown none =
    let at : turn names (awaiting rows name) word ≡ stray = rw (wordy, is, long-unknown names other unknown) refl in
    let bad : stray ≡ [] = sym at ∙ none in absurd (cc)
other-option names rows name word other (Some v) true known wordy is there none =
    let at : turn names (awaiting rows name) word ≡ missing =
    rw (wordy, is, long-known names other there, id-known names name known) refl in
    let bad : missing ≡ [] = sym at ∙ none in absurd (cc)
other-option names rows name word other None true known wordy is there none =
    let at : turn names (awaiting rows name) word ≡ missing =
    rw (wordy, is, long-known names other there, id-known names name known) refl in
    let bad : missing ≡ [] = sym at ∙ none in absurd (cc)

short-option : (names : List Text) (rows : List Row) (name word : Text) (x : ℕ) (xs : Text) (first : Option ℕ)
    → is_known names name ≡ true
    → bytes_eq word dashes ≡ false → long_of word ≡ None → short_of word ≡ Some (x ∷ xs)
    → slice_get (chars (x ∷ xs)) 0 ≡ first
    → turn names (awaiting rows name) word ≡ []
    → next names (awaiting rows name) word ≡ walk_at rows (Some (name, word ∷ [])) idle
unfolding walked
short-option names rows name word x xs (Some y) known wordy long short is none =
    let at : turn names (awaiting rows name) word ≡ stray =
    rw (wordy, long, short, first-short names x xs (held_at rows (Some (name, []))) y is) refl in
    let bad : stray ≡ [] = sym at ∙ none in absurd (cc)
short-option names rows name word x xs None known wordy long short is none =
    let same = (bytes_eq-Decides name name).1 refl in
    rw (
      wordy,
      long,
      short,
      no-short-met names x xs
          (held_at rows (Some (name, []))) is,
      id-known names name known,
      same,
    ) refl

-- a word that passes where a value is awaited is that value
pub awaited-next : (names : List Text) (rows : List Row) (name word : Text) (o : Option (Text × Option Text))
    (flags : Option Text) → is_known names name ≡ true
    → bytes_eq word dashes ≡ false → long_of word ≡ o → short_of word ≡ flags
    → turn names (awaiting rows name) word ≡ []
    → next names (awaiting rows name) word ≡ walk_at rows (Some (name, word ∷ [])) idle
unfolding walked bundle_met
awaited-next names rows name word (Some (other, value)) flags known wordy long short none =
    absurd (other-option names rows name word other value _ known wordy long refl none)
awaited-next names rows name word None None known wordy long short none =
    value-next names rows name word wordy long short known
awaited-next names rows name word None (Some []) known wordy long short none =
    let same = (bytes_eq-Decides name name).1 refl in rw (wordy, long, short, id-known names name known, same) refl
awaited-next names rows name word None (Some (x ∷ xs)) known wordy long short none =
    short-option names rows name word x xs _ known wordy long short refl none

-- a word that passes where none is awaited is an option's
pub option-passes : (names : List Text) (rows : List Row) (p : Option (Text × List Text)) (word name : Text)
    (value : Option Text) (b : Bool) → bytes_eq word dashes ≡ false
    → long_of word ≡ Some (name, value) → is_known names name ≡ b → turn names (walk_at rows p idle) word ≡ []
    → b ≡ true
option-passes names rows p word name value true wordy is known none = refl
option-passes names rows p word name value false wordy is known none =
    let at = unknown-turn names rows p idle word name value wordy is known refl in
    let bad : stray ≡ [] = sym at ∙ none in absurd (cc)

pub stray-fails : (names : List Text) (rows : List Row) (p : Option (Text × List Text)) (word : Text)
    → bytes_eq word dashes ≡ false → long_of word ≡ None
    → turn names (walk_at rows p idle) word ≡ [] → ⊥
stray-fails names rows p word wordy long none =
    let at = stray-turn names rows p word _ wordy long refl in
    let bad : stray ≡ [] = sym at ∙ none in cc
