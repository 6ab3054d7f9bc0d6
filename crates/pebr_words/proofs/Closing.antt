-- The words that are closed have the contents of the last core, and the protocol keeps with the notes of the last view.
use Rattle.std.proofs.Common.{◌≡◌, ◌≢◌, ℕ, zero, suc, ◌+◌, ◌*◌, ◌<◌, ◌≤◌, List, [], ◌∷◌, ◌++◌, length, get_or, set}
use Rattle.std.proofs.Common.{replicate, sym, refl, ap, ◌∙◌, subst, arith, suc-mul}
use Rattle.std.proofs.lemmas.List.{length-map, length-append, length-set, length-replicate, get_or_append_left}
use Rattle.std.proofs.lemmas.List.{get_or-append-add, get_or-map, flat_map_more, map-id}
use Rattle.std.proofs.lemmas.Nat.{mul-le}
use Rattle.std.proofs.lemmas.List.FromFn.{length-map-range_with_len, map-range_with_len_more, fill_by_all}
use Rattle.std.specs.List.{range_with_len, flat_map}
use Rattle.std.specs.Prelude.{Result, Ok, Err, IfOk}
use mathlib.Core.Option.{some, some-injective, some-ne-none}
use lib.ListN.{get_elem?}
use Rattle.atomic_table.specs.Table as table
use Rattle.atomic_table.proofs.Lists.{set_here, set_else}
use Rattle.pebr_core.specs.declared.kinds.Shape.{Shape}
use Rattle.pebr_core.specs.State.{State, root_at, slot_count}
use Rattle.pebr_core.specs.Kept.{IsSound, IsWithinLimits}
use Rattle.pebr_words.specs.declared.views.Held.{Held}
use Rattle.pebr_words.specs.Places.{root_word, slot_word, roots_from, slots_from}
use Rattle.pebr_words.specs.Shown.{Show}
use Rattle.pebr_words.specs.Ruled.{times_held, contents, view_left, Ruled}
use Rattle.pebr_words.specs.Making.{number_in, note_in}
use Rattle.pebr_words.specs.Opening.{slot_of, rows_of}
use Rattle.pebr_words.specs.Closing.{row_at, contents_of_roots}
use Rattle.pebr_words.proofs.Numbers.{once_is, total_alone, held_in}
use Rattle.pebr_words.proofs.Frame.{Table, others_differ}

-- lists of one length, put together
module _ (f : ℕ → List ℕ) (width : ℕ) (wide : (n : ℕ) → length (f n) ≡ width) where
  pub flat_at : (from count place word : ℕ) → place < count → word < width
      → get_or (flat_map f (range_with_len from count)) (place * width + word) 0 ≡ get_or (f (from + place)) word 0
  flat_at from zero place word h h' = absurd (omega (arith, h))
  flat_at from (suc count) zero word h h' =
      ap (λ n. get_or (f from ++ flat_map f (range_with_len (from + 1) count)) n 0)
      (let e : zero * width + word ≡ word = omega arith in e)
      ∙ (get_or_append_left (f from) (flat_map f (range_with_len (from + 1) count)) 0 word
      (subst (λ n. word < n) (sym (wide from)) h')
      ∙ ap (λ n. get_or (f n) word 0) (let e : from ≡ from + 0 = omega arith in e))
  flat_at from (suc count) (suc place) word h h' =
      ap (λ n. get_or (f from ++ flat_map f (range_with_len (from + 1) count)) n 0)
      (let e : suc place * width + word ≡ length (f from) + (place * width + word) =
      (let w = wide from in let m = suc-mul place width in omega (arith, w, m)) in e)
      ∙ (get_or-append-add (f from) (flat_map f (range_with_len (from + 1) count)) (place * width + word) 0
      ∙ (flat_at (from + 1) count place word (omega (arith, h)) h'
      ∙ ap (λ n. get_or (f n) word 0) (let e : from + 1 + place ≡ from + suc place = omega arith in e)))

  pub flat_length : (from count : ℕ) → length (flat_map f (range_with_len from count)) ≡ count * width
  flat_length from zero = omega arith
  flat_length from (suc count) =
      let a = length-append (f from) (flat_map f (range_with_len (from + 1) count)) in
      let h = flat_length (from + 1) count in
      let w = wide from in
      let m = suc-mul count width in
      omega (arith, a, h, w, m)

row_wide : (shape : Shape) (words : List ℕ) (root : ℕ) → length (row_at shape words root) ≡ shape.width
row_wide shape words root = length-map-range_with_len
    (λ word. get_or words (slots_from shape + get_or words (roots_from shape + root) 0 * shape.width + word) 0) 0
    shape.width

pub root_contents_length : (shape : Shape) (words : List ℕ) → length (contents_of_roots shape words)
    ≡ shape.roots * shape.width
root_contents_length shape words = flat_length (row_at shape words) shape.width (row_wide shape words) 0 shape.roots

-- the contents of the roots have their rows
slot_in_contents : (shape : Shape) (words : List ℕ) (root : ℕ) → root < shape.roots
    → row_at shape words root ≡ slot_of shape (contents_of_roots shape words) root
slot_in_contents shape words root h = fill_by_all
    (λ word. get_or (contents_of_roots shape words) (root * shape.width + word) 0)
    (row_at shape words root) shape.width 0 (row_wide shape words root)
    (λ word lt. sym (flat_at (row_at shape words) shape.width (row_wide shape words) 0 shape.roots root word h lt
    ∙ ap (λ n. get_or (row_at shape words n) word 0) (let e : 0 + root ≡ root = omega arith in e)))

module _ (shape : Shape) (words : List ℕ) (core : State) (is_shape : core.shape ≡ shape) (sound : IsSound core)
    (show : Show shape words core) where
  pub root_below : (root : ℕ) → root < shape.roots → get_or words (roots_from shape + root) 0 < slot_count shape
  root_below root h = subst (λ n. n < slot_count shape) (sym (show.each (root_word root) h))
      (subst (λ (s : Shape). root_at core root < slot_count s) is_shape
      (sound.shape.slots root (subst (λ (s : Shape). root < s.roots) (sym is_shape) h)))

  row_shown : (root : ℕ) → root < shape.roots → get_or core.words (root_at core root) [] ≡ row_at shape words root
  row_shown root h =
      let slot : ℕ = root_at core root in
      let below : slot < slot_count shape = subst (λ n. n < slot_count shape) (show.each (root_word root) h)
      (root_below root h) in
      fill_by_all
      (λ word. get_or words (slots_from shape + get_or words (roots_from shape + root) 0 * shape.width + word) 0)
      (get_or core.words slot []) shape.width 0
      (sound.shape.width slot (subst (λ (s : Shape). slot < slot_count s) (sym is_shape) below)
      ∙ ap (λ (s : Shape). s.width) is_shape)
      (λ word lt. sym
      (ap (λ n. get_or words (slots_from shape + n * shape.width + word) 0) (show.each (root_word root) h)
      ∙ (ap (λ n. get_or words n 0) (let e : slots_from shape + slot * shape.width + word
      ≡ slots_from shape + (slot * shape.width + word) = omega arith in e)
      ∙ show.each (slot_word slot word) (below, lt))))

  pub contents_by_roots : contents core ≡ rows_of shape (contents_of_roots shape words)
  contents_by_roots = fill_by_all (slot_of shape (contents_of_roots shape words)) (contents core) shape.roots []
      (length-map core.roots (λ slot. get_or core.words slot [])
      ∙ (sound.shape.roots ∙ ap (λ (s : Shape). s.roots) is_shape))
      (λ root h. get_or-map (λ slot. get_or core.words slot []) core.roots root 0 []
      (subst (λ n. root < n) (sym (sound.shape.roots ∙ ap (λ (s : Shape). s.roots) is_shape)) h)
      ∙ (row_shown root h ∙ slot_in_contents shape words root h))

same_lists : {A : Type 0} (xs ys : List A) → length xs ≡ length ys
    → ((k : ℕ) → k < length xs → get_elem? xs k ≡ get_elem? ys k) → xs ≡ ys
same_lists [] [] long each = refl
same_lists [] (y ∷ ys) long each = absurd (omega (arith, long))
same_lists (x ∷ xs) [] long each = absurd (omega (arith, long))
same_lists (x ∷ xs) (y ∷ ys) long each =
    ap (λ z. z ∷ xs) (some-injective x y (each 0 (omega arith)))
    ∙ ap (λ l. y ∷ l) (same_lists xs ys (omega (arith, long)) (λ k h. each (suc k) (omega (arith, h))))

module _ {N : Type 0} (keeps : List (List ℕ) → List N → Type 0) (whole : List N → List ℕ → Type 0)
    (shape : Shape) (empty : N)
    (s : Table keeps whole shape) (rule : Ruled keeps whole shape s) (id : ℕ) (own : Held N) (others : List (Held N))
    (at : get_elem? s.views id ≡ some (own ∷ others)) (all_held : length (own ∷ others) ≡ shape.seats)
    (rest : (place : ℕ) (held : Held N) → get_elem? others place ≡ some held → held.note ≡ empty) where
  abbrev last_notes : List N
  last_notes = set (replicate shape.seats empty) own.number own.note

  note_at : (k : ℕ) → k < shape.seats → get_elem? rule.notes k ≡ get_elem? last_notes k
  note_at k h =
      let mine = total_alone (times_held k) s.views id (own ∷ others) refl at (all_held ∙ sym rule.count) in
      let one : times_held k (own ∷ others) ≡ 1 = sym mine ∙ (rule.once k ∙ once_is k shape.seats h) in
      let found = held_in k (own ∷ others) (omega (arith, one)) in
      pick found.0 found.1.0 found.1.1 found.2
    where
      empty_at : (n k : ℕ) → k < n → get_elem? (replicate n empty) k ≡ some empty
      empty_at zero k h = absurd (omega (arith, h))
      empty_at (suc n) zero h = refl
      empty_at (suc n) (suc k) h = empty_at n k (omega (arith, h))

      pick : (held : Held N) (place : ℕ) → get_elem? (own ∷ others) place ≡ some held → held.number ≡ k
          → get_elem? rule.notes k ≡ get_elem? last_notes k
      pick held zero e is =
          let own_is : own.number ≡ k = ap (λ (x : Held N). x.number) (some-injective own held e) ∙ is in
          subst (λ n. get_elem? rule.notes n ≡ get_elem? last_notes n) own_is
          ((rule.fits (own ∷ others) own (id, at) (0, refl)).note
          ∙ sym (set_here (replicate shape.seats empty) own.number own.note
          (subst (λ n. own.number < n) (sym (length-replicate shape.seats empty))
          (subst (λ n. n < shape.seats) (sym own_is) h))))
      pick held (suc place) e is =
          let differ : k ≢ own.number = λ same. others_differ keeps whole shape s rule id own others at held (place, e)
          (is ∙ same) in
          subst (λ n. get_elem? rule.notes n ≡ some empty) is
          ((rule.fits (own ∷ others) held (id, at) (suc place, e)).note ∙ ap some (rest place held e))
          ∙ sym (set_else (replicate shape.seats empty) own.number k own.note differ ∙ empty_at shape.seats k h)

  notes_last : rule.notes ≡ last_notes
  notes_last = same_lists rule.notes last_notes
      (rule.many
      ∙ sym (length-set (replicate shape.seats empty) own.number own.note ∙ length-replicate shape.seats empty))
      (λ k h. note_at k (subst (λ n. k < n) rule.many h))

  pub closes : keeps (rows_of shape (contents_of_roots shape s.words)) last_notes
  closes = subst (keeps (rows_of shape (contents_of_roots shape s.words))) notes_last
      (subst (λ c. keeps c rule.notes) (contents_by_roots shape s.words rule.core rule.shape_is rule.sound rule.show)
      rule.kept)

-- what the last state tells
pub closes_at : {N : Type 0} (keeps : List (List ℕ) → List N → Type 0) (whole : List N → List ℕ → Type 0)
    (shape key : Shape)
    (empty blank : N) → key ≡ shape → (id : ℕ) (view : List (Held N)) (words : List ℕ)
    → 0 < length view → length view ≡ shape.seats
    → ((place : ℕ) (held : Held N) → get_elem? (view_left view) place ≡ some held → held.note ≡ empty)
    → (s : table.State (Unit {0}) (List (Held N))) → table.Seen (Ruled keeps whole key) id view s → s.words ≡ words
    → keeps (rows_of shape (contents_of_roots shape words))
    (set (replicate shape.seats empty) (number_in view) (note_in blank view))
closes_at keeps whole shape key empty blank is_key id [] words live all_held rest s seen is =
    absurd (omega (arith, live))
closes_at {N} keeps whole shape key empty blank is_key id (own ∷ others) words live all_held rest s seen is =
    subst (λ w. keeps (rows_of shape (contents_of_roots shape w))
    (set (replicate shape.seats empty) own.number own.note)) is
    (closes keeps whole shape empty s (subst (λ k. Ruled keeps whole k s) is_key seen.0) id own others seen.1 all_held
    rest)

pub roots_below : {N : Type 0} (keeps : List (List ℕ) → List N → Type 0) (whole : List N → List ℕ → Type 0)
    (shape key : Shape)
    → key ≡ shape → (words : List ℕ)
    → (s : table.State (Unit {0}) (List (Held N))) → Ruled keeps whole key s → s.words ≡ words
    → (root : ℕ) → root < shape.roots → get_or words (roots_from shape + root) 0 < slot_count shape
roots_below {N} keeps whole shape key is_key words s rule is root h =
    let ruled : Ruled keeps whole shape s = subst (λ k. Ruled keeps whole k s) is_key rule in
    subst (λ w. get_or w (roots_from shape + root) 0 < slot_count shape) is
    (root_below shape s.words ruled.core ruled.shape_is ruled.sound ruled.show root h)

-- a value that is there is read
pub get_some : (words : List ℕ) (k n : ℕ) → get_elem? words k ≡ some n → get_or words k 0 ≡ n
get_some [] k n e = absurd (some-ne-none n (sym e))
get_some (x ∷ xs) zero n e = some-injective x n e
get_some (x ∷ xs) (suc k) n e = get_some xs k n e

pub few_at : (shape : Shape) → IsWithinLimits shape → (slot : ℕ) → slot < slot_count shape
    → slot * shape.width ≤ 5767168
few_at shape limits slot below =
    let shields = mul-le shape.seats shape.shields 64 8 limits.seats limits.shields in
    let own = mul-le shape.seats (shape.batch + shape.seats * shape.shields) 64 1536 limits.seats
    (omega (arith, limits.batch, shields)) in
    mul-le slot shape.width 360448 16 (omega (arith, limits.roots, own, below)) limits.width

-- one row more
pub flat_more : (f : ℕ → List ℕ) (count : ℕ)
    → flat_map f (range_with_len 0 count) ++ f count ≡ flat_map f (range_with_len 0 (count + 1))
flat_more f count = flat_map_more f [] (range_with_len 0 count) count ∙ ap (flat_map f) (more count)
  where
    more : (count : ℕ) → range_with_len 0 count ++ count ∷ [] ≡ range_with_len 0 (count + 1)
    more count =
        let e = map-range_with_len_more (λ n. n) 0 count count (omega arith) in
        ap (λ l. l ++ count ∷ []) (sym (map-id (range_with_len 0 count)))
        ∙ (sym e ∙ map-id (range_with_len 0 (count + 1)))

pub slot_within : (shape : Shape) (slot : ℕ) → slot < slot_count shape
    → slots_from shape + slot * shape.width + shape.width ≤ slots_from shape + slot_count shape * shape.width
slot_within shape slot below = let m = mul-le (suc slot) shape.width (slot_count shape) shape.width
    (omega (arith, below)) (omega arith) in let n = suc-mul slot shape.width in omega (arith, m, n)

pub read_slot : (words : List ℕ) (from from' root slot : ℕ) → from ≡ from' → get_elem? words (from + root) ≡ some slot
    → slot ≡ get_or words (from' + root) 0
read_slot words from from' root slot same e =
    sym (get_some words (from + root) slot e) ∙ ap (λ n. get_or words (n + root) 0) same

-- what an Ok tells tells more
pub if_ok : {A E : Type 0} {P Q : A → Type 0} (r : Result A E) → ((x : A) → P x → Q x) → IfOk r P → IfOk r Q
if_ok (Ok x) f h = f x h
if_ok (Err e) f h = h
