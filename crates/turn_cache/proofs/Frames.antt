-- What a step at one set leaves as it is.
use Rattle.std.proofs.Common.{◌≡◌, ◌≢◌, ⊎_elim, ℕ, ◌+◌, ◌*◌, ◌<◌, ◌≤◌, Bool, true, false, cond, List, [], length, map}
use Rattle.std.proofs.Common.{get_or, set, sym, refl, ap, ◌∙◌, subst, arith}
use Rattle.std.proofs.lemmas.List.{length-set, get_or-set_other, map-set}
use mathlib.Core.Option.{some}
use lib.ListN.{get_elem?}
use Rattle.atomic_table.specs.Table.{State, stepped, keeps}
use Rattle.atomic_table.proofs.Lists.{at_set, at_map, set_again}
use Rattle.cache_face.specs.Keeping.{Keeps}
use Rattle.cache_face.specs.Notes.{Note}
use Rattle.turn_cache.specs.declared.rule.Told.{Told}
use Rattle.turn_cache.specs.Hands.{Hand, Turn, idle, reading, writing, is_at, turns_held, claim, at_work, times, total}
use Rattle.turn_cache.specs.Places.{turn_word, set_word, content_place}
use Rattle.turn_cache.specs.Ruled.{Ruled, Fits, FitsTurn}
use Rattle.turn_cache.proofs.Totals.{ne_of, total-set, total-two}

-- the turn word of a set is no content word
pub apart_turn : (set at k : ℕ) → k < 40 → set_word at k ≢ turn_word set
apart_turn set at k low e = omega (arith, low, e)

-- content words of two sets are two
pub apart_sets : (set at q k : ℕ) → q < 40 → k < 40 → at ≢ set → set_word at k ≢ set_word set q
apart_sets set at q k low low' ne e = ne (omega (arith, low, low', e))

turn_frame : (sets n at_set : ℕ) (words : List ℕ) (contents : List (List ℕ)) (read : List ℕ) (t : Turn)
    → FitsTurn sets words contents read t → FitsTurn sets (set words (turn_word at_set) n) contents read t
turn_frame sets n at_set words contents read idle f = f
turn_frame sets n at_set words contents read (reading at) f = (
  f.0,
  f.1,
  λ k low. f.2 k low
      ∙ sym (get_or-set_other words (turn_word at_set) (set_word at k) n 0
      (apart_turn at_set at k (let m = f.1 in omega (arith, low, m)))),
)
turn_frame sets n at_set words contents read (writing at place new now) f = (
  f.0,
  f.1,
  f.2,
  f.3,
  λ k low. f.4 k low
      ∙ sym (get_or-set_other words (turn_word at_set) (set_word at (10 * place + k)) n 0
      (apart_turn at_set at (10 * place + k) (let m = f.1 in omega (arith, low, m)))),
  f.5,
  f.6,
  λ k low elsewhere. f.7 k low elsewhere ∙ sym
      (get_or-set_other words (turn_word at_set) (set_word at k) n 0
      (apart_turn at_set at k (let m = f.6 in omega (arith, low, m)))),
)

-- a turn word changes: what a seat knows of contents is so as before
pub frame_turn : (sets n at_set : ℕ) (words : List ℕ) (contents : List (List ℕ)) (u : Hand)
    → Fits sets words contents u → Fits sets (set words (turn_word at_set) n) contents u
frame_turn sets n at_set words contents u f = record {
  seats = f.seats;
  gone = f.gone;
  live = f.live;
  turn = turn_frame sets n at_set words contents u.read u.turn f.turn;
}

-- contents of other sets are the same
abbrev pub SameElsewhere : ℕ → List (List ℕ) → List (List ℕ) → Type 0
SameElsewhere at_set contents contents' =
    (at place : ℕ) → at ≢ at_set → place < 4
    → get_or contents' (content_place at place) [] ≡ get_or contents (content_place at place) []

content_frame : (sets n at_set q : ℕ) → q < 40 → (words : List ℕ) (contents contents' : List (List ℕ))
    → SameElsewhere at_set contents contents' → (read : List ℕ) (t : Turn) → is_at at_set t ≡ false
    → FitsTurn sets words contents read t → FitsTurn sets (set words (set_word at_set q) n) contents' read t
content_frame sets n at_set q low words contents contents' same read idle no_turn f = f
content_frame sets n at_set q low words contents contents' same read (reading at) no_turn f =
    let ne = ne_of at at_set no_turn in (
      f.0,
      f.1,
      λ k below. f.2 k below
          ∙ sym (get_or-set_other words (set_word at_set q) (set_word at k) n 0
          (apart_sets at_set at q k low (let m = f.1 in omega (arith, below, m)) ne)),
    )
content_frame sets n at_set q low words contents contents' same read (writing at place new now) no_turn f =
    let ne = ne_of at at_set no_turn in (
      f.0,
      f.1,
      f.2,
      same at place ne f.1 ∙ f.3,
      λ k below. f.4 k below
          ∙ sym (get_or-set_other words (set_word at_set q) (set_word at (10 * place + k)) n 0
          (apart_sets at_set at q (10 * place + k) low (let m = f.1 in omega (arith, below, m)) ne)),
      f.5,
      f.6,
      λ k below elsewhere. f.7 k below elsewhere
          ∙ sym (get_or-set_other words (set_word at_set q) (set_word at k) n 0
          (apart_sets at_set at q k low (let m = f.6 in omega (arith, below, m)) ne)),
    )

pub frame_content : (sets n at_set q : ℕ) → q < 40 → (words : List ℕ) (contents contents' : List (List ℕ))
    → SameElsewhere at_set contents contents' → (u : Hand) → is_at at_set u.turn ≡ false
    → Fits sets words contents u → Fits sets (set words (set_word at_set q) n) contents' u
frame_content sets n at_set q low words contents contents' same u no_turn f = record {
  seats = f.seats;
  gone = f.gone;
  live = f.live;
  turn = content_frame sets n at_set q low words contents contents' same u.read u.turn no_turn f.turn;
}

-- one seat has the turn of a set, so another hasn't
pub not_other : (told : Told) (s : State (Unit {0}) Hand) (at_set id j : ℕ) (v u : Hand) → Ruled told s
    → get_elem? s.views id ≡ some v → is_at at_set v.turn ≡ true → j ≢ id → get_elem? s.views j ≡ some u
    → is_at at_set u.turn ≡ false
not_other told s at_set id j v u h at has ne at' = pick (is_at at_set u.turn) refl
  where
    pick : (b : Bool) → is_at at_set u.turn ≡ b → is_at at_set u.turn ≡ false
    pick false e = e
    pick true e = absurd (let two = total-two (turns_held at_set) s.views id j v u ne at at' in
        let few = h.once at_set in
        let one : turns_held at_set v ≡ 1 = ap (λ (b : Bool). let n : ℕ = cond b 1 0 in n) has in
        let other : turns_held at_set u ≡ 1 = ap (λ (b : Bool). let n : ℕ = cond b 1 0 in n) e in
        omega (arith, two, few, one, other))

-- Notes where one seat's changes, or stays.
pub notes_of : List Hand → List Note
notes_of views = map (λ (hand : Hand). hand.note) views

pub notes_set : (views : List Hand) (id : ℕ) (w : Hand)
    → map (λ (hand : Hand). hand.note) (set views id w) ≡ set (map (λ (hand : Hand). hand.note) views) id w.note
notes_set views id w = map-set (λ (hand : Hand). hand.note) views id w

pub notes_same : (views : List Hand) (id : ℕ) (v w : Hand) → get_elem? views id ≡ some v → w.note ≡ v.note
    → map (λ (hand : Hand). hand.note) (set views id w) ≡ map (λ (hand : Hand). hand.note) views
notes_same views id v w at same = notes_set views id w
    ∙ (ap (set (map (λ (hand : Hand). hand.note) views) id) same
    ∙ set_again (map (λ (hand : Hand). hand.note) views) id v.note (at_map (λ (hand : Hand). hand.note) views id v at))

-- The rule after a step of one seat, whose numbers and seats stay.
module _ (told : Told) (s : State (Unit {0}) Hand) (h : Ruled told s) (id : ℕ) (v w : Hand)
    (at : get_elem? s.views id ≡ some v) (same_numbers : w.numbers ≡ v.numbers)
    (same_seats : w.note.seats ≡ v.note.seats) where
  pub build : (i n : ℕ) (c : List (ℕ × Unit {0})) (contents' : List (List ℕ))
      → length contents' ≡ 4 * told.sets
      → ((k : ℕ) → k < 4 * told.sets → length (get_or contents' k []) ≡ 10)
      → ((at_set : ℕ) → at_set < told.sets → claim at_set w + get_or s.words (turn_word at_set) 0
      ≡ claim at_set v + get_or (set s.words i n) (turn_word at_set) 0)
      → ((at_set : ℕ) → total (turns_held at_set) (set s.views id w) ≤ 1)
      → ((at_set place k : ℕ) → at_set < told.sets → place < 4 → k < 10
      → total (λ hand. at_work at_set place hand.turn) (set s.views id w) ≡ 0
      → get_or (get_or contents' (content_place at_set place) []) k 0
      ≡ get_or (set s.words i n) (set_word at_set (10 * place + k)) 0)
      → ((j : ℕ) (u : Hand) → j ≢ id → get_elem? s.views j ≡ some u → Fits told.sets (set s.words i n) contents' u)
      → Fits told.sets (set s.words i n) contents' w
      → Keeps told.timeouts told.sets contents' (map (λ (hand : Hand). hand.note) (set s.views id w))
      → Ruled told (stepped s i n id c w keeps)
  build i n c contents' many ten turn_words one settled others mine kept = record {
    contents = contents';
    small = h.small;
    wide = rw length-set h.wide;
    many = many;
    ten = ten;
    turns = λ at_set low. (let t = total-set (claim at_set) s.views id v w at in let o = h.turns at_set low in
        let x = turn_words at_set low in omega (arith, t, o, x));
    once = one;
    settled = settled;
    numbers =
        λ number. (let t = total-set (λ hand. times number hand.numbers) s.views id v w at in
        let o = h.numbers number in
        let e : times number w.numbers ≡ times number v.numbers = ap (times number) same_numbers in
        omega (arith, t, o, e));
    seats = (let t = total-set (λ hand. hand.note.seats) s.views id v w at in let o = h.seats in
        omega (arith, t, o, same_seats));
    each = λ j u e. ⊎_elim (λ (x : (j ≡ id) × (w ≡ u)). subst (Fits told.sets (set s.words i n) contents') x.1 mine)
        (λ (x : (j ≢ id) × (get_elem? s.views j ≡ some u)). others j u x.0 x.1) (at_set s.views id j w u e);
    kept = kept;
  }
