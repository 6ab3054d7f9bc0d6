-- Pieces of work that passes draw, each once: what the word and the passes have to do with each other.
use Rattle.std.specs.Prelude.{◌≡◌, ℕ, ◌+◌, ◌-◌, ◌^◌, ◌<◌, ◌≤◌, min, eqb, ltb, cond, List, [], ◌∷◌, ◌++◌, length}
use Rattle.std.specs.Prelude.{slice_index}
use mathlib.Core.Option.{some}
use lib.ListN.{get_elem?}
use Rattle.atomic_table.specs.Table.{State, Me, Step}
use Rattle.work_pieces.specs.declared.views.Hand.{Hand}
use Rattle.work_pieces.specs.declared.views.Plan.{Plan}

-- The table has one word that is drawn from, with so many beside it that no other data shares its cache line.
abbrev pub draw_word : ℕ
draw_word = 7

abbrev pub word_count : ℕ
word_count = 15

-- how often x stands in the list
abbrev pub times : ℕ → List ℕ → ℕ
times x [] = 0
times x (y ∷ ys) = cond (eqb y x) 1 0 + times x ys

-- 1 where x is below n
abbrev pub once_below : ℕ → ℕ → ℕ
once_below x n = cond (ltb x n) 1 0

-- f of each, added up
abbrev pub total : (Hand → ℕ) → List Hand → ℕ
total f [] = 0
total f (v ∷ vs) = f v + total f vs

-- each number below n stands in the list once, and no other
abbrev pub EachOnce : ℕ → List ℕ → Type 0
EachOnce n xs = (x : ℕ) → times x xs ≡ once_below x n

abbrev pub hand : ℕ → ℕ → ℕ → ℕ → List ℕ → Hand
hand all pieces seats done drawn = record { all = all; pieces = pieces; seats = seats; done = done; drawn = drawn }

-- what the word and a pass have to do with each other
pub record Fits (pieces all word : ℕ) (v : Hand) : Type 0 where
  pub all_is : 0 < v.seats → v.all ≡ all
  pub pieces_is : 0 < v.seats → v.pieces ≡ pieces
  pub few : v.done ≤ v.seats
  pub over : 0 < v.done → pieces ≤ word
  pub idle : v.seats ≡ 0 → v.drawn ≡ []

-- The rule: each number below the word, and of a piece, stands in exactly one pass, once, and no other number in any;
-- the word goes beyond the pieces only by draws that gave none.
pub record Dealt (plan : Plan) (s : State (Unit {0}) Hand) : Type 0 where
  pub small : plan.pieces + plan.all < 2 ^ 63
  pub wide : length s.words ≡ word_count
  pub seats : total (λ v. v.seats) s.views ≡ plan.all
  pub once : (x : ℕ) → total (λ v. times x v.drawn) s.views
      ≡ once_below x (min (slice_index s.words draw_word) plan.pieces)
  pub bound : slice_index s.words draw_word ≤ plan.pieces + total (λ v. v.done) s.views
  pub each : (j : ℕ) (v : Hand) → get_elem? s.views j ≡ some v
      → Fits plan.pieces plan.all (slice_index s.words draw_word) v

abbrev pub Sat : Type 0
Sat = Me (Unit {0}) Hand

abbrev pub draws_one : Hand → ℕ → Hand
draws_one v n = hand v.all v.pieces v.seats v.done (v.drawn ++ n ∷ [])

abbrev pub draws_none : Hand → Hand
draws_none v = hand v.all v.pieces v.seats (v.done + 1) v.drawn

-- the pass's pieces grow by the number found where that is a piece; else it had its None
abbrev pub HasDrawn : Step (Unit {0}) → Sat → ℕ → Sat → Type 0
HasDrawn st m n m' =
    ((x : ℕ) → 0 < times x m.0.drawn → x < n)
    × (n < m.0.pieces → m' ≡ (draws_one m.0 n, m.1))
    × (m.0.pieces ≤ n → m' ≡ (draws_none m.0, m.1))

-- a pass that stands for all seats, one of which had its None, has all pieces
abbrev pub HasAll : Hand → Type 0
HasAll v = v.seats ≡ v.all → 0 < v.done → EachOnce v.pieces v.drawn

abbrev pub HasTold : Step (Unit {0}) → Sat → ℕ → Sat → Type 0
HasTold st m n m' = (m' ≡ m) × HasAll m.0

abbrev pub left_of : Hand → Hand
left_of v = hand v.all v.pieces (v.seats - 1) v.done v.drawn

abbrev pub right_of : Hand → Hand
right_of v = hand v.all v.pieces 1 0 []

abbrev pub both_of : Hand → Hand → Hand
both_of v w = hand v.all v.pieces (v.seats + w.seats) (v.done + w.done) (v.drawn ++ w.drawn)
