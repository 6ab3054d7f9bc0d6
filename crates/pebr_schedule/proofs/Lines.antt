-- Steps of lines, one line at a time.
use Rattle.std.proofs.Common.{◌≡◌, ℕ, ◌+◌, Bool, true, false, cond, eqb, List, [], ◌∷◌, ◌++◌, Some, None, Result, Ok}
use Rattle.std.proofs.Common.{Err, refl, sym, ◌∙◌, ap, append_assoc}
use Rattle.pebr_core.specs.declared.kinds.Step.{Step}
use Rattle.pebr_schedule.specs.Numbers.{with_front, pieces_of}
use Rattle.pebr_schedule.specs.Grammar.{step_of, shape_of, with_step, with_shape, steps_of, lines_of}

-- steps before those of a result
abbrev pub behind : List Step → Result (List Step) ℕ → Result (List Step) ℕ
behind front (Ok steps) = Ok (front ++ steps)
behind front (Err number) = Err number

pub behind-none : (r : Result (List Step) ℕ) → behind [] r ≡ r
behind-none (Ok steps) = refl
behind-none (Err number) = refl

behind-more : (front : List Step) (s : Step) (number : ℕ) (r : Result (List Step) ℕ)
    → behind front (with_step (Some s) number r) ≡ behind (front ++ s ∷ []) r
behind-more front s number (Ok steps) = ap (λ l. Ok l) (sym (append_assoc front (s ∷ []) steps))
behind-more front s number (Err other) = refl

with_some : (b : ℕ) (ps : List (List ℕ)) → with_front b ps ≡ [] → ⊥
with_some b [] e = cc
with_some b (p ∷ ps) e = cc

-- a text has at least one piece
pub some_piece : (at : ℕ) (text : List ℕ)
    → (piece : List ℕ) × (pieces : List (List ℕ)) × (pieces_of at text ≡ piece ∷ pieces)
some_piece at text = first (pieces_of at text) (never_none at text)
  where
    first : (ps : List (List ℕ)) → (ps ≡ [] → ⊥) → (piece : List ℕ) × (pieces : List (List ℕ)) × (ps ≡ piece ∷ pieces)
    first [] h = absurd (h refl)
    first (p ∷ ps) h = (p, ps, refl)

    never_none : (a : ℕ) (t : List ℕ) → pieces_of a t ≡ [] → ⊥
    never_none a [] e = cc
    never_none a (b ∷ bs) e = pick (eqb b a) e
      where
        pick : (t : Bool) → cond t ([] ∷ pieces_of a bs) (with_front b (pieces_of a bs)) ≡ [] → ⊥
        pick true k = cc
        pick false k = with_some b (pieces_of a bs) k

-- the first line is a step's
pub lines_more : (front : List Step) (number : ℕ) (line rest : List ℕ) (pieces : List (List ℕ)) (s : Step)
    → pieces ≡ line ∷ pieces_of 10 rest → step_of line ≡ Some s
    → behind front (steps_of number pieces) ≡ behind (front ++ s ∷ []) (steps_of (number + 1) (pieces_of 10 rest))
lines_more front number line rest pieces s cut known =
    let next = some_piece 10 rest in
    ap (λ ps. behind front (steps_of number ps)) (cut ∙ ap (λ ps. line ∷ ps) next.2)
    ∙ (ap (λ o. behind front (with_step o number (steps_of (number + 1) (next.0 ∷ next.1)))) known
    ∙ (behind-more front s number (steps_of (number + 1) (next.0 ∷ next.1))
    ∙ ap (λ ps. behind (front ++ s ∷ []) (steps_of (number + 1) ps)) (sym next.2)))

-- the first line isn't a step's
pub lines_bad : (number : ℕ) (line rest : List ℕ) (pieces : List (List ℕ)) → pieces ≡ line ∷ pieces_of 10 rest
    → step_of line ≡ None → steps_of number pieces ≡ Err number
lines_bad number line rest pieces cut none =
    let next = some_piece 10 rest in
    ap (steps_of number) (cut ∙ ap (λ ps. line ∷ ps) next.2)
    ∙ ap (λ o. with_step o number (steps_of (number + 1) (next.0 ∷ next.1))) none

-- the first two lines of a text, where it has a line end
pub lines_first : (line rest : List ℕ) (pieces : List (List ℕ)) → pieces ≡ line ∷ pieces_of 10 rest
    → lines_of pieces ≡ with_shape (shape_of line) (steps_of 2 (pieces_of 10 rest))
lines_first line rest pieces cut =
    let next = some_piece 10 rest in
    ap lines_of (cut ∙ ap (λ ps. line ∷ ps) next.2) ∙ ap (λ ps. with_shape (shape_of line) (steps_of 2 ps)) (sym next.2)
