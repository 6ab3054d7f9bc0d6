use Rattle.std.proofs.Common.{◌≡◌, ◌*◌, ◌+◌, ◌∙◌, ◌∷◌, [], ℕ, zero, suc, List, map, replicate, get_or, sum_by, refl}
use Rattle.std.proofs.Common.{length, sym, subst, arith, inl, All}
use Rattle.std.specs.List.{range_with_len}
use Rattle.std.proofs.lemmas.List.FromFn.{length-map-range_with_len}
use Rattle.std.proofs.lemmas.List.Elements.{All-nil, All-cons, All-weaker}
use Rattle.std.proofs.lemmas.List.Sums.{sum_by-cons}
use Rattle.cache_face.specs.Keeping.{Keeps, IsWhole, IsEmptyContent, AreBacking}
use Rattle.cache_face.specs.Laws.{IsUnused}
use Rattle.cache_face.specs.Notes.{Note, first_note}
use Rattle.cache_face.proofs.Keeping.{keeps_opening, empty_is_backed}
use Rattle.pebr_words.specs.Opening.{rows_of, slot_of}
use Rattle.flow_cache.specs.Places.{cache_shape}
use Rattle.flow_cache.proofs.cache.PebrCache.open.Goals as goal

zero_at : (n k : ℕ) → ◌≡◌ {A = ℕ} (get_or (replicate n 0) k 0) 0
zero_at zero k = refl
zero_at (suc n) zero = refl
zero_at (suc n) (suc k) = zero_at n k

empty_rows : (sets seats n : ℕ) (slots : List ℕ)
    → All IsEmptyContent (map (slot_of (cache_shape sets seats) (replicate n 0)) slots)
empty_rows sets seats n [] = All-nil IsEmptyContent
empty_rows sets seats n (slot ∷ slots) =
    All-cons IsEmptyContent (slot_of (cache_shape sets seats) (replicate n 0) slot)
    (map (slot_of (cache_shape sets seats) (replicate n 0)) slots) (zero_at n (slot * 10 + 5))
    (empty_rows sets seats n slots)

so_long : (sets seats : ℕ) (ws : List ℕ) → length (rows_of (cache_shape sets seats) ws) ≡ 4 * sets
so_long sets seats ws = length-map-range_with_len _ 0 (4 * sets)

unused_notes : (n : ℕ) → All IsUnused (replicate n first_note)
unused_notes zero = All-nil IsUnused
unused_notes (suc n) = All-cons IsUnused first_note (replicate n first_note) (refl, refl, refl) (unused_notes n)

so_many : (n : ℕ) → sum_by (λ (note : Note). note.seats) (replicate n first_note) ≡ n
so_many zero = refl
so_many (suc n) = let s = sum_by-cons (λ (note : Note). note.seats) first_note (replicate n first_note) in
    let r = so_many n in omega (arith, s, r)

pub open-requires-clause-keeps : goal.open-requires-clause-keeps
open-requires-clause-keeps c =
    let sets = c.args.sets in let seats = c.args.seats in
    let is : c.as_slice.result.now ≡ replicate (40 * sets) 0 = c.as_slice.ensures.value ∙ c.in_ok-words.ensures in
    subst (λ (ws : List ℕ). Keeps c.args.timeouts sets (rows_of (cache_shape sets seats) ws)
    (replicate seats first_note))
    (sym is)
    (keeps_opening c.args.timeouts sets (rows_of (cache_shape sets seats) (replicate (40 * sets) 0))
    (replicate seats first_note)
    (so_long sets seats (replicate (40 * sets) 0))
    (empty_rows sets seats (40 * sets) (range_with_len 0 (4 * sets))) (unused_notes seats)
    (let m = so_many seats in omega (arith, m, c.requires.seats.1)))

pub open-requires-clause-whole : goal.open-requires-clause-whole
open-requires-clause-whole c =
    let sets = c.args.sets in let seats = c.args.seats in
    let is : c.as_slice.result.now ≡ replicate (40 * sets) 0 = c.as_slice.ensures.value ∙ c.in_ok-words.ensures in
    subst (λ (ws : List ℕ). All IsWhole (rows_of (cache_shape sets seats) ws)) (sym is)
    (All-weaker IsEmptyContent IsWhole (λ content e. inl e) (rows_of (cache_shape sets seats) (replicate (40 * sets) 0))
    (empty_rows sets seats (40 * sets) (range_with_len 0 (4 * sets))))

pub open-requires-clause-backed : goal.open-requires-clause-backed
open-requires-clause-backed c =
    let sets = c.args.sets in let seats = c.args.seats in
    let notes = replicate seats first_note in
    let is : c.as_slice.result.now ≡ replicate (40 * sets) 0 = c.as_slice.ensures.value ∙ c.in_ok-words.ensures in
    subst (λ (ws : List ℕ). All (AreBacking c.args.timeouts notes) (rows_of (cache_shape sets seats) ws)) (sym is)
    (All-weaker IsEmptyContent (AreBacking c.args.timeouts notes) (empty_is_backed c.args.timeouts notes)
    (rows_of (cache_shape sets seats) (replicate (40 * sets) 0))
    (empty_rows sets seats (40 * sets) (range_with_len 0 (4 * sets))))
