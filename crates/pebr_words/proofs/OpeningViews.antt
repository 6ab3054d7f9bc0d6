-- The first view has each number once, and what it has of each is so.
use Rattle.std.proofs.Common.{◌≡◌, ◌≢◌, ℕ, zero, suc, ◌+◌, ◌*◌, ◌-◌, ◌<◌, ◌≤◌, cond, eqb, ltb, List, [], ◌∷◌, ◌++◌}
use Rattle.std.proofs.Common.{length, get_or, map, replicate, sym, refl, ap, ◌∙◌, subst, inl, arith}
use Rattle.std.proofs.lemmas.Grind.{common_steps}
use Rattle.std.proofs.lemmas.List.{length-replicate, get_or_at, get_or_append_left}
use mathlib.Core.Logic.{dite}
use native.Mathlib.Decide.{ℕ_discrete}
use Rattle.std.proofs.lemmas.List.FromFn.{length-map-range_with_len}
use Rattle.std.specs.List.{range_with_len}
use mathlib.Core.Option.{some, some-injective, some-ne-none}
use lib.ListN.{get_elem?}
use Rattle.atomic_table.specs.Table as table
use Rattle.pebr_core.specs.declared.kinds.Shape.{Shape}
use Rattle.pebr_core.specs.State.{seat_at, first_seat, nobody}
use Rattle.pebr_core.specs.declared.kinds.Stance.TheVariants as stance
use Rattle.pebr_words.specs.declared.views.Held.{Held}
use Rattle.pebr_words.specs.Ruled.{IsIn, times_held, once_below, first_held, view_from, first_view, Fits, Ruled}
use Rattle.pebr_words.specs.Opening.{opening_words, rows_of, opening_core}
use Rattle.std.specs.Prelude.{All}
use Rattle.std.proofs.lemmas.Option.{none-some}
use Rattle.pebr_words.proofs.OpeningCore.{opening_sound, opening_contents, opening_seat, opening_shown, opening_whole}
use Rattle.pebr_words.proofs.OpeningCore.{StartsAreSound}

module _ {N : Type 0} (shape : Shape) (note : N) where
  -- 1 where the number is one of these
  abbrev within : ℕ → ℕ → ℕ → ℕ
  within number from count = cond (ltb number from) 0 (cond (ltb number (from + count)) 1 0)

  counted : (number from count : ℕ) → times_held number (view_from shape note from count) ≡ within number from count
  counted number from zero = grind (arith, common_steps)
  counted number from (suc count) = let h = counted number (from + 1) count in
      more number from count (times_held number (view_from shape note (from + 1) count)) h
    where
      more : (number from count rest : ℕ) → rest ≡ within number (from + 1) count
          → cond (eqb from number) 1 0 + rest ≡ within number from (suc count)
      more number from count rest h = grind (arith, common_steps, h)

  held_at : (from count place : ℕ) (held : Held N) → get_elem? (view_from shape note from count) place ≡ some held
      → (place < count) × (held ≡ first_held shape note (from + place))
  held_at from zero place held e = absurd (some-ne-none held (sym e))
  held_at from (suc count) zero held e = (
    omega arith,
    sym (some-injective (first_held shape note from) held e)
        ∙ ap (first_held shape note) (let z : from ≡ from + 0 = omega arith in z),
  )
  held_at from (suc count) (suc place) held e =
      let h = held_at (from + 1) count place held e in (
        let lt = h.0 in
            omega (arith, lt),
        h.1 ∙ ap (first_held shape note) (let z : from + 1 + place ≡ from + suc place = omega arith in z),
      )

  note_at : (count place : ℕ) → place < count → get_elem? (replicate count note) place ≡ some note
  note_at zero place h = absurd (omega (arith, h))
  note_at (suc count) zero h = refl
  note_at (suc count) (suc place) h = note_at count place (omega (arith, h))

  pub opens : (keeps : List (List ℕ) → List N → Type 0) (whole : List N → List ℕ → Type 0) (given : List ℕ)
      → StartsAreSound shape given → shape.shields ≤ 8
      → length given ≡ shape.roots * shape.width → keeps (rows_of shape given) (replicate shape.seats note)
      → All (whole (replicate shape.seats note)) (rows_of shape given)
      → Ruled keeps whole shape (table.opening (opening_words shape given) [] (first_view shape note))
  opens keeps whole given start few long kept are_whole = record {
    core = opening_core shape given;
    notes = replicate shape.seats note;
    shape_is = refl;
    sound = opening_sound shape given start;
    show = opening_shown shape given long few;
    once = λ number. (let c = counted number 0 shape.seats in let z = all number in omega (arith, c, z));
    count = (let l = length-map-range_with_len (first_held shape note) 0 shape.seats in omega (arith, l));
    fits = λ view held in_views in_view. one view held in_views.0 in_views.1 in_view;
    ejected = λ other epoch now. absurd (let e : stance.Out ≡ stance.Ejected epoch = sym (all_out other) ∙ now in cc);
    many = length-replicate shape.seats note;
    kept = subst (λ c. keeps c (replicate shape.seats note)) (sym (opening_contents shape given (omega arith))) kept;
    whole_is = λ slot low nowhere. opening_whole shape given (whole (replicate shape.seats note)) are_whole slot low
        nowhere;
  }
    where
      all_out : (other : ℕ) → (seat_at (opening_core shape given) other).status ≡ stance.Out
      all_out other = out_at 0 shape.seats other
        where
          out_at : (from count k : ℕ) → (get_or (map (first_seat shape) (range_with_len from count)) k nobody).status
              ≡ stance.Out
          out_at from zero k = refl
          out_at from (suc count) zero = refl
          out_at from (suc count) (suc k) = out_at (from + 1) count k

      all : (number : ℕ) → within number 0 shape.seats ≡ once_below number shape.seats
      all number = grind (arith, common_steps)

      one : (view : List (Held N)) (held : Held N) (id : ℕ) → get_elem? (first_view shape note ∷ []) id ≡ some view
          → IsIn held view → Fits (opening_core shape given) (replicate shape.seats note) held
      one view held zero e (place, at) =
          let h = held_at 0 shape.seats place held
          (subst (λ (v : List (Held N)). get_elem? v place ≡ some held)
          (sym (some-injective (first_view shape note) view e)) at) in
          subst (Fits (opening_core shape given) (replicate shape.seats note)) (sym h.1) record {
            known = inl (opening_seat shape given (0 + place) (let lt = h.0 in omega (arith, lt)));
            note = note_at shape.seats (0 + place) (let lt = h.0 in omega (arith, lt));
            recalls = record {
              reads = λ read in_reads used. absurd (some-ne-none read (sym in_reads.1));
              written = λ slot word value e. absurd (none-some value e);
              shown = λ one root slot e. absurd (none-some slot e);
              lost = λ one. refl;
            };
          }
      one view held (suc id) e at = absurd (some-ne-none view (sym e))

-- what is left to be split off
pub next_view : {N : Type 0} (shape : Shape) (note : N) (from seats : ℕ) → from < seats
    → view_from shape note from (seats - from) ≡ first_held shape note from
    ∷ view_from shape note (from + 1) (seats - (from + 1))
next_view shape note from seats h = ap (view_from shape note from)
    (let e : seats - from ≡ suc (seats - (from + 1)) = omega (arith, h) in e)

-- a list of which each place is so, and one more
pub all_more : {A : Type 0} (P : ℕ → A → Type 0) (items : List A) (item : A) (count : ℕ) → length items ≡ count
    → ((i : ℕ) (d : A) → i < count → P i (get_or items i d)) → P count item → (i : ℕ) (d : A) → i < count + 1
    → P i (get_or (items ++ item ∷ []) i d)
all_more P items item count long each last i d h = dite (ℕ_discrete i count)
    (λ (same : i ≡ count). subst (λ n. P n (get_or (items ++ item ∷ []) n d)) (sym same)
    (subst (P count) (sym (get_or_at items item [] d count long)) last))
    (λ (apart : i ≢ count). let lt : i < count = omega (arith, h, apart) in
    subst (P i) (sym (get_or_append_left items (item ∷ []) d i (subst (λ n. i < n) (sym long) lt))) (each i d lt))
