-- A seat is split off.
use Rattle.std.proofs.Common.{◌≡◌, ◌≢◌, ⊎_elim, ℕ, suc, ◌+◌, List, [], ◌∷◌, ◌++◌, length, map, set, sym, refl, ap, ◌∙◌}
use Rattle.std.proofs.Common.{subst, arith}
use Rattle.std.proofs.lemmas.List.{map-set, map-append}
use mathlib.Core.Option.{some}
use lib.ListN.{get_elem?}
use Rattle.atomic_table.specs.Table.{Splits}
use Rattle.atomic_table.proofs.Lists.{at_set, at_snoc, at_map}
use Rattle.cache_face.specs.Keeping.{Keeps}
use Rattle.cache_face.specs.Notes.{Note, unused_note, first_note}
use Rattle.cache_face.proofs.Keeping.{keeps_split}
use Rattle.turn_cache.specs.declared.rule.Told.{Told}
use Rattle.turn_cache.specs.Hands.{Hand, new_hand, turns_held, claim, at_work, times, total, remaining_hand, split_off}
use Rattle.turn_cache.specs.Ruled.{Ruled, Fits}
use Rattle.turn_cache.proofs.Totals.{total-set, total-snoc}

abbrev note_of : Hand → Note
note_of hand = hand.note

pub splits : (told : Told) (id number : ℕ) (numbers : List ℕ) → let v : Hand =
    new_hand (number ∷ numbers) (unused_note (suc (length numbers))) in
    Splits (Ruled told) id v (remaining_hand v) (split_off v)
splits told id number numbers s h at =
    let v : Hand = new_hand (number ∷ numbers) (unused_note (suc (length numbers))) in
    let left : Hand = remaining_hand v in
    let right : Hand = split_off v in
    let views' : List Hand = set s.views id left ++ right ∷ [] in
    let fewer : left.note.seats ≡ length numbers = omega arith in
    let sum : (F : Hand → ℕ) → F left + F right ≡ F v → total F views' ≡ total F s.views
    = λ F e. (let t = total-set F s.views id v left at in let u = total-snoc F (set s.views id left) right in
    omega (arith, t, u, e)) in
    let fits_left : Fits told.sets s.words h.contents left =
    record { seats = fewer; gone = λ none. (refl, refl, refl); live = tt; turn = tt } in
    let fits_right : Fits told.sets s.words h.contents right =
    record { seats = refl; gone = λ none. (refl, refl, refl); live = tt; turn = tt } in
    let notes : map note_of views' ≡ set (map note_of s.views) id (unused_note (length numbers)) ++ first_note ∷ []
    = map-append note_of (set s.views id left) (right ∷ [])
    ∙ (ap (λ ns. ns ++ first_note ∷ []) (map-set note_of s.views id left)
    ∙ ap (λ n. set (map note_of s.views) id (unused_note n) ++ first_note ∷ []) fewer) in
    record {
      contents = h.contents;
      small = h.small;
      wide = h.wide;
      many = h.many;
      ten = h.ten;
      turns = λ q low. sum (claim q) refl ∙ h.turns q low;
      once = λ q. (let e = sum (turns_held q) refl in let o = h.once q in omega (arith, e, o));
      settled = λ q p k low low' low'' none. h.settled q p k low low' low''
          (sym (sum (λ hand. at_work q p hand.turn) refl) ∙ none);
      numbers = λ n. sum (λ hand. times n hand.numbers) (omega arith) ∙ h.numbers n;
      seats = sum (λ hand. hand.note.seats) (omega arith) ∙ h.seats;
      each = λ j u e. ⊎_elim
          (λ x. ⊎_elim (λ (y : (j ≡ id) × (left ≡ u)). subst (Fits told.sets s.words h.contents) y.1 fits_left)
          (λ (y : (j ≢ id) × (get_elem? s.views j ≡ some u)). h.each j u y.1) (at_set s.views id j left u x))
          (λ x. subst (Fits told.sets s.words h.contents) x fits_right) (at_snoc (set s.views id left) right u j e);
      kept = subst (Keeps told.timeouts told.sets h.contents) (sym notes)
          (keeps_split told.timeouts told.sets h.contents (map note_of s.views) id (length numbers) h.kept
          (at_map note_of s.views id v at));
    }
