-- A step of one seat keeps the rule, where it keeps each fact by itself.
use Rattle.std.proofs.Common.{◌≡◌, ◌≢◌, ℕ, zero, suc, ◌+◌, ◌<◌, List, ◌∷◌, length, set, sym, refl, ap, subst, ⊎_elim}
use Rattle.std.proofs.Common.{arith}
use mathlib.Core.Option.{some, some-injective}
use lib.ListN.{get_elem?}
use Rattle.atomic_table.specs.Table as table
use Rattle.atomic_table.proofs.Lists.{at_set}
use Rattle.pebr_core.specs.declared.kinds.Shape.{Shape}
use Rattle.pebr_core.specs.State.{State, seat_at}
use Rattle.pebr_core.specs.declared.kinds.Stance.TheVariants as stance
use Rattle.pebr_words.specs.Pasts.{Ejection}
use Rattle.pebr_core.specs.Kept.{IsSound}
use Rattle.pebr_words.specs.declared.views.Held.{Held}
use Rattle.pebr_words.specs.Shown.{Show}
use Rattle.pebr_words.specs.Ruled.{IsIn, IsListed, IsEjectionOf, times_held, contents, AreWhole, Fits, Ruled}
use Rattle.pebr_words.proofs.Numbers.{once_few, once_in, not_held, held_once, total_set, total_at, total_two}

module _ {N : Type 0} (keeps : List (List ℕ) → List N → Type 0) (whole : List N → List ℕ → Type 0) (shape : Shape) where
  abbrev pub Table : Type 0
  Table = table.State (Unit {0}) (List (Held N))

  -- the view at 'id' acts as 'own'
  abbrev pub ActsAs : Table → ℕ → Held N → List (Held N) → Type 0
  ActsAs s id own others = get_elem? s.views id ≡ some (own ∷ others)

  module _ (s : Table) (rule : Ruled keeps whole shape s) (id : ℕ) (own : Held N) (others : List (Held N))
      (at : ActsAs s id own others) where
    counted : times_held own.number (own ∷ others) ≡ 1 + times_held own.number others
    counted = held_once own.number own others refl

    pub is_seat : own.number < shape.seats
    is_seat =
        let le = total_at (times_held own.number) s.views id (own ∷ others) at in
        let o = rule.once own.number in
        once_in own.number shape.seats (omega (arith, le, o, counted))

    pub own_fits : Fits rule.core rule.notes own
    own_fits = rule.fits (own ∷ others) own (id, at) (0, refl)

    -- nothing else in the views has the number
    pub others_differ : (held : Held N) → IsIn held others → held.number ≢ own.number
    others_differ held in_others =
        let le = total_at (times_held own.number) s.views id (own ∷ others) at in
        let o = rule.once own.number in
        let few = once_few own.number shape.seats in
        not_held own.number others held (omega (arith, le, o, few, counted)) in_others

    pub elsewhere_differ : (j : ℕ) (view : List (Held N)) → j ≢ id → get_elem? s.views j ≡ some view → (held : Held N)
        → IsIn held view → held.number ≢ own.number
    elsewhere_differ j view apart e held in_view =
        let two = total_two (times_held own.number) s.views id j (own ∷ others) view (λ same. apart (sym same)) at e in
        let o = rule.once own.number in
        let few = once_few own.number shape.seats in
        not_held own.number view held (omega (arith, two, o, few, counted)) in_view

    -- what stands in a view is a seat
    pub in_seats : (j : ℕ) (view : List (Held N)) → get_elem? s.views j ≡ some view → (held : Held N) → IsIn held view
        → held.number < shape.seats
    in_seats j view e held in_view =
        let le = total_at (times_held held.number) s.views j view e in
        let o = rule.once held.number in
        pick (times_held held.number view) refl (λ none. not_held held.number view held none in_view refl)
        (λ some'. once_in held.number shape.seats (omega (arith, le, o, some')))
      where
        pick : (n : ℕ) → times_held held.number view ≡ n → (times_held held.number view ≡ 0 → ⊥)
            → (0 < times_held held.number view → held.number < shape.seats) → held.number < shape.seats
        pick zero is none more = absurd (none is)
        pick (suc n) is none more = more (omega (arith, is))

    -- The seat's part of its view is replaced, and a word changes.
    pub framed : (words : List ℕ) (homes : List _) (core : State) (notes : List N) (new : Held N)
        → new.number ≡ own.number
        → core.shape ≡ shape → IsSound core → Show shape words core → length notes ≡ shape.seats
        → keeps (contents core) notes → AreWhole (whole notes) core
        → Fits core notes new
        → ((other epoch : ℕ) → (seat_at core other).status ≡ stance.Ejected epoch
        → (e : Ejection) × IsEjectionOf core other epoch e × IsListed e (set s.views id (new ∷ others)))
        → ((held : Held N) → held.number ≢ own.number → held.number < shape.seats → Fits rule.core rule.notes held
        → Fits core notes held)
        → Ruled keeps whole shape record { words = words; homes = homes; views = set s.views id (new ∷ others) }
    framed words homes core notes new numbered is_shape sound show many kept are_whole own_new ejected others_new =
        record {
          core = core;
          notes = notes;
          shape_is = is_shape;
          sound = sound;
          show = show;
          once = λ number. (
              let t = total_set (times_held number) s.views id (own ∷ others) (new ∷ others) at in
              let o = rule.once number in
              let same : times_held number (new ∷ others) ≡ times_held number (own ∷ others) =
              ap (λ k. times_held number (record own { number = k } ∷ others)) numbered in
              omega (arith, t, o, same));
          count = (let t = total_set length s.views id (own ∷ others) (new ∷ others) at in let o = rule.count in
              omega (arith, t, o));
          fits = λ view held in_views in_view. ⊎_elim
              (λ (x : (in_views.0 ≡ id) × (new ∷ others ≡ view)). in_own held (subst (IsIn held) (sym x.1) in_view))
              (λ (x : (in_views.0 ≢ id) × (get_elem? s.views in_views.0 ≡ some view)). others_new held
              (elsewhere_differ in_views.0 view x.0 x.1 held in_view) (in_seats in_views.0 view x.1 held in_view)
              (rule.fits view held (in_views.0, x.1) in_view))
              (at_set s.views id in_views.0 (new ∷ others) view in_views.1);
          ejected = ejected;
          many = many;
          kept = kept;
          whole_is = are_whole;
        }
      where
        in_own : (held : Held N) → IsIn held (new ∷ others) → Fits core notes held
        in_own held (zero, e) = subst (Fits core notes) (some-injective new held e) own_new
        in_own held (suc place, e) = others_new held (others_differ held (place, e))
            (in_seats id (own ∷ others) at held (suc place, e)) (rule.fits (own ∷ others) held (id, at) (suc place, e))
