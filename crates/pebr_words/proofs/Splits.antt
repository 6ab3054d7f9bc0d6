-- A view is cut in two: no core, no note and no word changes.
use Rattle.std.proofs.Common.{◌≡◌, ◌≢◌, ℕ, zero, suc, ◌<◌, List, [], ◌∷◌, length, set, sym, subst, ⊎_elim, arith}
use mathlib.Core.Option.{some, some-ne-none}
use lib.ListN.{get_elem?}
use Rattle.atomic_table.specs.Table as table
use Rattle.atomic_table.proofs.Lists.{at_set, at_snoc}
use Rattle.pebr_core.specs.declared.kinds.Shape.{Shape}
use Rattle.pebr_words.specs.declared.views.Held.{Held}
use Rattle.pebr_words.specs.Ruled.{IsIn, times_held, view_taken, view_left, Fits, Ruled}
use Rattle.pebr_words.proofs.Ejections.{listed_cut}
use Rattle.pebr_words.proofs.Numbers.{total_set, total_last}

module _ {N : Type 0} (keeps : List (List ℕ) → List N → Type 0) (whole : List N → List ℕ → Type 0) (shape : Shape) where
  pub splits : (id : ℕ) (view : List (Held N)) → 0 < length view
      → table.Splits (Ruled keeps whole shape) id view (view_left view) (view_taken view)
  splits id [] live s rule at = absurd (omega (arith, live))
  splits id (own ∷ others) live s rule at = record {
    core = rule.core;
    notes = rule.notes;
    shape_is = rule.shape_is;
    sound = rule.sound;
    show = rule.show;
    once = λ number. (
        let cut = total_set (times_held number) s.views id (own ∷ others) others at in
        let new = total_last (times_held number) (set s.views id others) (own ∷ []) in
        let o = rule.once number in
        omega (arith, cut, new, o));
    count = (
        let cut = total_set length s.views id (own ∷ others) others at in
        let new = total_last length (set s.views id others) (own ∷ []) in
        let o = rule.count in
        omega (arith, cut, new, o));
    fits = λ view held in_views in_view. ⊎_elim
        (λ e. kept view held in_views.0 in_view e)
        (λ (is : own ∷ [] ≡ view). first held (subst (IsIn held) (sym is) in_view))
        (at_snoc (set s.views id others) (own ∷ []) view in_views.0 in_views.1);
    ejected =
        λ other epoch now. (let h = rule.ejected other epoch now in
        (h.0, h.1, listed_cut s.views id own others at h.0 h.2));
    many = rule.many;
    kept = rule.kept;
    whole_is = rule.whole_is;
  }
    where
      first : (held : Held N) → IsIn held (own ∷ []) → Fits rule.core rule.notes held
      first held (zero, e) = rule.fits (own ∷ others) held (id, at) (0, e)
      first held (suc place, e) = absurd (some-ne-none held (sym e))

      kept : (view : List (Held N)) (held : Held N) (j : ℕ) → IsIn held view
          → get_elem? (set s.views id others) j ≡ some view → Fits rule.core rule.notes held
      kept view held j in_view e = ⊎_elim
          (λ (x : (j ≡ id) × (others ≡ view)). let in_others : IsIn held others = subst (IsIn held) (sym x.1) in_view in
          rule.fits (own ∷ others) held (id, at) (suc in_others.0, in_others.1))
          (λ (x : (j ≢ id) × (get_elem? s.views j ≡ some view)). rule.fits view held (j, x.1) in_view)
          (at_set s.views id j others view e)
