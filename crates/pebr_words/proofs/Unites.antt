-- Two views become one: no core and no word changes, and two notes are merged.
use Rattle.std.proofs.Common.{◌≡◌, ◌≢◌, ℕ, zero, suc, ◌+◌, ◌<◌, List, [], ◌∷◌, ◌++◌, length, map, get_or, set, sym}
use Rattle.std.proofs.Common.{refl, ap}
use Rattle.std.proofs.Common.{◌∙◌, subst, ⊎_elim, arith, append_assoc}
use Rattle.std.specs.List.{flat_map}
use Rattle.pebr_words.specs.Pasts.{History}
use Rattle.pebr_words.specs.Making.{past_in}
use Rattle.std.proofs.lemmas.List.{length-append, length-set}
use mathlib.Core.Option.{some, some-injective, some-ne-none}
use lib.ListN.{get_elem?}
use Rattle.atomic_table.specs.Table as table
use Rattle.atomic_table.proofs.Lists.{at_set, set_else, set_here}
use Rattle.pebr_core.specs.declared.kinds.Shape.{Shape}
use Rattle.pebr_words.specs.declared.views.Held.{Held}
use Rattle.pebr_words.specs.Ruled.{IsIn, times_held, total, united_view, view_left, contents, Fits, Ruled}
use Rattle.pebr_words.proofs.Ejections.{Carries, carries_first, listed_both, into, onto}
use Rattle.pebr_words.proofs.Numbers.{total_set, times_append, in_append}
use Rattle.pebr_words.proofs.Frame.{Table, is_seat, own_fits, others_differ, elsewhere_differ}

-- The protocol lets two notes be merged.
abbrev pub Mergeable : {N : Type 0} → (List (List ℕ) → List N → Type 0) → (N → N → N) → N → Type 0
Mergeable {N} keeps merged empty =
    (given : List (List ℕ)) (notes : List N) (i j : ℕ) (a b : N) → keeps given notes → ¬ (j ≡ i)
    → get_elem? notes i ≡ some a → get_elem? notes j ≡ some b
    → keeps given (set (set notes i (merged a b)) j empty)

-- What is whole stays so when two notes are merged.
abbrev pub StaysMerged : {N : Type 0} → (List N → List ℕ → Type 0) → (N → N → N) → N → Type 0
StaysMerged {N} whole merged empty =
    (notes : List N) (content : List ℕ) (i j : ℕ) (a b : N) → whole notes content → ¬ (j ≡ i)
    → get_elem? notes i ≡ some a → get_elem? notes j ≡ some b
    → whole (set (set notes i (merged a b)) j empty) content

module _ {N : Type 0} (keeps : List (List ℕ) → List N → Type 0) (whole : List N → List ℕ → Type 0) (shape : Shape)
    (merged : N → N → N) (empty : N) (law : Mergeable keeps merged empty) (stays : StaysMerged whole merged empty) where
  module _ (id : ℕ) (own : Held N) (others : List (Held N)) (other : ℕ) (own' : Held N) (others' : List (Held N))
      (s : Table keeps whole shape) (rule : Ruled keeps whole shape s)
      (at : get_elem? s.views id ≡ some (own ∷ others)) (apart : other ≢ id)
      (was : get_elem? s.views other ≡ some (own' ∷ others')) where
    abbrev first : Held N
    first = record own { note = merged own.note own'.note }

    abbrev second : Held N
    second = record own' { note = empty }

    abbrev mid : List N
    mid = set rule.notes own.number (merged own.note own'.note)

    abbrev notes : List N
    notes = set mid own'.number empty

    differ : own'.number ≢ own.number
    differ = elsewhere_differ keeps whole shape s rule id own others at other (own' ∷ others') apart was own' (0, refl)

    fit : Fits rule.core rule.notes own
    fit = own_fits keeps whole shape s rule id own others at

    fit' : Fits rule.core rule.notes own'
    fit' = own_fits keeps whole shape s rule other own' others' was

    first_fits : Fits rule.core notes first
    first_fits = record {
      known = fit.known;
      recalls = fit.recalls;
      note = set_else mid own'.number own.number empty (λ e. differ (sym e))
          ∙ set_here rule.notes own.number (merged own.note own'.note)
          (subst (λ n. own.number < n) (sym rule.many) (is_seat keeps whole shape s rule id own others at));
    }

    second_fits : Fits rule.core notes second
    second_fits = record {
      known = fit'.known;
      recalls = fit'.recalls;
      note = set_here mid own'.number empty
          (subst (λ n. own'.number < n) (sym (length-set rule.notes own.number (merged own.note own'.note) ∙ rule.many))
          (is_seat keeps whole shape s rule other own' others' was));
    }

    still : (held : Held N) → held.number ≢ own.number → held.number ≢ own'.number → Fits rule.core rule.notes held
        → Fits rule.core notes held
    still held ne ne' f = record {
      known = f.known;
      recalls = f.recalls;
      note = set_else mid own'.number held.number empty ne'
          ∙ (set_else rule.notes own.number held.number (merged own.note own'.note) ne ∙ f.note);
    }

    in_own : (held : Held N) → IsIn held (first ∷ others) → Fits rule.core notes held
    in_own held (zero, e) = subst (Fits rule.core notes) (some-injective first held e) first_fits
    in_own held (suc place, e) = still held
        (others_differ keeps whole shape s rule id own others at held (place, e))
        (elsewhere_differ keeps whole shape s rule other own' others' was id (own ∷ others) (λ x. apart (sym x)) at held
        (suc place, e))
        (rule.fits (own ∷ others) held (id, at) (suc place, e))

    in_second : (held : Held N) → IsIn held (second ∷ others') → Fits rule.core notes held
    in_second held (zero, e) = subst (Fits rule.core notes) (some-injective second held e) second_fits
    in_second held (suc place, e) = still held
        (elsewhere_differ keeps whole shape s rule id own others at other (own' ∷ others') apart was held
        (suc place, e))
        (others_differ keeps whole shape s rule other own' others' was held (place, e))
        (rule.fits (own' ∷ others') held (other, was) (suc place, e))

    in_both : (held : Held N) → IsIn held ((first ∷ others) ++ (second ∷ others')) → Fits rule.core notes held
    in_both held in_view = ⊎_elim (in_own held) (in_second held)
        (in_append (first ∷ others) (second ∷ others') held in_view)

    both_made : get_elem? (set s.views id ((first ∷ others) ++ (second ∷ others'))) other ≡ some (own' ∷ others')
        → Ruled keeps whole shape record {
          words = s.words;
          homes = s.homes;
          views =
              set (set s.views id ((first ∷ others) ++ (second ∷ others'))) other [];
        }
    both_made at' =
        let both : List (Held N) = (first ∷ others) ++ (second ∷ others') in
        let sum : (f : List (Held N) → ℕ) → f both ≡ f (own ∷ others) + f (own' ∷ others') → f [] ≡ 0
        → total f (set (set s.views id both) other []) ≡ total f s.views =
        λ f e blank. (let a = total_set f s.views id (own ∷ others) both at in
        let b = total_set f (set s.views id both) other (own' ∷ others') [] at' in omega (arith, a, b, e, blank)) in
        let into_first : Carries (own ∷ others) both =
        λ held e in_view h. into (first ∷ others) (second ∷ others') held e
        (carries_first own first others (λ _ x. x) held e in_view h) in
        let into_second : Carries (own' ∷ others') both =
        λ held e in_view h. onto (first ∷ others) (second ∷ others') held e
        (carries_first own' second others' (λ _ x. x) held e in_view h) in
        record {
          core = rule.core;
          notes = notes;
          shape_is = rule.shape_is;
          sound = rule.sound;
          show = rule.show;
          once = λ number. sum (times_held number) (times_append number (first ∷ others) (second ∷ others')) refl
              ∙ rule.once number;
          count = sum length (length-append (first ∷ others) (second ∷ others')) refl ∙ rule.count;
          fits = λ view held in_views in_view. ⊎_elim
              (λ (x : (in_views.0 ≡ other) × ([] ≡ view)). absurd
              (let e : IsIn held [] = subst (IsIn held) (sym x.1) in_view in some-ne-none held (sym e.1)))
              (λ (x : (in_views.0 ≢ other) × (get_elem? (set s.views id both) in_views.0 ≡ some view)). ⊎_elim
              (λ (y : (in_views.0 ≡ id) × (both ≡ view)). in_both held (subst (IsIn held) (sym y.1) in_view))
              (λ (y : (in_views.0 ≢ id) × (get_elem? s.views in_views.0 ≡ some view)). still held
              (elsewhere_differ keeps whole shape s rule id own others at in_views.0 view y.0 y.1 held in_view)
              (elsewhere_differ keeps whole shape s rule other own' others' was in_views.0 view x.0 y.1 held in_view)
              (rule.fits view held (in_views.0, y.1) in_view))
              (at_set s.views id in_views.0 both view x.1))
              (at_set (set s.views id both) other in_views.0 [] view in_views.1);
          ejected =
              λ j epoch now. (let h = rule.ejected j epoch now in (
                h.0,
                h.1,
                listed_both s.views id (own ∷ others) other
                    (own' ∷ others') both at apart was at' into_first into_second h.0 h.2,
              ));
          many = length-set mid own'.number empty
              ∙ (length-set rule.notes own.number (merged own.note own'.note) ∙ rule.many);
          whole_is = λ slot low nowhere. stays rule.notes (get_or rule.core.words slot []) own.number
              own'.number own.note
              own'.note (rule.whole_is slot low nowhere) differ fit.note fit'.note;
          kept = law (contents rule.core) rule.notes own.number own'.number own.note own'.note rule.kept differ fit.note
              fit'.note;
        }

  pub unites : (id : ℕ) (view : List (Held N)) (other : ℕ) (view' : List (Held N)) → 0 < length view → 0 < length view'
      → table.Joins (Ruled keeps whole shape) id view other view' (united_view merged empty view view') []
  unites id [] other view' live live' s rule at apart at' = absurd (omega (arith, live))
  unites id (own ∷ others) other [] live live' s rule at apart at' = absurd (omega (arith, live'))
  unites id (own ∷ others) other (own' ∷ others') live live' s rule at apart at' =
      both_made id own others other own' others' s rule at apart
      (sym (set_else s.views id other (united_view merged empty (own ∷ others) (own' ∷ others')) apart) ∙ at') at'

-- the numbers that were absorbed have the empty note, where they had it before
pub united_rest : {N : Type 0} (merged : N → N → N) (empty : N) (view view' : List (Held N)) → 0 < length view
    → 0 < length view'
    → ((place : ℕ) (held : Held N) → get_elem? (view_left view) place ≡ some held → held.note ≡ empty)
    → ((place : ℕ) (held : Held N) → get_elem? (view_left view') place ≡ some held → held.note ≡ empty)
    → (place : ℕ) (held : Held N) → get_elem? (view_left (united_view merged empty view view')) place ≡ some held
    → held.note ≡ empty
united_rest merged empty [] view' live live' rest rest' = absurd (omega (arith, live))
united_rest merged empty (own ∷ others) [] live live' rest rest' = absurd (omega (arith, live'))
united_rest {N} merged empty (own ∷ others) (own' ∷ others') live live' rest rest' = λ place held at. ⊎_elim
    (λ (h : IsIn held others). rest h.0 held h.1)
    (λ (h : IsIn held ((record own' { note = empty }) ∷ others')). second held h.0 h.1)
    (in_append others ((record own' { note = empty }) ∷ others') held (place, at))
  where
    second : (held : Held N) (place : ℕ) → get_elem? ((record own' { note = empty }) ∷ others') place ≡ some held
        → held.note ≡ empty
    second held zero e = ap (λ (h : Held N). h.note) (sym (some-injective (record own' { note = empty }) held e))
    second held (suc place) e = rest' place held e

-- what stands in the histories of both is put together
pub united_lists : {N A : Type 0} (f : History → List A) (merged : N → N → N) (empty : N) (view view' : List (Held N))
    → 0 < length view → 0 < length view'
    → f (past_in (united_view merged empty view view'))
    ++ flat_map (λ held. f held.past) (view_left (united_view merged empty view view'))
    ≡ (f (past_in view) ++ flat_map (λ held. f held.past) (view_left view))
    ++ (f (past_in view') ++ flat_map (λ held. f held.past) (view_left view'))
united_lists f merged empty [] view' live live' = absurd (omega (arith, live))
united_lists f merged empty (own ∷ others) [] live live' = absurd (omega (arith, live'))
united_lists {N} f merged empty (own ∷ others) (own' ∷ others') live live' =
    let rest : Held N → List _ = λ held. f held.past in
    ap (λ l. f own.past ++ l) (both others ((record own' { note = empty }) ∷ others'))
    ∙ sym (append_assoc (f own.past) (flat_map rest others) (f own'.past ++ flat_map rest others'))
  where
    both : (xs ys : List (Held N)) → flat_map (λ held. f held.past) (xs ++ ys) ≡ flat_map (λ held. f held.past) xs
        ++ flat_map (λ held. f held.past) ys
    both [] ys = refl
    both (x ∷ xs) ys = ap (λ l. f x.past ++ l) (both xs ys)
        ∙ sym (append_assoc (f x.past) (flat_map (λ held. f held.past) xs) (flat_map (λ held. f held.past) ys))

-- how many numbers the view has, and which
pub united_count : {N : Type 0} (merged : N → N → N) (empty : N) (view view' : List (Held N))
    → length (united_view merged empty view view') ≡ length view + length view'
united_count merged empty [] view' = omega arith
united_count merged empty (own ∷ others) [] = omega arith
united_count {N} merged empty (own ∷ others) (own' ∷ others') = let e =
    length-append others ((record own' { note = empty }) ∷ others') in omega (arith, e)

pub united_numbers : {N : Type 0} (merged : N → N → N) (empty : N) (view view' : List (Held N)) → 0 < length view
    → 0 < length view'
    → map (λ held. held.number) (united_view merged empty view view') ≡ map (λ held. held.number) view
    ++ map (λ held. held.number) view'
united_numbers merged empty [] view' live live' = absurd (omega (arith, live))
united_numbers merged empty (own ∷ others) [] live live' = absurd (omega (arith, live'))
united_numbers {N} merged empty (own ∷ others) (own' ∷ others') live live' =
    ap (λ l. own.number ∷ l) (both others ((record own' { note = empty }) ∷ others'))
  where
    both : (xs ys : List (Held N)) → map (λ held. held.number) (xs ++ ys) ≡ map (λ held. held.number) xs
        ++ map (λ held. held.number) ys
    both [] ys = refl
    both (x ∷ xs) ys = ap (λ l. x.number ∷ l) (both xs ys)
