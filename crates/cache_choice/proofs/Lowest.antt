-- The lowest and the oldest of some entries, found one entry after the other, and what is opened then.
use Rattle.std.proofs.Common.{◌≡◌, inl, inr, ℕ, zero, suc, ◌<◌, ◌≤◌, List, [], ◌∷◌, length, Option, Some, None, IsNone}
use Rattle.std.proofs.Common.{refl}
use Rattle.std.proofs.Common.{sym, ◌∙◌, arith}
use Rattle.flow_parts.specs.declared.fragment.Fragment.{Fragment}
use Rattle.flow_parts.specs.declared.timeouts.Timeouts.{Timeouts}
use Rattle.cache_face.specs.declared.metered.How.{How}
use Rattle.cache_face.specs.declared.metered.How.TheVariants.{Opened, Replaced}
use Rattle.cache_face.specs.Choice.{HasKey, HasNone, IsLowest, IsOldest, IsChoice, entry_at}
use Rattle.cache_face.proofs.Contents.{some_is}

module _ (Is : Option Fragment → Type 0) where
  pub none_of_none : HasNone Is []
  none_of_none place low = absurd (omega (arith, low))

  pub none_of_more : (entry : Option Fragment) (entries : List (Option Fragment)) → ¬ Is entry → HasNone Is entries
      → HasNone Is (entry ∷ entries)
  none_of_more entry entries first rest zero low = first
  none_of_more entry entries first rest (suc place) low = rest place (omega (arith, low))

  pub lowest_here : (entry : Option Fragment) (entries : List (Option Fragment)) → Is entry
      → IsLowest Is (entry ∷ entries) 0
  lowest_here entry entries is =
      record { below = omega arith; is = is; first = λ lower less. absurd (omega (arith, less)) }

  pub lowest_behind : (entry : Option Fragment) (entries : List (Option Fragment)) (place : ℕ) → ¬ Is entry
      → IsLowest Is entries place → IsLowest Is (entry ∷ entries) (suc place)
  lowest_behind entry entries place not rest = record {
    below = (let low = rest.below in omega (arith, low));
    is = rest.is;
    first = before;
  }
    where
      before : (lower : ℕ) → lower < suc place → ¬ Is (entry_at (entry ∷ entries) lower)
      before zero less = not
      before (suc lower) less = rest.first lower (omega (arith, less))

pub oldest_here : (entry : Option Fragment) (entries : List (Option Fragment))
    → ((place : ℕ) (f g : Fragment) → place < length entries → entry ≡ Some f → entry_at entries place ≡ Some g
    → f.last ≤ g.last) → IsOldest (entry ∷ entries) 0
oldest_here entry entries least = record {
  below = omega arith;
  least = at;
  first = λ lower oldest fragment less. absurd (omega (arith, less));
}
  where
    at : (place : ℕ) (f g : Fragment) → place < length (entry ∷ entries) → entry ≡ Some f
        → entry_at (entry ∷ entries) place ≡ Some g → f.last ≤ g.last
    at zero f g low is is' = let same = some_is f g (sym is ∙ is') in
        (let one : f.last ≡ g.last = (λ i. (same i).last) in omega (arith, one))
    at (suc place) f g low is is' = least place f g (omega (arith, low)) is is'

pub oldest_behind : (entry : Option Fragment) (entries : List (Option Fragment)) (place : ℕ) → IsOldest entries place
    → ((f g : Fragment) → entry ≡ Some f → entry_at entries place ≡ Some g → g.last < f.last)
    → IsOldest (entry ∷ entries) (suc place)
oldest_behind entry entries place rest less = record {
  below = (let low = rest.below in omega (arith, low));
  least = at;
  first = before;
}
  where
    at : (other : ℕ) (g f : Fragment) → other < length (entry ∷ entries) → entry_at entries place ≡ Some g
        → entry_at (entry ∷ entries) other ≡ Some f → g.last ≤ f.last
    at zero g f low is is' = let h = less f g is' is in omega (arith, h)
    at (suc other) g f low is is' = rest.least other g f (omega (arith, low)) is is'

    before : (lower : ℕ) (g f : Fragment) → lower < suc place → entry_at entries place ≡ Some g
        → entry_at (entry ∷ entries) lower ≡ Some f → g.last < f.last
    before zero g f low is is' = less f g is' is
    before (suc lower) g f low is is' = rest.first lower g f (omega (arith, low)) is is'

none_is : (entry : Option Fragment) → IsNone entry → entry ≡ None
none_is None h = refl
none_is (Some old) h = cc

-- where none is of the key, an entry is opened: the lowest empty one, or the oldest where none is empty
module _ (limits : Timeouts) (entries : List (Option Fragment)) (own : Fragment) (place : ℕ)
    (none : HasNone (HasKey own.key) entries) where
  pub opens_empty : IsLowest IsNone entries place
      → (how : How) × IsChoice limits entries own how place (entry_at entries place) own
  opens_empty lowest = (
    Opened,
    record {
      none_of_key = none;
      lowest = lowest;
      none_out = none_is (entry_at entries place) lowest.is;
      opened = refl;
    },
  )

  pub opens_oldest : HasNone IsNone entries → IsOldest entries place
      → (how : How) × IsChoice limits entries own how place (entry_at entries place) own
  opens_oldest full oldest = (
    Replaced,
    inr (record { none_of_key = none; none_empty = full; oldest = oldest; out_is = refl; anew = refl }),
  )
