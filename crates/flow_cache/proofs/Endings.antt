-- What the pass for all seats has at the end.
use Rattle.std.proofs.Common.{◌≡◌, ◌≢◌, ℕ, zero, suc, ◌<◌, List, ◌++◌, All, Result, Ok, Err, OnOk, set, replicate, refl}
use Rattle.std.proofs.Common.{sym, ap, subst, arith}
use mathlib.Core.Option.{some, some-injective, some-ne-none}
use lib.ListN.{get_elem?}
use Rattle.flow_parts.specs.declared.timeouts.Timeouts.{Timeouts}
use Rattle.flow_parts.specs.Reaching.{Reaches}
use Rattle.cache_face.specs.Keeping.{Keeps, IsBorne, parts_in}
use Rattle.cache_face.specs.Laws.{IsUnused}
use Rattle.cache_face.specs.Notes.{Note, empty_note}
use Rattle.cache_face.proofs.Apart.{here}
use Rattle.cache_face.proofs.Keeping.{kept_at_end}

pub on_ok : {A E : Type 0} (r : Result A E) (F : Type 0) → F → OnOk r F
on_ok (Ok a) F f = f
on_ok (Err e) F f = tt

in_all : {A : Type 0} (n i : ℕ) (a : A) → i < n → get_elem? (replicate n a) i ≡ some a
in_all zero i a low = absurd (omega (arith, low))
in_all (suc n) zero a low = refl
in_all (suc n) (suc i) a low = in_all n i a (omega (arith, low))

another : (n i j : ℕ) (note other : Note) → j ≢ i → get_elem? (set (replicate n empty_note) i note) j ≡ some other
    → IsUnused other
another zero i j note other apart e = absurd (some-ne-none other (sym e))
another (suc n) zero zero note other apart e = absurd (apart refl)
another (suc n) zero (suc j) note other apart e = one n j other e
  where
    one : (n j : ℕ) (other : Note) → get_elem? (replicate n empty_note) j ≡ some other → IsUnused other
    one zero j other e = absurd (some-ne-none other (sym e))
    one (suc n) zero other e = subst IsUnused (some-injective empty_note other e) (refl, refl, refl)
    one (suc n) (suc j) other e = one n j other e
another (suc n) (suc i) zero note other apart e = subst IsUnused (some-injective empty_note other e) (refl, refl, refl)
another (suc n) (suc i) (suc j) note other apart e = another n i j note other (λ s. apart (ap suc s)) e

pub ends : (limits : Timeouts) (sets : ℕ) (contents : List (List ℕ)) (seats number : ℕ) (note : Note) → number < seats
    → Keeps limits sets contents (set (replicate seats empty_note) number note)
    → Reaches limits note.taken (parts_in contents ++ note.handed) × All (IsBorne limits note.taken) note.seen
ends limits sets contents seats number note low keeps =
    kept_at_end limits sets contents (set (replicate seats empty_note) number note) number note keeps
    (here (replicate seats empty_note) number empty_note note (in_all seats number empty_note low))
    (λ j other apart at. another seats number j note other apart at)
