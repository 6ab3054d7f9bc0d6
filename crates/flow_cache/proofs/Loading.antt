-- The roots of a set are loaded one after another.
use Rattle.std.proofs.Common.{◌≡◌, ◌≢◌, ℕ, ◌+◌, ◌<◌, Bool, true, false, List, ◌∷◌, Some, set, unwrap_or, sym, ap, ◌∙◌}
use Rattle.std.proofs.Common.{subst, arith}
use Rattle.std.proofs.lemmas.Grind.{common_steps}
use Rattle.std.proofs.lemmas.List.{get_or-set_other}
use mathlib.Core.Logic.{dite}
use native.Mathlib.Decide.{ℕ_discrete}
use Rattle.pebr_core.specs.declared.kinds.ShieldAt.TheVariants as shield
use Rattle.pebr_core.specs.State.{Seat, has, shield_at, slot_under}
use Rattle.pebr_words.specs.Pasts.{Load, History, shown_at}
use Rattle.pebr_roots.specs.Ends.{loaded_seat, loaded_past}
use Rattle.pebr_roots.specs.Under.{slot_at}
use Rattle.flow_cache.specs.Places.{root_of, set_of_root}
use Rattle.flow_cache.specs.Trying.{AreLoaded}

shown_here : (loads : List Load) (root slot : ℕ)
    → shown_at (record { root = root; slot = slot } ∷ loads) root ≡ Some slot
shown_here loads root slot = grind (arith, common_steps)

shown_else : (loads : List Load) (root slot other : ℕ) → root ≢ other
    → shown_at (record { root = root; slot = slot } ∷ loads) other ≡ shown_at loads other
shown_else loads root slot other apart = grind (arith, common_steps)

seen_more : (seen : List Bool) (slot other : ℕ) → has (set seen slot true) slot ≡ true → has seen other ≡ true
    → has (set seen slot true) other ≡ true
seen_more seen slot other is h = dite (ℕ_discrete other slot)
    (λ (same : other ≡ slot). subst (λ n. has (set seen slot true) n ≡ true) (sym same) is)
    (λ (apart : other ≢ slot). get_or-set_other seen slot other true false apart ∙ h)

pub set_is : (set place : ℕ) → place < 4 → set_of_root (root_of set place) ≡ set
set_is set place low = omega (arith, low)

pub loaded_more : (set place slot me : ℕ) (known : Seat) (past : History)
    → shield_at (loaded_seat place slot known) place ≡ shield.Set slot
    → has (loaded_seat place slot known).seen slot ≡ true → AreLoaded set place known past
    → AreLoaded set (place + 1) (loaded_seat place slot known)
    (loaded_past me (root_of set place) place slot known past)
loaded_more set place slot me known past is_set is_seen before k lt = dite (ℕ_discrete k place)
    (λ (here : k ≡ place). (let is : slot_at now place ≡ slot = ap (λ s. unwrap_or (slot_under s) 0) is_set in
    subst At (sym here) (
      is_set ∙ ap (λ n. shield.Set n) (sym is),
      subst (λ n. has now.seen n ≡ true) (sym is) is_seen,
      (
        shown_here past.loads (root_of set place) slot ∙ ap (λ n. Some n) (sym is),
        shown_here past.shown (root_of set place) slot ∙ ap (λ n. Some n) (sym is),
      ),
    )))
    (λ (apart : k ≢ place). (let same : shield_at now k ≡ shield_at known k =
    get_or-set_other known.shields place k (shield.Set slot) shield.Down apart in
    let is : slot_at now k ≡ slot_at known k = ap (λ s. unwrap_or (slot_under s) 0) same in
    let b = before k (omega (arith, lt, apart)) in
    let ne : root_of set place ≢ root_of set k = λ e. apart (omega (arith, e)) in (
      same ∙ b.0 ∙ ap (λ n. shield.Set n) (sym is),
      subst (λ n. has now.seen n ≡ true) (sym is)
          (seen_more known.seen slot (slot_at known k) is_seen b.1),
      (
        shown_else past.loads (root_of set place) slot (root_of set k) ne ∙ b.2.0 ∙ ap (λ n. Some n) (sym is),
        shown_else past.shown (root_of set place) slot (root_of set k) ne ∙ b.2.1 ∙ ap (λ n. Some n) (sym is),
      ),
    )))
  where
    now : Seat
    now = loaded_seat place slot known

    new : History
    new = loaded_past me (root_of set place) place slot known past

    At : ℕ → Type 0
    At n = (shield_at now n ≡ shield.Set (slot_at now n)) × (has now.seen (slot_at now n) ≡ true)
        × ((shown_at new.loads (root_of set n) ≡ Some (slot_at now n))
        × (shown_at new.shown (root_of set n) ≡ Some (slot_at now n)))
