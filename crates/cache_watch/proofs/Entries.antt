-- The entry of a place of the set that was read.
use Rattle.std.proofs.Common.{◌≡◌, ◌<◌, ℕ, List, Option, Some, sym, ap, ◌∙◌, subst}
use Rattle.flow_parts.specs.declared.fragment.Fragment.{Fragment}
use Rattle.cache_face.specs.Choice.{entry_at}
use Rattle.cache_face.specs.Keeping.{entry_of}
use Rattle.pebr_core.specs.State.{Seat}
use Rattle.pebr_words.specs.Pasts.{Load, History, shown_at}
use Rattle.pebr_roots.specs.Under.{slot_at, is_valid, is_valid_at}
use Rattle.flow_cache.specs.Places.{root_of}
use Rattle.flow_cache.specs.Reading.{words_read, entries_read}
use Rattle.flow_cache.specs.Trying.{AreProtected, HasTen, HasMore}
use Rattle.flow_cache.proofs.Sets.{at_place, words_stay, ten_stay}
use Rattle.cache_watch.specs.Holding.{IsHolding}

-- what the shields are is what stands under them
slot_still : (old new : Seat) (place : ℕ) → new.shields ≡ old.shields → slot_at new place ≡ slot_at old place
slot_still old new place same = ap (λ shields. slot_at (record old { shields = shields }) place) same

-- a fragment that was found among the entries read is under its shield
pub holds : (set place : ℕ) (fragment : Fragment) (known known' : Seat) (past old past' : History)
    (entries : List (Option Fragment)) → place < 4 → AreProtected set known old → entries ≡ entries_read past set
    → entry_at entries place ≡ Some fragment → past.loads ≡ old.loads
    → ((p : ℕ) → p < 4 → HasTen past.reads (slot_at known p))
    → known'.shields ≡ known.shields → past'.reads ≡ past.reads
    → IsHolding place fragment known' past'
holds set place fragment known known' past old past' entries low protected is found loads ten shields reads =
    let p = protected.each place low in
    let slot : slot_at known' place ≡ slot_at known place = slot_still known known' place shields in
    let shown : (p : ℕ) → p < 4 → shown_at past.loads (root_of set p) ≡ Some (slot_at known p) =
    λ p lt. ap (λ (ls : List Load). shown_at ls (root_of set p)) loads ∙ (protected.each p lt).1.0 in
    let entry : entry_of (words_read past.reads (slot_at known place)) ≡ Some fragment =
    sym (at_place past set (slot_at known) shown ten place low) ∙ ap (λ es. entry_at es place) (sym is) ∙ found in
    record {
      within = low;
      valid = ap (λ shields. is_valid_at (record known { shields = shields }) place) shields ∙ ap is_valid p.0;
      ten = subst (λ rs. HasTen rs (slot_at known' place)) (sym reads)
          (subst (HasTen past.reads) (sym slot) (ten place low));
      entry = ap (λ rs. entry_of (words_read rs (slot_at known' place))) reads
          ∙ ap (λ s. entry_of (words_read past.reads s)) slot ∙ entry;
    }

-- what is held is read again
pub again : (place : ℕ) (fragment : Fragment) (known : Seat) (old new : History) (result : Option Fragment)
    → IsHolding place fragment known old → HasMore old.reads new.reads
    → result ≡ entry_of (words_read new.reads (slot_at known place)) → result ≡ Some fragment
again place fragment known old new result h more is =
    is ∙ ap entry_of (sym (words_stay old.reads new.reads (slot_at known place) more h.ten)) ∙ h.entry

pub still_holding : (place : ℕ) (fragment : Fragment) (known known' : Seat) (old new : History)
    → IsHolding place fragment known old → known' ≡ known → HasMore old.reads new.reads
    → IsHolding place fragment known' new
still_holding place fragment known known' old new h same more =
    subst (λ k. IsHolding place fragment k new) (sym same) (record {
      within = h.within;
      valid = h.valid;
      ten = ten_stay old.reads new.reads (slot_at known place) more h.ten;
      entry = ap entry_of (sym (words_stay old.reads new.reads (slot_at known place) more h.ten)) ∙ h.entry;
    })
