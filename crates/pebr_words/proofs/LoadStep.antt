-- The step Load by itself.
use Rattle.std.proofs.Common.{◌≡◌, ◌≢◌, ℕ, zero, suc, List, [], ◌∷◌, ◌<◌, Bool, true, false, sym, refl, ap, ◌∙◌, subst}
use Rattle.std.proofs.Common.{inl, inr, eqb, eq-eqb, ⊎_elim}
use Rattle.std.proofs.lemmas.Bool.{false≢true, lt-ltb, eqb-true}
use Rattle.std.specs.Prelude.{◌&&◌, not, if◌then◌else◌, Some, None}
use Rattle.pebr_core.specs.declared.kinds.Shape.{Shape}
use Rattle.pebr_core.specs.State.{Seat, seat_at, is_out, has, word_at, root_at}
use Rattle.pebr_core.specs.Steps.{after, is_seat, is_shielded, is_root}
use Rattle.pebr_core.specs.Kept.{Uses}
use mathlib.Core.Option.{some-ne-none, some-injective, some}
use Rattle.pebr_words.specs.Making.{IsAsKnown}
use Rattle.pebr_words.specs.Ruled.{IsIn}
use Rattle.pebr_words.specs.Facts.{IsMadeBy, IsKeptBy, IsRecalledBy}
use Rattle.pebr_words.specs.Pasts.{History, Read}
use lib.ListN.{get_elem?}
use Rattle.pebr_core.specs.declared.kinds.Step.TheVariants as step
use Rattle.pebr_core.specs.declared.kinds.Answer.TheVariants as answer
use Rattle.pebr_core.specs.declared.kinds.ShieldAt.TheVariants as shield
use Rattle.pebr_words.proofs.Signs.{seat_here, seat_signs}
use Rattle.pebr_words.proofs.StepLemmas.{and_true, in_list, is_one, in_known, own_made, stays_known}
use Rattle.pebr_words.proofs.Makes.{kept_same}
use Rattle.pebr_words.proofs.Recalling.{fresh_known, seen_known, shielded_uses, seen_either}
use Rattle.pebr_core.specs.Steps.{after_load}
use Rattle.pebr_words.specs.Pasts.{has_hold, without_slot, shown_at}
use Rattle.std.proofs.lemmas.Option.{same_Some}
use Rattle.std.specs.Prelude.{◌||◌}

pub load_by : (shape : Shape) (number root : ℕ) (known : Seat) → root < shape.roots → is_out known.status ≡ false
    → IsMadeBy shape (step.Load number root) number known (λ n. n)
load_by shape number root known in_roots in' core found is_shape sound inside as_known told =
    let seat : Seat = seat_at core number in
    let list = in_list shape core number is_shape sound inside in
    let new : Seat = after_load (root_at core root) seat in (
      and_true (is_seat core number && is_root core root) (not (is_out seat.status))
          (and_true (is_seat core number) (is_root core root) (is_one shape core number is_shape sound inside)
          (lt-ltb root core.shape.roots (subst (λ (s : Shape). root < s.roots) (sym is_shape) in_roots)))
          (ap not (in_known known seat in' as_known)),
      own_made core (step.Load number root) found found known new list
          told
          (λ q _. seat_signs core number new list q (λ _. refl) (λ k _. refl))
          (subst (λ n. IsAsKnown (after_load n known) new) (sym told)
          (stays_known (after_load (root_at core root)) (λ s status. refl) (λ s. refl) known seat as_known))
          (λ epoch h. h)
          (ap answer.Slot told),
    )

-- a slot that the seat used before, where it had hold of it if it is the one loaded
held_use : (known actual : Seat) (slot used : ℕ) → IsAsKnown known actual → (used ≡ slot → has_hold known slot ≡ true)
    → Uses (after_load slot actual) used → Uses actual used
held_use known actual slot used as_known hold (inl valid) = inl valid
held_use known actual slot used as_known hold (inr (epoch, is_in, seen)) = ⊎_elim
    (λ (same : used ≡ slot). pick same (has known.seen slot) refl (hold same))
    (λ (before : has actual.seen used ≡ true). inr (epoch, is_in, before))
    (seen_either actual.seen slot used seen)
  where
    pick : used ≡ slot → (b : Bool) → has known.seen slot ≡ b → (b || is_shielded known slot) ≡ true → Uses actual used
    pick same true is h =
        inr (epoch, is_in, ap (has actual.seen) same ∙ (ap (λ l. has l slot) (seen_known known actual as_known) ∙ is))
    pick same false is h = let valid = shielded_uses known actual slot as_known h in
        inl (valid.0, valid.1 ∙ ap shield.Valid (sym same))

-- a read of another slot
other_read : (slot : ℕ) (reads : List Read) (read : Read) (place : ℕ)
    → get_elem? (without_slot slot reads) place ≡ some read → IsIn read reads × (read.slot ≢ slot)
other_read slot [] read place e = absurd (some-ne-none read (sym e))
other_read slot (x ∷ xs) read place e = pick (eqb x.slot slot) refl e (λ n h. other_read slot xs read n h)
  where
    pick : (b : Bool) → eqb x.slot slot ≡ b → get_elem?
        (if b then without_slot slot xs else x ∷ without_slot slot xs) place ≡ some read
        → ((n : ℕ) → get_elem? (without_slot slot xs) n ≡ some read → IsIn read xs × (read.slot ≢ slot))
        → IsIn read (x ∷ xs) × (read.slot ≢ slot)
    pick true is h more = let rest = more place h in ((suc rest.0.0, rest.0.1), rest.1)
    pick false is h more = at place h
      where
        at : (n : ℕ) → get_elem? (x ∷ without_slot slot xs) n ≡ some read → IsIn read (x ∷ xs) × (read.slot ≢ slot)
        at zero g = (
          (0, g),
          λ same. false≢true
              (sym is ∙ eq-eqb x.slot slot (ap (λ (r : Read). r.slot) (some-injective x read g) ∙ same)),
        )
        at (suc n) g = let rest = more n g in ((suc rest.0.0, rest.0.1), rest.1)

pub load_kept : {N A : Type 0} (keeps : List (List ℕ) → List N → Type 0)
    (whole : List N → List ℕ → Type 0)
    (after_act : N → A → N) {shape : Shape} (number root : ℕ) {known : Seat} {past : History} (note : N) (left : ℕ → ℕ)
    → IsKeptBy keeps whole after_act shape (step.Load number root) None number known past note left
load_kept keeps whole after_act number root note left =
    kept_same keeps whole after_act (step.Load number root) None number note left (λ core. refl) (λ core. refl)
    (λ found. refl) (λ shape found slot h. h)

-- what was read of a slot without hold of it is forgotten, and what the root showed is remembered
pub load_recalled : {shape : Shape} (number root : ℕ) {known : Seat} {past : History} (left : ℕ → ℕ)
    → IsRecalledBy shape (step.Load number root) number known past left
load_recalled {shape} number root {known} {past} left law core found before = record {
  reads = λ read in_reads used. reads (has_hold known found) refl read in_reads (in_actual read.slot used);
  written = λ slot word value e.
      let was = before.recalls.written slot word value e in (
        ap (λ f. has f slot)
            (fresh_known (after_load found known) (seat_at (after core (step.Load number root)) number) before.made.own)
            ∙ (ap (λ f. has f slot) (sym (fresh_known known (seat_at core number) before.as_known)) ∙ was.0),
        was.1,
      );
  shown = λ one r slot e. shown one r slot (eqb root r) refl e;
  lost = before.recalls.lost;
}
  where
    seat : Seat
    seat = seat_at core number

    in_actual : (slot : ℕ) → Uses (seat_at (after core (step.Load number root)) number) slot
        → Uses (after_load found (seat_at core number)) slot
    in_actual slot used = subst (λ n. Uses (after_load n (seat_at core number)) slot) (sym before.told)
        (subst (λ (s : Seat). Uses s slot)
        (seat_here core number (after_load (root_at core root) (seat_at core number))
        (in_list shape core number before.shape_is before.sound before.inside)) used)

    reads : (b : Bool) → has_hold known found ≡ b → (read : Read)
        → IsIn read (if b then past.reads else without_slot found past.reads)
        → Uses (after_load found (seat_at core number)) read.slot → word_at core read.slot read.word ≡ read.value
    reads true hold read in_reads used = before.recalls.reads read in_reads
        (held_use known (seat_at core number) found read.slot before.as_known (λ _. hold) used)
    reads false hold read in_reads used =
        let other = other_read found past.reads read in_reads.0 in_reads.1 in
        before.recalls.reads read other.0
        (held_use known (seat_at core number) found read.slot before.as_known (λ same. absurd (other.1 same)) used)

    shown : core.shape.seats ≡ 1 → (r slot : ℕ) (b : Bool) → eqb root r ≡ b
        → (if b then Some found else shown_at past.shown r) ≡ Some slot → root_at core r ≡ slot
    shown one r slot true is e = ap (root_at core) (sym (eqb-true root r is))
        ∙ (sym before.told ∙ same_Some found slot e)
    shown one r slot false is e = before.recalls.shown one r slot e
