-- The step Read by itself.
use Rattle.std.proofs.Common.{◌≡◌, ℕ, zero, suc, List, ◌∷◌, ◌<◌, le_refl, true, sym, refl, ap, ◌∙◌, subst, inl}
use Rattle.std.proofs.lemmas.Bool.{lt-ltb}
use Rattle.std.specs.Prelude.{◌&&◌, None}
use Rattle.pebr_core.specs.declared.kinds.Shape.{Shape}
use Rattle.pebr_core.specs.State.{Seat, seat_at, word_at, slot_count}
use Rattle.pebr_core.specs.Steps.{is_seat, is_slot, is_word, is_shielded}
use Rattle.pebr_core.specs.Kept.{Uses}
use mathlib.Core.Option.{some-injective}
use Rattle.pebr_words.specs.Ruled.{IsIn}
use Rattle.pebr_words.specs.Facts.{IsMadeBy, IsKeptBy, IsRecalledBy}
use Rattle.pebr_words.specs.Pasts.{History, Read}
use Rattle.pebr_core.specs.declared.kinds.Step.TheVariants as step
use Rattle.pebr_core.specs.declared.kinds.Answer.TheVariants as answer
use Rattle.pebr_words.proofs.StepLemmas.{and_true, is_one}
use Rattle.pebr_words.proofs.Makes.{kept_same}
use Rattle.pebr_words.proofs.Recalling.{shields_known}

pub read_by : (shape : Shape) (number slot word : ℕ) (known : Seat) → slot < slot_count shape → word < shape.width
    → is_shielded known slot ≡ true
    → IsMadeBy shape (step.Read number slot word) number known (λ n. n)
read_by shape number slot word known in_slots in_width shielded core found is_shape sound inside as_known told = (
  and_true (is_seat core number && is_slot core slot && is_word core word) (is_shielded (seat_at core number) slot)
      (and_true (is_seat core number && is_slot core slot) (is_word core word)
      (and_true (is_seat core number) (is_slot core slot) (is_one shape core number is_shape sound inside)
      (lt-ltb slot (slot_count core.shape) (subst (λ (s : Shape). slot < slot_count s) (sym is_shape) in_slots)))
      (lt-ltb word core.shape.width (subst (λ (s : Shape). word < s.width) (sym is_shape) in_width)))
      (ap (λ l. is_shielded (record known { shields = l }) slot) (shields_known known (seat_at core number) as_known)
      ∙ shielded),
  record {
    shape = refl;
    told = told;
    signs = λ q apart. refl;
    own = as_known;
    others = λ j other apart h. h;
    epoch = le_refl core.epoch;
    ejected = λ j epoch now. inl now;
    answered = ap answer.Word told;
  },
)

pub read_kept : {N A : Type 0} (keeps : List (List ℕ) → List N → Type 0)
    (whole : List N → List ℕ → Type 0)
    (after_act : N → A → N) {shape : Shape} (number slot word : ℕ) {known : Seat} {past : History} (note : N)
    (left : ℕ → ℕ)
    → IsKeptBy keeps whole after_act shape (step.Read number slot word) None number known past note left
read_kept keeps whole after_act number slot word note left =
    kept_same keeps whole after_act (step.Read number slot word) None number note left (λ core. refl) (λ core. refl)
    (λ found. refl) (λ shape found s h. h)

-- a read has the word that was found
pub read_recalled : {shape : Shape} (number slot word : ℕ) {known : Seat} {past : History} (left : ℕ → ℕ)
    → IsRecalledBy shape (step.Read number slot word) number known past left
read_recalled number slot word {known} {past} left law core found before = record {
  reads = was_read;
  written = before.recalls.written;
  shown = before.recalls.shown;
  lost = before.recalls.lost;
}
  where
    was_read : (read : Read) → IsIn read (record { slot = slot; word = word; value = found } ∷ past.reads)
        → Uses (seat_at core number) read.slot → word_at core read.slot read.word ≡ read.value
    was_read read (zero, e) used = let new : Read = record { slot = slot; word = word; value = found } in
        subst (λ (r : Read). word_at core r.slot r.word ≡ r.value) (some-injective new read e) (sym before.told)
    was_read read (suc place, e) used = before.recalls.reads read (place, e) used
