-- The step Write by itself.
use Rattle.std.proofs.Common.{◌≡◌, ◌≢◌, ℕ, suc, List, [], ◌∷◌, ◌<◌, le_refl, Bool, true, false, length, get_or, sym}
use Rattle.std.proofs.Common.{refl, ap, ◌∙◌, subst, inl, arith, eqb, eq-eqb, set}
use Rattle.std.proofs.lemmas.Bool.{false≢true, lt-ltb, eqb-true}
use Rattle.std.specs.Prelude.{◌&&◌, if◌then◌else◌, Some, None}
use mathlib.Core.Logic.{dite}
use native.Mathlib.Decide.{ℕ_discrete}
use Rattle.pebr_core.specs.declared.kinds.Shape.{Shape}
use Rattle.pebr_core.specs.State.{State, Seat, seat_at, has, word_at, slot_count, root_at}
use Rattle.pebr_core.specs.Steps.{after, is_seat, is_slot, is_word}
use Rattle.pebr_words.specs.Places.{Place, epoch_word, status_word, shield_word, root_word, slot_word}
use Rattle.pebr_words.specs.Shown.{sign_at, of_number}
use Rattle.pebr_words.specs.Ruled.{contents}
use Rattle.pebr_words.specs.Facts.{IsMadeBy, IsKeptBy, IsRecalledBy}
use Rattle.std.proofs.lemmas.List.{get_or-set_same, get_or-set_other}
use Rattle.pebr_words.specs.Pasts.{History}
use Rattle.atomic_table.proofs.Lists.{set_again}
use Rattle.pebr_core.specs.declared.kinds.Step.TheVariants as step
use Rattle.pebr_words.proofs.StepLemmas.{and_true, is_one}
use Rattle.pebr_words.proofs.Recalling.{fresh_known}
use Rattle.std.proofs.lemmas.Option.{same_Some}
use Rattle.pebr_words.specs.Pasts.{written_at}
use Rattle.std.proofs.lemmas.List.{set_past}
use Rattle.std.proofs.Common.{map, lt_of_not-le}
use native.Mathlib.Decide.{dec_le}

module _ (core : State) (slot word value : ℕ) where
  abbrev written : State
  written = record core { words = set core.words slot (set (get_or core.words slot []) word value) }

  here : slot < length core.words → word < length (get_or core.words slot []) → word_at written slot word ≡ value
  here in_slots in_row = ap (λ l. get_or l word 0)
      (get_or-set_same core.words slot (set (get_or core.words slot []) word value) [] in_slots)
      ∙ get_or-set_same (get_or core.words slot []) word value 0 in_row

  -- each other word stays
  pub elsewhere : (s x : ℕ) → (s ≡ slot → x ≡ word → ⊥) → word_at written s x ≡ word_at core s x
  elsewhere s x apart = dite (ℕ_discrete s slot)
      (λ (same : s ≡ slot). subst
      (λ n. get_or (get_or (set core.words slot (set (get_or core.words slot []) word value)) n []) x 0
      ≡ get_or (get_or core.words n []) x 0) (sym same) (row (λ e. apart same e)))
      (λ (differ : s ≢ slot). ap (λ l. get_or l x 0)
      (get_or-set_other core.words slot s (set (get_or core.words slot []) word value) [] differ))
    where
      row : x ≢ word → get_or (get_or (set core.words slot (set (get_or core.words slot []) word value)) slot []) x 0
          ≡ get_or (get_or core.words slot []) x 0
      row differ = dite (dec_le (length core.words) slot)
          (λ past. ap (λ l. get_or (get_or l slot []) x 0)
          (set_past core.words slot (set (get_or core.words slot []) word value) past))
          (λ near. ap (λ l. get_or l x 0)
          (get_or-set_same core.words slot (set (get_or core.words slot []) word value) [] (lt_of_not-le near))
          ∙ get_or-set_other (get_or core.words slot []) word x value 0 differ)

  -- the content of each other slot stays
  pub row_elsewhere : (s : ℕ) → s ≢ slot → get_or written.words s [] ≡ get_or core.words s []
  row_elsewhere s apart = get_or-set_other core.words slot s (set (get_or core.words slot []) word value) [] apart

  signs : (q : Place) → q ≢ slot_word slot word → sign_at written q ≡ sign_at core q
  signs epoch_word apart = refl
  signs (status_word j) apart = refl
  signs (shield_word j k) apart = refl
  signs (root_word r) apart = refl
  signs (slot_word s x) apart = ap of_number
      (elsewhere s x (λ a b. apart (ap (λ n. slot_word n x) a ∙ ap (slot_word slot) b)))

pub write_by : (shape : Shape) (number slot word value : ℕ) (known : Seat) → slot < slot_count shape
    → word < shape.width → has known.fresh slot ≡ true
    → IsMadeBy shape (step.Write number slot word value) number known (λ _. value)
write_by shape number slot word value known in_slots in_width fresh core found is_shape sound inside as_known told =
    let core_slot : slot < slot_count core.shape = subst (λ (s : Shape). slot < slot_count s) (sym is_shape) in_slots in
    let core_word : word < core.shape.width = subst (λ (s : Shape). word < s.width) (sym is_shape) in_width in (
      and_true (is_seat core number && is_slot core slot && is_word core word) (has (seat_at core number).fresh slot)
          (and_true (is_seat core number && is_slot core slot) (is_word core word)
          (and_true (is_seat core number) (is_slot core slot) (is_one shape core number is_shape sound inside)
          (lt-ltb slot (slot_count core.shape) core_slot))
          (lt-ltb word core.shape.width core_word))
          (ap (λ l. has l slot) (fresh_known known (seat_at core number) as_known) ∙ fresh),
      record {
        shape = refl;
        told = sym
            (here core slot word value (subst (λ n. slot < n) (sym sound.shape.words) core_slot)
            (subst (λ n. word < n) (sym (sound.shape.width slot core_slot)) core_word));
        signs = signs core slot word value;
        own = as_known;
        others = λ j other apart h. h;
        epoch = le_refl core.epoch;
        ejected = λ j epoch now. inl now;
        answered = refl;
      },
    )

same_map : (f g : ℕ → List ℕ) (xs : List ℕ) → ((k : ℕ) → k < length xs → f (get_or xs k 0) ≡ g (get_or xs k 0))
    → map f xs ≡ map g xs
same_map f g [] each = refl
same_map f g (x ∷ xs) each = ap (λ y. y ∷ map f xs) (each 0 (omega arith))
    ∙ ap (λ l. g x ∷ l) (same_map f g xs (λ k h. each (suc k) (omega (arith, h))))

-- a fresh slot is in no root, so no root's content changes
pub write_kept : {N A : Type 0} (keeps : List (List ℕ) → List N → Type 0)
    (whole : List N → List ℕ → Type 0)
    (after_act : N → A → N) {shape : Shape} (number slot word value : ℕ) {known : Seat} {past : History} (note : N)
    (left : ℕ → ℕ)
    → slot < slot_count shape → has known.fresh slot ≡ true
    → IsKeptBy keeps whole after_act shape (step.Write number slot word value) None number known past note left
write_kept keeps whole after_act {shape} number slot word value {known} note left in_slots fresh law core notes found
    before kept at are_whole =
    let core_slot : slot < slot_count core.shape =
    subst (λ (s : Shape). slot < slot_count s) (sym before.shape_is) in_slots in
    let is_fresh : has (seat_at core number).fresh slot ≡ true =
    ap (λ l. has l slot) (fresh_known known (seat_at core number) before.as_known) ∙ fresh in
    let alone = law.fresh core number slot before.sound core_slot is_fresh in
    let same : contents (after core (step.Write number slot word value)) ≡ contents core =
    same_map (λ s. get_or (written core slot word value).words s []) (λ s. get_or core.words s []) core.roots
    (λ k h. row_elsewhere core slot word value (root_at core k)
    (alone.roots k (subst (λ n. k < n) before.sound.shape.roots h))) in (
      subst (λ c. keeps c (set notes number note)) (sym same)
          (subst (keeps (contents core)) (sym (set_again notes number note at)) kept),
      λ s low nowhere. subst (λ ns. whole ns (get_or (written core slot word value).words s []))
          (sym (set_again notes number note at)) (subst (whole notes)
          (sym (row_elsewhere core slot word value s
          (λ e. false≢true (sym (nowhere number) ∙ (ap (has (seat_at core number).fresh) e ∙ is_fresh)))))
          (are_whole s low nowhere)),
    )

pub write_recalled : {shape : Shape} (number slot word value : ℕ) {known : Seat} {past : History} (left : ℕ → ℕ)
    → slot < slot_count shape → word < shape.width → has known.fresh slot ≡ true
    → IsRecalledBy shape (step.Write number slot word value) number known past left
write_recalled {shape} number slot word value {known} {past} left in_slots in_width fresh law core found before =
    record {
      reads = λ read in_reads used. law.words core
          (step.Write number slot word value) before.sound before.enabled number read.slot read.word used
          ∙ before.recalls.reads read in_reads used;
      written = λ s x v e. was_written s x v (eqb slot s) (eqb word x) refl refl e;
      shown = before.recalls.shown;
      lost = before.recalls.lost;
    }
  where
    is_fresh : has (seat_at core number).fresh slot ≡ true
    is_fresh = ap (λ l. has l slot) (fresh_known known (seat_at core number) before.as_known) ∙ fresh

    core_slot : slot < slot_count core.shape
    core_slot = subst (λ (s : Shape). slot < slot_count s) (sym before.shape_is) in_slots

    core_word : word < core.shape.width
    core_word = subst (λ (s : Shape). word < s.width) (sym before.shape_is) in_width

    old : (s x v : ℕ) → (s ≡ slot → x ≡ word → ⊥) → written_at past.written s x ≡ Some v
        → (has (seat_at core number).fresh s ≡ true) × (word_at (written core slot word value) s x ≡ v)
    old s x v apart e = let was = before.recalls.written s x v e in
        (was.0, elsewhere core slot word value s x apart ∙ was.1)

    was_written : (s x v : ℕ) (a b : Bool) → eqb slot s ≡ a → eqb word x ≡ b
        → (if a && b then Some value else written_at past.written s x) ≡ Some v
        → (has (seat_at core number).fresh s ≡ true) × (word_at (written core slot word value) s x ≡ v)
    was_written s x v true true is_s is_x e = (
      ap (has (seat_at core number).fresh) (sym (eqb-true slot s is_s)) ∙ is_fresh,
      ap (λ n. word_at (written core slot word value) n x) (sym (eqb-true slot s is_s))
          ∙ (ap (word_at (written core slot word value) slot) (sym (eqb-true word x is_x))
          ∙ (here core slot word value (subst (λ n. slot < n) (sym before.sound.shape.words) core_slot)
          (subst (λ n. word < n) (sym (before.sound.shape.width slot core_slot)) core_word)
          ∙ same_Some value v e)),
    )
    was_written s x v true false is_s is_x e = old s x v (λ _ same. false≢true (sym is_x ∙ eq-eqb word x (sym same))) e
    was_written s x v false b is_s is_x e = old s x v (λ same _. false≢true (sym is_s ∙ eq-eqb slot s (sym same))) e
