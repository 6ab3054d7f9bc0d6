-- What a history has after one more step.
use Rattle.std.proofs.Common.{◌≡◌, ◌≢◌, ℕ, suc, Bool, true, false, List, [], ◌∷◌, Option, Some, refl, sym, ap, ◌∙◌}
use Rattle.std.proofs.Common.{length, subst, arith}
use Rattle.std.specs.Prelude.{◌==◌, if◌then◌else◌}
use Rattle.std.proofs.lemmas.Grind.{common_steps}
use mathlib.Core.Logic.{dite}
use native.Mathlib.Decide.{ℕ_discrete}
use Rattle.pebr_core.specs.State.{Seat}
use Rattle.pebr_core.specs.declared.kinds.Step.TheVariants as step
use Rattle.pebr_core.specs.declared.kinds.Answer.TheVariants as answer
use Rattle.pebr_words.specs.Pasts.{Read, History, shown_at, is_shown, found_other, past_after, written_at}
use Rattle.pebr_words.specs.Ruled.{IsIn}
use Rattle.flow_parts.specs.declared.fragment.Fragment.{Fragment}
use Rattle.flow_parts.specs.declared.timeouts.Timeouts.{Timeouts}
use Rattle.cache_face.specs.declared.metered.How.{How}
use Rattle.cache_face.specs.Choice.{IsChoice}
use Rattle.flow_cache.specs.Reading.{entries_read, set_read}
use Rattle.flow_cache.specs.Trying.{HasMore, HasChosen}
use Rattle.cache_face.specs.Meaning.{Written}
use Rattle.pebr_words.specs.Pasts.{Replaced}
use Rattle.flow_cache.specs.Reading.{written_in}
use Rattle.std.specs.Prelude.{MatchOption}

-- a word that was read or written, and any other
pub word_here : (reads : List Read) (slot word value : ℕ)
    → written_at (record { slot = slot; word = word; value = value } ∷ reads) slot word ≡ Some value
word_here reads slot word value = grind (arith, common_steps)

pub word_else : (reads : List Read) (slot word value other : ℕ) → word ≢ other
    → written_at (record { slot = slot; word = word; value = value } ∷ reads) slot other ≡ written_at reads slot other
word_else reads slot word value other apart = grind (arith, common_steps)

slot_else : (reads : List Read) (slot word value other which : ℕ) → slot ≢ other
    → written_at (record { slot = slot; word = word; value = value } ∷ reads) other which ≡ written_at reads other which
slot_else reads slot word value other which apart = grind (arith, common_steps)

-- what was last read of a word was read
pub found_read : (reads : List Read) (slot word value : ℕ) → written_at reads slot word ≡ Some value
    → (read : Read) × IsIn read reads × (read.slot ≡ slot) × (read.word ≡ word) × (read.value ≡ value)
found_read [] slot word value e = absurd cc
found_read (r ∷ reads) slot word value e = dite (ℕ_discrete r.slot slot)
    (λ (same : r.slot ≡ slot). dite (ℕ_discrete r.word word)
    (λ (here : r.word ≡ word). (
      r,
      (0, refl),
      same,
      here,
      (let f : written_at (r ∷ reads) slot word ≡ Some r.value = grind (arith, common_steps) in
          let g : Some r.value ≡ Some value = sym f ∙ e in cc),
    ))
    (λ (apart : r.word ≢ word). later
    (found_read reads slot word value (let f : written_at (r ∷ reads) slot word ≡ written_at reads slot word =
    grind (arith, common_steps) in sym f ∙ e))))
    (λ (apart : r.slot ≢ slot). later
    (found_read reads slot word value (let f : written_at (r ∷ reads) slot word ≡ written_at reads slot word =
    grind (arith, common_steps) in sym f ∙ e)))
  where
    later : (read : Read) × IsIn read reads × (read.slot ≡ slot) × (read.word ≡ word) × (read.value ≡ value)
        → (read : Read) × IsIn read (r ∷ reads) × (read.slot ≡ slot) × (read.word ≡ word) × (read.value ≡ value)
    later f = (f.0, (suc f.1.0, f.1.1), f.2, f.3, f.4)

-- a word that is read again has the same value
pub read_more : (reads : List Read) (slot word value : ℕ)
    → ((read : Read) → IsIn read reads → read.slot ≡ slot → read.word ≡ word → value ≡ read.value)
    → HasMore reads (record { slot = slot; word = word; value = value } ∷ reads)
read_more reads slot word value again s w v e = dite (ℕ_discrete slot s)
    (λ (same : slot ≡ s). dite (ℕ_discrete word w)
    (λ (here : word ≡ w). (let f = found_read reads s w v e in
    let is : value ≡ v = again f.0 f.1 (f.2 ∙ sym same) (f.3 ∙ sym here) ∙ f.4 in
    let g : written_at (record { slot = slot; word = word; value = value } ∷ reads) s w ≡ Some value =
    grind (arith, common_steps) in g ∙ ap (λ n. Some n) is))
    (λ (apart : word ≢ w). (let g : written_at (record { slot = slot; word = word; value = value } ∷ reads) s w
    ≡ written_at reads s w = grind (arith, common_steps) in g ∙ e)))
    (λ (apart : slot ≢ s). slot_else reads slot word value s w apart ∙ e)

pub more_more : (one two three : List Read) → HasMore one two → HasMore two three → HasMore one three
more_more one two three a b slot word value e = b slot word value (a slot word value e)

-- a replacement that found another slot is a lost try
pub lost_here : (i root old new : ℕ) (known : Seat) (past : History) → shown_at past.shown root ≡ Some old
    → past.has_lost ≡ false
    → (past_after (step.Replace i root old new) answer.Other known past).lost ≡ found_other root ∷ past.lost
lost_here i root old new known past shown unlost =
    let same : (old == old) ≡ true = grind (arith, common_steps) in
    let is : is_shown (shown_at past.shown root) old ≡ true = ap (λ o. is_shown o old) shown ∙ same in
    let lost : History = if past.has_lost then past
    else record past { lost = found_other root ∷ past.lost; has_lost = true } in
    ap (λ (b : Bool). (if b then lost else past).lost) is
    ∙ ap (λ (b : Bool). (if b then past else record past { lost = found_other root ∷ past.lost; has_lost = true }).lost)
    unlost

-- the entries that were read are the same while nothing is loaded and read
entries_same : (old new : History) (set : ℕ) → new.loads ≡ old.loads → new.reads ≡ old.reads
    → entries_read new set ≡ entries_read old set
entries_same old new set loads reads = ap (λ ls. entries_read (record new { loads = ls }) set) loads
    ∙ ap (λ rs. entries_read (record old { reads = rs }) set) reads

pub chosen_of : (limits : Timeouts) (set : ℕ) (old new : History) (own kept : Fragment) (how : How) (place : ℕ)
    (out : Option Fragment) (entries : List (Option Fragment)) → set_read old.loads ≡ set
    → length entries ≡ 4 → entries ≡ entries_read old set
    → IsChoice limits entries own how place out kept → new.loads ≡ old.loads → new.reads ≡ old.reads
    → written_in new.put ≡ Some (record { place = place; kept = kept })
    → HasChosen limits set new own how out
chosen_of limits set old new own kept how place out entries last four is chosen loads reads wrote = record {
  last = ap set_read loads ∙ last;
  four = ap length (entries_same old new set loads reads ∙ sym is) ∙ four;
  chosen = subst
      (λ (w : Option Written). MatchOption w ⊥
      (λ wrote. IsChoice limits (entries_read new set) own how wrote.place out wrote.kept)) (sym wrote)
      (subst (λ es. IsChoice limits es own how place out kept)
      (is ∙ sym (entries_same old new set loads reads)) chosen);
}

pub chosen_still : (limits : Timeouts) (set : ℕ) (old new : History) (own : Fragment) (how : How)
    (out : Option Fragment) → HasChosen limits set old own how out → new.loads ≡ old.loads → new.reads ≡ old.reads
    → new.put ≡ old.put → HasChosen limits set new own how out
chosen_still limits set old new own how out h loads reads put = record {
  last = ap set_read loads ∙ h.last;
  four = ap length (entries_same old new set loads reads) ∙ h.four;
  chosen = subst
      (λ (p : Option Replaced). MatchOption (written_in p) ⊥
      (λ wrote. IsChoice limits (entries_read new set) own how wrote.place out wrote.kept)) (sym put)
      (subst (λ es. MatchOption (written_in old.put) ⊥
      (λ wrote. IsChoice limits es own how wrote.place out wrote.kept))
      (sym (entries_same old new set loads reads)) h.chosen);
}
