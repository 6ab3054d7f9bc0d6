-- What is used of a pass: the slot under a valid shield, the least fresh slot, and that a seat has its number of slots.
use Rattle.std.proofs.Common.{◌≡◌, ◌≢◌, ℕ, zero, suc, ◌<◌, Bool, true, false, List, [], ◌∷◌, length, get_or, set, map}
use Rattle.std.proofs.Common.{replicate, Some, unwrap_or, cond, refl, sym, ap, ◌∙◌, subst, ⊎_elim, arith, count_by}
use Rattle.std.specs.Prelude.{IsTrue, slice_index}
use Rattle.std.specs.List.{list_all}
use Rattle.std.proofs.lemmas.Bool.{false≢true}
use Rattle.std.proofs.lemmas.List.{get_or-map, get_or-set_other, get_or-set_same, map-set}
use Rattle.std.proofs.lemmas.List.Sums.{sum_by-cons}
use mathlib.Core.Logic.{dite}
use native.Mathlib.Decide.{ℕ_discrete}
use Rattle.pebr_core.specs.declared.kinds.Shape.{Shape}
use Rattle.pebr_core.specs.declared.kinds.Stance.{Stance}
use Rattle.pebr_core.specs.declared.kinds.Stance.TheVariants as stance
use Rattle.pebr_core.specs.declared.kinds.ShieldAt.{ShieldAt}
use Rattle.pebr_core.specs.declared.kinds.ShieldAt.TheVariants as shield
use Rattle.pebr_core.specs.declared.kinds.Step.{Step}
use Rattle.pebr_core.specs.declared.kinds.Answer.{Answer}
use Rattle.pebr_core.specs.State.{State, Seat, has, seat_at, is_down, shield_at, slot_under, slots_per_seat}
use Rattle.pebr_core.specs.Steps.{is_enabled, after, validated_shield, checked_shields, after_shield, is_shielded}
use Rattle.pebr_core.specs.Kept.{IsSound, held_count}
use Rattle.pebr_core.specs.Frames.{seat_of, LeavesTheRest}
use Rattle.pebr_core.specs.declared.kinds.Step.TheVariants as step
use Rattle.pebr_core.specs.declared.kinds.Answer.TheVariants as answer
use Rattle.pebr_words.specs.Places.{slot_word, index}
use Rattle.pebr_words.specs.Making.{IsStepOf, IsAsKnown}
use Rattle.pebr_words.specs.Pasts.{Read, History, past_after}
use Rattle.pebr_words.specs.Ruled.{IsIn, IsSure}
use Rattle.pebr_slots.specs.Sets.{least_in}
use Rattle.pebr_shields.specs.declared.checked.Checked.{Checked}
use Rattle.pebr_shields.specs.declared.checked.Checked.TheVariants as found
use Rattle.pebr_shields.specs.Found.{checked_seat}
use Rattle.pebr_roots.specs.Under.{slot_at, is_valid, is_valid_at, AreUnder, starts_of}

valid_as : (s : ShieldAt) → is_valid s ≡ true → s ≡ shield.Valid (unwrap_or (slot_under s) 0)
valid_as shield.Down h = absurd (false≢true h)
valid_as (shield.Set slot) h = absurd (false≢true h)
valid_as (shield.Valid slot) h = refl

pub valid_at : (known : Seat) (place : ℕ) → IsTrue (is_valid_at known place)
    → shield_at known place ≡ shield.Valid (slot_at known place)
valid_at known place h = valid_as (shield_at known place) h

-- what a pass keeps of a valid shield
pub under_valid : (under : List ℕ) (known : Seat) (place : ℕ) → AreUnder under known → IsTrue (is_valid_at known place)
    → slice_index under place ≡ slot_at known place
under_valid under known place h valid = h place (slot_at known place) (ap slot_under (valid_at known place valid))

-- the places where the slots under the shields begin

pub start_at : (shape : Shape) (under starts : List ℕ) (place : ℕ) → place < length under
    → starts ≡ starts_of shape under → slice_index starts place ≡ index shape (slot_word (slice_index under place) 0)
start_at shape under starts place inside h = ap (λ l. get_or l place 0) h
    ∙ get_or-map (λ slot. index shape (slot_word slot 0)) under place 0 0 inside

pub starts_set : (shape : Shape) (under starts : List ℕ) (place slot start : ℕ) → starts ≡ starts_of shape under
    → start ≡ index shape (slot_word slot 0) → set starts place start ≡ starts_of shape (set under place slot)
starts_set shape under starts place slot start h is = ap (λ l. set l place start) h
    ∙ (ap (set (starts_of shape under) place) is
    ∙ sym (map-set (λ n. index shape (slot_word n 0)) under place slot))

-- the least slot of a set that has one
pub least_has : (marks : List Bool) → 0 < count_by (λ mark. mark) marks → has marks (least_in marks) ≡ true
least_has [] h = absurd (omega (arith, h))
least_has (true ∷ marks) h = refl
least_has (false ∷ marks) h = least_has marks
    (let e = sum_by-cons (λ (b : Bool). cond b 1 0) false marks in omega (arith, e, h))

pub least_inside : (marks : List Bool) → 0 < count_by (λ mark. mark) marks → least_in marks < length marks
least_inside [] h = absurd (omega (arith, h))
least_inside (true ∷ marks) h = omega arith
least_inside (false ∷ marks) h = let r =
    least_inside marks (let e = sum_by-cons (λ (b : Bool). cond b 1 0) false marks in omega (arith, e, h)) in
    omega (arith, r)

-- a check moves no shield

slot_validated : (seen : List Bool) (s : ShieldAt) → slot_under (validated_shield seen s) ≡ slot_under s
slot_validated seen shield.Down = refl
slot_validated seen (shield.Set slot) = one (has seen slot)
  where
    one : (b : Bool) → slot_under (cond b (shield.Valid slot) (shield.Set slot)) ≡ Some slot
    one true = refl
    one false = refl
slot_validated seen (shield.Valid slot) = refl

all_validated : (seen : List Bool) (shields : List ShieldAt) (place : ℕ)
    → slot_under (get_or (map (validated_shield seen) shields) place shield.Down)
    ≡ slot_under (get_or shields place shield.Down)
all_validated seen [] place = refl
all_validated seen (s ∷ shields) zero = slot_validated seen s
all_validated seen (s ∷ shields) (suc place) = all_validated seen shields place

slot_checked : (status : Stance) (seen : List Bool) (shields : List ShieldAt) (place : ℕ)
    → slot_under (get_or (checked_shields status seen shields) place shield.Down)
    ≡ slot_under (get_or shields place shield.Down)
slot_checked stance.Out seen shields place = refl
slot_checked (stance.In epoch) seen shields place = all_validated seen shields place
slot_checked (stance.Ejected epoch) seen shields place = refl

pub under_checked : (under : List ℕ) (result : Checked) (known : Seat) → AreUnder under known
    → AreUnder under (checked_seat result known)
under_checked under found.Valid known h =
    λ place slot up. h place slot (sym (slot_checked known.status known.seen known.shields place) ∙ up)
under_checked under found.Ejected known h = h

-- a shield that is set
pub under_set : (under : List ℕ) (known : Seat) (place slot : ℕ) → place < length under → AreUnder under known
    → AreUnder (set under place slot) (after_shield place (shield.Set slot) known)
under_set under known place slot inside h = λ k other up. dite (ℕ_discrete k place)
    (λ (same : k ≡ place). subst (λ n. get_or (set under place slot) n 0 ≡ other) (sym same)
    (get_or-set_same under place slot 0 inside
    ∙ told known.shields place
    (subst (λ n. slot_under (get_or (set known.shields place (shield.Set slot)) n shield.Down) ≡ Some other) same up)))
    (λ (apart : k ≢ place). get_or-set_other under place k slot 0 apart
    ∙ h k other (sym (ap slot_under (get_or-set_other known.shields place k (shield.Set slot) shield.Down apart)) ∙ up))
  where
    told : (shields : List ShieldAt) (n : ℕ) {other : ℕ}
        → slot_under (get_or (set shields n (shield.Set slot)) n shield.Down) ≡ Some other → slot ≡ other
    told [] n e = absurd cc
    told (s ∷ ss) zero e = ap (λ o. unwrap_or o 0) e
    told (s ∷ ss) (suc n) e = told ss n e

-- a shield that is taken down
pub under_down : (under : List ℕ) (known : Seat) (place : ℕ) → AreUnder under known
    → AreUnder under (after_shield place shield.Down known)
under_down under known place h = λ k slot up. dite (ℕ_discrete k place)
    (λ (same : k ≡ place). h k slot (down k same up))
    (λ (apart : k ≢ place). h k slot
    (sym (ap slot_under (get_or-set_other known.shields place k shield.Down shield.Down apart)) ∙ up))
  where
    down : (k : ℕ) {slot : ℕ} → k ≡ place → slot_under (get_or (set known.shields place shield.Down) k shield.Down)
        ≡ Some slot → slot_under (get_or known.shields k shield.Down) ≡ Some slot
    down k {slot} same up =
        absurd (none known.shields place
        (subst (λ n. slot_under (get_or (set known.shields place shield.Down) n shield.Down) ≡ Some slot) same up))
      where
        none : (shields : List ShieldAt) (n : ℕ)
            → slot_under (get_or (set shields n shield.Down) n shield.Down) ≡ Some slot → ⊥
        none [] n e = absurd cc
        none (s ∷ ss) zero e = absurd cc
        none (s ∷ ss) (suc n) e = none ss n e

-- A seat has its number of slots after each step.

same_count : (known actual : Seat) → IsAsKnown known actual → held_count actual ≡ held_count known
same_count known actual h = ⊎_elim
    (λ (e : actual ≡ known). ap held_count e)
    (λ (e : (epoch : ℕ) × (known.status ≡ stance.In epoch) × (actual ≡ record known { status = stance.Ejected epoch })).
    ap held_count e.2)
    h

pub held_after : (shape : Shape) (s : Step) (a : Answer) (old new : Seat)
    → ((core : State) (s : Step) → IsSound core → IsTrue (is_enabled core s) → IsSound (after core s))
    → ((core : State) (s : Step) → LeavesTheRest core s (after core s)) → seat_of s < shape.seats
    → IsStepOf shape s a old new → held_count new ≡ slots_per_seat shape
held_after shape s a old new law rest inside h =
    let sound = law h.core s h.sound h.enabled in
    let same : (after h.core s).shape ≡ shape = (rest h.core s).shape ∙ h.shape_is in
    sym (same_count new (seat_at (after h.core s) (seat_of s)) h.later)
    ∙ (sound.holding (seat_of s) (subst (λ (sh : Shape). seat_of s < sh.seats) (sym same) inside)
    ∙ ap slots_per_seat same)

-- shields that are all down
pub all_down : (shields : List ShieldAt) (count : ℕ) → length shields ≡ count
    → ((place : ℕ) → place < count → get_or shields place shield.Down ≡ shield.Down)
    → shields ≡ replicate count shield.Down
all_down [] zero long each = refl
all_down [] (suc count) long each = absurd (omega (arith, long))
all_down (s ∷ shields) zero long each = absurd (omega (arith, long))
all_down (s ∷ shields) (suc count) long each =
    ap (λ x. x ∷ shields) (each 0 (omega arith))
    ∙ ap (λ l. shield.Down ∷ l)
    (all_down shields count (omega (arith, long)) (λ place lt. each (suc place) (omega (arith, lt))))

-- a word that was read before is read again
pub read_again : {whole : List ℕ → Type 0} {shape : Shape} (i slot word value : ℕ) (known : Seat) (past : History)
    (known' : Seat) (past' : History) → IsSure whole shape known' past'
    → past' ≡ past_after (step.Read i slot word) (answer.Word value) known past → known' ≡ known
    → is_shielded known slot ≡ true
    → (read : Read) → IsIn read past.reads → read.slot ≡ slot → read.word ≡ word → value ≡ read.value
read_again {whole} {shape} i slot word value known past known' past' sure past_is known_is shielded read at slot_is
    word_is =
    let now : IsSure whole shape known (past_after (step.Read i slot word) (answer.Word value) known past) =
    subst (λ k. IsSure whole shape k (past_after (step.Read i slot word) (answer.Word value) known past)) known_is
    (subst (λ p. IsSure whole shape known' p) past_is sure) in
    now.same (record { slot = slot; word = word; value = value }) read (0, refl) (suc at.0, at.1) (sym slot_is)
    (sym word_is) shielded

pub down_all : (count : ℕ) → list_all is_down (replicate count shield.Down) ≡ true
down_all zero = refl
down_all (suc count) = down_all count
