-- What a seat remembers stays so, at other seats' steps and at most of its own, and what the rule tells a seat of it.
use Rattle.std.proofs.Common.{◌≡◌, ◌≢◌, ℕ, suc, ◌<◌, Bool, true, false, List, [], ◌∷◌, length, get_or, sym, refl, ap}
use Rattle.std.proofs.Common.{◌∙◌, subst, inl, inr, ◌⊎◌, ⊎_elim, arith, set}
use Rattle.std.proofs.lemmas.List.{get_or-set_other}
use mathlib.Core.Logic.{dite}
use native.Mathlib.Decide.{ℕ_discrete}
use Rattle.std.proofs.lemmas.Bool.{false≢true, and_parts, ltb-true, eqb-true}
use Rattle.std.specs.Prelude.{◌&&◌, ◌||◌}
use Rattle.std.specs.List.{list_any}
use Rattle.pebr_core.specs.declared.kinds.Shape.{Shape}
use Rattle.pebr_core.specs.declared.kinds.Answer.{Answer}
use Rattle.pebr_core.specs.declared.kinds.ShieldAt.{ShieldAt}
use Rattle.pebr_core.specs.declared.kinds.ShieldAt.TheVariants as shield
use Rattle.pebr_core.specs.declared.kinds.Stance.TheVariants as stance
use Rattle.pebr_core.specs.declared.kinds.Step.{Step}
use Rattle.pebr_core.specs.declared.kinds.Step.TheVariants as step
use Rattle.pebr_core.specs.State.{State, Seat, has, seat_at, shield_at, word_at, slot_count, is_valid_on}
use Rattle.pebr_core.specs.Steps.{is_enabled, after, is_seat, is_slot, is_word, is_shielded}
use Rattle.pebr_core.specs.Kept.{IsSound, IsSeatOfShape, Uses}
use Rattle.pebr_core.specs.Frames.{seat_of, LeavesTheRest}
use Rattle.pebr_words.specs.Making.{IsAsKnown, known_after, answer_found}
use Rattle.pebr_words.specs.Pasts.{History, past_after, shown_at, written_at}
use Rattle.pebr_words.specs.Ruled.{IsIn, Recalls, AreWhole, HasReadWhole, IsSure}
use Rattle.pebr_words.specs.Facts.{StepsAreSafe, IsBefore, IsRecalledBy}

pub shields_known : (known actual : Seat) → IsAsKnown known actual → actual.shields ≡ known.shields
shields_known known actual (inl same) = ap (λ (s : Seat). s.shields) same
shields_known known actual (inr (epoch, was_in, now)) = ap (λ (s : Seat). s.shields) now

pub fresh_known : (known actual : Seat) → IsAsKnown known actual → actual.fresh ≡ known.fresh
fresh_known known actual (inl same) = ap (λ (s : Seat). s.fresh) same
fresh_known known actual (inr (epoch, was_in, now)) = ap (λ (s : Seat). s.fresh) now

pub seen_known : (known actual : Seat) → IsAsKnown known actual → actual.seen ≡ known.seen
seen_known known actual (inl same) = ap (λ (s : Seat). s.seen) same
seen_known known actual (inr (epoch, was_in, now)) = ap (λ (s : Seat). s.seen) now

-- a slot that some shield is valid on
pub valid_place : (shields : List ShieldAt) (slot : ℕ) → list_any (is_valid_on slot) shields ≡ true
    → (place : ℕ) × (get_or shields place shield.Down ≡ shield.Valid slot)
valid_place [] slot h = absurd (false≢true h)
valid_place (at ∷ shields) slot h = pick (is_valid_on slot at) refl h (valid_place shields slot)
  where
    is_on : (at : ShieldAt) → is_valid_on slot at ≡ true → at ≡ shield.Valid slot
    is_on shield.Down e = absurd (false≢true e)
    is_on (shield.Set other) e = absurd (false≢true e)
    is_on (shield.Valid other) e = ap shield.Valid (eqb-true other slot e)

    pick : (b : Bool) → is_valid_on slot at ≡ b → (b || list_any (is_valid_on slot) shields) ≡ true
        → (list_any (is_valid_on slot) shields ≡ true
        → (place : ℕ) × (get_or shields place shield.Down ≡ shield.Valid slot))
        → (place : ℕ) × (get_or (at ∷ shields) place shield.Down ≡ shield.Valid slot)
    pick true e k more = (0, is_on at e)
    pick false e k more = let rest = more k in (suc rest.0, rest.1)

-- a slot under a valid shield is used
pub shielded_uses : (known actual : Seat) (slot : ℕ) → IsAsKnown known actual → is_shielded known slot ≡ true
    → (place : ℕ) × (shield_at actual place ≡ shield.Valid slot)
shielded_uses known actual slot as_known shielded =
    valid_place actual.shields slot (ap (list_any (is_valid_on slot)) (shields_known known actual as_known) ∙ shielded)

same_words : (xs ys : List ℕ) → length xs ≡ length ys → ((k : ℕ) → k < length xs → get_or xs k 0 ≡ get_or ys k 0)
    → xs ≡ ys
same_words [] [] long each = refl
same_words [] (y ∷ ys) long each = absurd (omega (arith, long))
same_words (x ∷ xs) [] long each = absurd (omega (arith, long))
same_words (x ∷ xs) (y ∷ ys) long each =
    ap (λ z. z ∷ xs) (each 0 (omega arith)) ∙ ap (λ l. y ∷ l)
    (same_words xs ys (omega (arith, long)) (λ k h. each (suc k) (omega (arith, h))))

-- but for its status a seat is as it is known
fits_known : (shape : Shape) (known actual : Seat) → IsAsKnown known actual → IsSeatOfShape shape actual
    → IsSeatOfShape shape known
fits_known shape known actual (inl same) h = subst (IsSeatOfShape shape) same h
fits_known shape known actual (inr (epoch, was_in, now)) h =
    let fits : IsSeatOfShape shape (record known { status = stance.Ejected epoch }) =
    subst (IsSeatOfShape shape) now h in
    record {
      seen = fits.seen;
      shields = fits.shields;
      fresh = fits.fresh;
      retired = fits.retired;
      scan =
          fits.scan;
      set = fits.set;
      valid = fits.valid;
    }

-- what holds of the content of each slot that no seat has fresh holds of a content that was read in full
pub read_is_whole : (whole : List ℕ → Type 0) (shape : Shape) (core : State) (number : ℕ) (known : Seat)
    (past : History)
    → core.shape ≡ shape → IsSound core → number < shape.seats
    → IsAsKnown known (seat_at core number) → Recalls core number past → AreWhole whole core
    → (slot : ℕ) (content : List ℕ) → is_shielded known slot ≡ true → HasReadWhole shape past slot content
    → whole content
read_is_whole whole shape core number known past is_shape sound inside as_known recalls are_whole slot content shielded
    read =
    let valid = shielded_uses known (seat_at core number) slot as_known shielded in
    let own : Uses (seat_at core number) slot = inl valid in
    let core_inside : number < core.shape.seats = subst (λ (s : Shape). number < s.seats) (sym is_shape) inside in
    let low : slot < slot_count core.shape = (sound.shape.each number core_inside).valid valid.0 slot valid.1 in
    subst whole (sym (content_is own low)) (are_whole slot low (λ i. sound.kept.safe.unused i number slot own))
  where
    content_is : Uses (seat_at core number) slot → slot < slot_count core.shape → content ≡ get_or core.words slot []
    content_is own low = same_words content (get_or core.words slot [])
        (read.0 ∙ sym (sound.shape.width slot low ∙ ap (λ (s : Shape). s.width) is_shape))
        (λ k h. let r = read.1 k (subst (λ n. k < n) read.0 h) in
        sym r.4 ∙ (sym (recalls.reads r.0 r.1 (subst (Uses (seat_at core number)) (sym r.2) own))
        ∙ (ap (λ n. word_at core n r.0.word) r.2 ∙ ap (word_at core slot) r.3)))

-- what the rule tells a seat
pub sure_of : (whole : List ℕ → Type 0) (shape : Shape) (core : State) (number : ℕ) (known : Seat) (past : History)
    → core.shape ≡ shape → IsSound core → number < shape.seats
    → IsAsKnown known (seat_at core number) → Recalls core number past → AreWhole whole core
    → IsSure whole shape known past
sure_of whole shape core number known past is_shape sound inside as_known recalls are_whole = record {
  same = λ read other in_reads in_reads' slots words shielded.
      let valid = shielded_uses known (seat_at core number) read.slot as_known shielded in
      let own : Uses (seat_at core number) read.slot = inl valid in
      sym (recalls.reads read in_reads own)
      ∙ (ap (λ n. word_at core n read.word) slots
      ∙ (ap (word_at core other.slot) words ∙ recalls.reads other in_reads'
      (subst (Uses (seat_at core number)) slots own)));
  whole_is = read_is_whole whole shape core number known past is_shape sound inside as_known recalls are_whole;
  alone = λ one. recalls.lost (ap (λ (s : Shape). s.seats) is_shape ∙ one);
  fits = fits_known shape known (seat_at core number) as_known
      (subst (λ s. IsSeatOfShape s (seat_at core number)) is_shape
      (sound.shape.each number (subst (λ (s : Shape). number < s.seats) (sym is_shape) inside)));
}

-- a seat that may write a slot has it fresh
write_fresh : (core : State) (i slot word value : ℕ) → is_enabled core (step.Write i slot word value) ≡ true
    → (slot < slot_count core.shape) × (has (seat_at core i).fresh slot ≡ true)
write_fresh core i slot word value h =
    let a = is_seat core i in
    let b = is_slot core slot in
    let c = is_word core word in
    let p3 = and_parts (a && b && c) (has (seat_at core i).fresh slot) h in
    (ltb-true slot (slot_count core.shape) (and_parts a b (and_parts (a && b) c p3.0).0).1, p3.1)

-- another seat's step
pub others_recall : (law : StepsAreSafe) (core : State) (s : Step) → IsSound core → is_enabled core s ≡ true
    → (seats : ℕ) → core.shape.seats ≡ seats → seat_of s < seats
    → (j : ℕ) (past : History) → j < seats → j ≢ seat_of s → Recalls core j past → Recalls (after core s) j past
others_recall law core s sound enabled seats is_seats own_inside j past inside apart recalls = record {
  reads = λ read in_reads used. ⊎_elim
      (λ (before : Uses (seat_at core j) read.slot). law.words core s sound enabled j read.slot read.word before
      ∙ recalls.reads read in_reads before)
      (λ (loaded : (root : ℕ) × (s ≡ step.Load j root) × _). absurd (apart (sym (ap seat_of loaded.1))))
      (law.begin core s j read.slot used);
  written = λ slot word value e.
      let was = recalls.written slot word value e in (
        ap (λ (x : Seat). has x.fresh slot) (rest.statuses j apart) ∙ was.0,
        rest.words slot word (λ v is.
            let fresh = write_fresh core (seat_of s) slot word v (subst (λ x. is_enabled core x ≡ true) is enabled) in
            false≢true (sym ((law.fresh core (seat_of s) slot sound fresh.0 fresh.1).others j apart) ∙ was.0)) ∙ was.1,
      );
  shown = λ one. absurd (let e : seats ≡ 1 = sym is_seats ∙ (sym (ap (λ (x : Shape). x.seats) rest.shape) ∙ one) in
      apart (omega (arith, e, inside, own_inside)));
  lost = λ one. recalls.lost (sym (ap (λ (x : Shape). x.seats) rest.shape) ∙ one);
}
  where
    rest : LeavesTheRest core s (after core s)
    rest = law.rest core s

-- The seat's own step, which loads and writes nothing and replaces no root, and at which the seat remembers nothing new
-- but counts.
pub recalls_same : {shape : Shape} (s : Step) (number : ℕ) {known : Seat} {past : History} (left : ℕ → ℕ)
    → ((a : Answer) → (past_after s a known past).reads ≡ past.reads)
    → ((a : Answer) → (past_after s a known past).written ≡ past.written)
    → ((a : Answer) → (past_after s a known past).shown ≡ past.shown)
    → ((core : State) (found : ℕ) → IsBefore shape s number known past core found (left found) → core.shape.seats ≡ 1
    → (past_after s (answer_found s known found) known past).lost ≡ past.lost)
    → ((core_shape : Shape) (found slot : ℕ) → has known.fresh slot ≡ true
    → has (known_after core_shape s found known).fresh slot ≡ true)
    → ((j root : ℕ) → s ≢ step.Load j root) → ((i slot word value : ℕ) → s ≢ step.Write i slot word value)
    → ((i root old new : ℕ) → s ≢ step.Replace i root old new)
    → IsRecalledBy shape s number known past left
recalls_same s number {known} {past} left reads written shown lost fresh no_load no_write no_replace law core found
    before =
    let a : Answer = answer_found s known found in
    let recalls = before.recalls in
    let rest = law.rest core s in record {
      reads = λ read in_reads used. ⊎_elim
          (λ (was : Uses (seat_at core number) read.slot). law.words core s before.sound before.enabled number read.slot
          read.word was
          ∙ recalls.reads read (subst (IsIn read) (reads a) in_reads) was)
          (λ (loaded : (root : ℕ) × (s ≡ step.Load number root) × _). absurd (no_load number loaded.0 loaded.1))
          (law.begin core s number read.slot used);
      written = λ slot word value e.
          let was = recalls.written slot word value (ap (λ l. written_at l slot word) (sym (written a)) ∙ e) in (
            ap (λ f. has f slot)
                (fresh_known (known_after core.shape s found known) (seat_at (after core s) number)
                (subst (λ n. IsAsKnown (known_after core.shape s found known) (seat_at (after core s) n))
                before.numbered before.made.own))
                ∙ fresh core.shape found slot
                (ap (λ f. has f slot) (sym (fresh_known known (seat_at core number) before.as_known)) ∙ was.0),
            rest.words slot word (λ v. no_write (seat_of s) slot word v) ∙ was.1,
          );
      shown = λ one root slot e. rest.roots root (λ old new. no_replace (seat_of s) root old new)
          ∙ recalls.shown (sym (ap (λ (x : Shape). x.seats) rest.shape) ∙ one) root slot
          (ap (λ l. shown_at l root) (sym (shown a)) ∙ e);
      lost = λ one. lost core found before (sym (ap (λ (x : Shape). x.seats) rest.shape) ∙ one)
          ∙ recalls.lost (sym (ap (λ (x : Shape). x.seats) rest.shape) ∙ one);
    }

-- what is seen of a slot that is seen since, or not
pub seen_either : (marks : List Bool) (i j : ℕ) → has (set marks i true) j ≡ true → (j ≡ i) ⊎ (has marks j ≡ true)
seen_either marks i j h = dite (ℕ_discrete j i)
    (λ (same : j ≡ i). inl same)
    (λ (apart : j ≢ i). inr (sym (get_or-set_other marks i j true false apart) ∙ h))
