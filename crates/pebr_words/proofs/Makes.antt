-- A step that is made by itself keeps the rule: the one place where core, words and views meet.
use Rattle.std.proofs.Common.{Some, ◌≡◌, ◌≢◌, ℕ, suc, ◌+◌, ◌<◌, ◌≤◌, Bool, true, false, List, [], ◌∷◌, length, get_or}
use Rattle.std.proofs.Common.{map}
use Rattle.std.proofs.Common.{set, sym, refl, ap, ◌∙◌, subst, inl, inr, ◌⊎◌, ⊎_elim, le_trans, arith}
use Rattle.std.proofs.lemmas.Bool.{cases_eq, cases_lt, false≢true}
use Rattle.std.proofs.lemmas.List.{length-set, get_or_past}
use Rattle.std.specs.Prelude.{Option, if◌then◌else◌}
use Rattle.atomic_table.specs.Table as table
use Rattle.atomic_table.proofs.Lists.{set_here, set_else, set_again}
use Rattle.pebr_core.specs.declared.kinds.Shape.{Shape}
use Rattle.pebr_core.specs.declared.kinds.Answer.{Answer}
use Rattle.pebr_core.specs.declared.kinds.Stance.TheVariants as stance
use Rattle.pebr_core.specs.declared.kinds.Step.{Step}
use Rattle.pebr_core.specs.declared.kinds.Step.TheVariants as step
use Rattle.pebr_core.specs.State.{State, Seat, seat_at, has, nobody, slot_count}
use Rattle.pebr_core.specs.Steps.{after, found_epoch}
use Rattle.pebr_core.specs.Frames.{seat_of}
use Rattle.pebr_core.specs.Kept.{IsSound, IsWithinLimits}
use Rattle.pebr_words.specs.declared.views.Held.{Held}
use Rattle.pebr_words.specs.Places.{IsPlace, index}
use Rattle.pebr_words.specs.Shown.{sign_at, Tells, Show}
use Rattle.pebr_words.specs.Making.{place_of, known_after, note_after, answer_found, held_after, on_first, IsAsKnown}
use Rattle.pebr_words.specs.Making.{number_in, known_in_view, note_in, past_in}
use Rattle.pebr_words.specs.Ruled.{BackedWhole, IsIn, IsEjectionOf, IsFreshNowhere, contents, Ruled, Made, IsPicked}
use Rattle.pebr_words.specs.Ruled.{IsTold}
use Rattle.pebr_words.specs.Ruled.{view_left}
use Rattle.pebr_words.specs.Facts.{IsMadeBy, IsKeptBy, IsRecalledBy, IsBefore, StepsAreSafe}
use Rattle.pebr_words.specs.Pasts.{Ejection, History, was_ejected, found_other, past_after, is_ejected, is_replaced}
use Rattle.pebr_words.specs.Pasts.{is_shown, shown_at, without_slot, newest_tag}
use Rattle.pebr_words.proofs.Places.{show_set}
use Rattle.pebr_words.proofs.Ejections.{in_range, listed_set, carries_first}
use Rattle.pebr_words.proofs.Recalling.{fresh_known, others_recall, sure_of}
use Rattle.pebr_words.proofs.Frame.{framed, is_seat, own_fits}

-- a step that changes neither contents nor note, writes no word, and takes no slot out of a fresh set
pub kept_same : {N A : Type 0} (keeps : List (List ℕ) → List N → Type 0) (whole : List N → List ℕ → Type 0)
    (after_act : N → A → N) {shape : Shape} (s : Step) (act : Option A) (number : ℕ) {known : Seat} {past : History}
    (note : N) (left : ℕ → ℕ)
    → ((core : State) → contents (after core s) ≡ contents core) → ((core : State) → (after core s).words ≡ core.words)
    → ((found : ℕ) → note_after after_act s act found note ≡ note)
    → ((shape : Shape) (found slot : ℕ) → has known.fresh slot ≡ true
    → has (known_after shape s found known).fresh slot ≡ true)
    → IsKeptBy keeps whole after_act shape s act number known past note left
kept_same keeps whole after_act s act number {known} note left same_contents same_words same_note fresh law core notes
    found before kept at are_whole = (
      subst (λ c. keeps c (set notes number (note_after after_act s act found note))) (sym (same_contents core))
          (subst (keeps (contents core))
          (sym (ap (set notes number) (same_note found) ∙ set_again notes number note at)) kept),
      λ slot low nowhere. subst (λ w. whole (set notes number (note_after after_act s act found note))
          (get_or w slot []))
          (sym (same_words core))
          (subst (λ ns. whole ns (get_or core.words slot []))
          (sym (ap (set notes number) (same_note found) ∙ set_again notes number note at))
          (are_whole slot (subst (λ (x : Shape). slot < slot_count x) before.made.shape low)
          (λ i. was_nowhere slot nowhere i (cases_eq i number)))),
    )
  where
    was_nowhere : (slot : ℕ) → IsFreshNowhere (after core s) slot → (i : ℕ) → ((i ≡ number) ⊎ (i ≡ number → ⊥))
        → has (seat_at core i).fresh slot ≡ false
    was_nowhere slot nowhere i (inr apart) =
        ap (λ (x : Seat). has x.fresh slot) (sym ((law.rest core s).statuses i (λ e. apart (e ∙ before.numbered))))
        ∙ nowhere i
    was_nowhere slot nowhere i (inl here) = not_true (has (seat_at core i).fresh slot)
        (λ is. false≢true (sym (nowhere number)
        ∙ (ap (λ f. has f slot)
        (fresh_known (known_after core.shape s found known) (seat_at (after core s) number)
        (subst (λ n. IsAsKnown (known_after core.shape s found known) (seat_at (after core s) n)) before.numbered
        before.made.own))
        ∙ fresh core.shape found slot
        (ap (λ f. has f slot) (sym (fresh_known known (seat_at core number) before.as_known))
        ∙ (ap (λ n. has (seat_at core n).fresh slot) (sym here) ∙ is)))))
      where
        not_true : (b : Bool) → (b ≡ true → ⊥) → b ≡ false
        not_true true isnt = absurd (isnt refl)
        not_true false _ = refl

-- an ejection stays listed
grows : (s : Step) (a : Answer) (known : Seat) (past : History) (e : Ejection) → IsIn e past.ejections
    → IsIn e (past_after s a known past).ejections
grows (step.Note i) a known past e h = h
grows (step.Pin i) a known past e h = h
grows (step.Leave i) a known past e h = h
grows (step.Advance i) a known past e h = h
grows (step.Look i j) a known past e h = h
grows (step.Eject i j) a known past e h = pick (is_ejected a)
  where
    one : Ejection
    one = record { by = i; other = j; epoch = found_epoch known j; tag = newest_tag known.retired }

    pick : (b : Bool)
        → IsIn e (if b then record { by = i; other = j; epoch = found_epoch known j; tag = newest_tag known.retired }
        ∷ past.ejections else past.ejections)
    pick true = (suc h.0, h.1)
    pick false = h
grows (step.Load i root) a known past e h = h
grows (step.Shield i place slot) a known past e h = h
grows (step.Check i) a known past e h = pick (is_ejected a) past.has_lost
  where
    pick : (b c : Bool)
        → IsIn e (record (if b
        then (if c then past else record past { lost = was_ejected ∷ past.lost; has_lost = true }) else past) {
          last =
              a;
          steps = past.steps + 1;
        }).ejections
    pick true true = h
    pick true false = h
    pick false c = h
grows (step.Unshield i place) a known past e h = h
grows (step.Read i slot word) a known past e h = h
grows (step.Write i slot word value) a known past e h = h
grows (step.Replace i root old new) a known past e h =
    pick (is_replaced a) (is_shown (shown_at past.shown root) old) past.has_lost
  where
    pick : (b c d : Bool)
        → IsIn e (record (if b
        then record past {
          shown = record { root = root; slot = new } ∷ past.shown;
          written =
              without_slot new past.written;
          put = Some (record { root = root; slot = new; written = past.written });
        }
        else (if c then (if d then past else record past { lost = found_other root ∷ past.lost; has_lost = true })
        else past)) { last = a; steps = past.steps + 1 }).ejections
    pick true c d = h
    pick false true true = h
    pick false true false = h
    pick false false d = h
grows (step.Scan i j place) a known past e h = h
grows (step.Give i) a known past e h = h

module _ {N A : Type 0} (keeps : List (List ℕ) → List N → Type 0) (plain : List ℕ → Type 0)
    (backed : List N → List ℕ → Type 0) (shape : Shape) (few : shape.shields ≤ 8) (law : StepsAreSafe)
    (after_act : N → A → N) where
  abbrev whole : List N → List ℕ → Type 0
  whole = BackedWhole plain backed

  pub makes : (s : Step) (act : Option A) (written : ℕ → ℕ) (slots id word : ℕ) (own : Held N) (others : List (Held N))
      (carried : List (ℕ × Unit {0}))
      → seat_of s ≡ own.number → IsPlace shape (place_of s) → index shape (place_of s) ≡ word
      → IsMadeBy shape s own.number own.known written
      → IsKeptBy keeps whole after_act shape s act own.number own.known own.past own.note written
      → IsRecalledBy shape s own.number own.known own.past written
      → table.Allows (Ruled keeps whole shape) slots id (own ∷ others, carried) word written
      (Made after_act plain shape s act (own ∷ others, carried))
  makes s act written slots id word own others carried numbered inside placed made_by kept_by recalled_by t rule wide at
      fits =
      let core : State = rule.core in
      let found : ℕ = get_or t.words word 0 in
      let inside_seats = is_seat keeps whole shape t rule id own others at in
      let fit = own_fits keeps whole shape t rule id own others at in
      let told : Tells (sign_at core (place_of s)) found =
      subst (λ w. Tells (sign_at core (place_of s)) (get_or t.words w 0)) placed (rule.show.each (place_of s) inside) in
      let got = made_by core found rule.shape_is rule.sound inside_seats fit.known told in
      let made = got.1 in
      let new : Held N = held_after after_act shape s act found own in
      let sound : IsSound (after core s) = law.sound core s rule.sound got.0 in
      let is_shape : (after core s).shape ≡ shape = made.shape ∙ rule.shape_is in
      let own_known : IsAsKnown new.known (seat_at (after core s) (seat_of s)) =
      subst (λ sh. IsAsKnown (known_after sh s found own.known) (seat_at (after core s) (seat_of s))) rule.shape_is
      made.own in
      let own_here : IsAsKnown new.known (seat_at (after core s) own.number) =
      subst (λ n. IsAsKnown new.known (seat_at (after core s) n)) numbered own_known in
      let before : IsBefore shape s own.number own.known own.past core found (written found) = record {
        shape_is = rule.shape_is;
        sound = rule.sound;
        numbered = numbered;
        inside = inside_seats;
        as_known = fit.known;
        recalls = fit.recalls;
        told = told;
        enabled = got.0;
        made = made;
        alone = λ one j epoch now. (let h = rule.ejected j epoch now in
            none_other (h.1.2) (h.1.3) (subst (λ n. j < n) one (ejected_inside core j epoch rule.sound now)) h.1.0 one);
      } in
      let kept = kept_by law core rule.notes found before rule.kept fit.note rule.whole_is in
      let recalled = recalled_by law core found before in (
        new ∷ others,
        table.keeps,
        tt,
        framed keeps whole shape t rule id own others at (set t.words word (written found)) t.homes (after core s)
            (set rule.notes own.number new.note) new refl
            is_shape sound
            (subst (λ w. Show shape (set t.words w (written found)) (after core s)) placed
            (show_set shape few t.words core (after core s) (place_of s)
            (written found) inside rule.show made.told made.signs))
            (length-set rule.notes own.number new.note ∙ rule.many)
            kept.0
            kept.1
            record {
              known = own_here;
              note = set_here rule.notes own.number new.note (subst (λ n. own.number < n) (sym rule.many) inside_seats);
              recalls = recalled;
            }
            (λ other epoch now. ⊎_elim
            (λ was. let past = rule.ejected other epoch was in (
              past.0,
              (
                past.1.0,
                past.1.1,
                subst (λ (sh : Shape). past.0.by < sh.seats)
                    (sym made.shape) past.1.2,
                past.1.3,
                past.1.4,
                le_trans past.1.5 made.epoch,
              ),
              listed_set t.views id (own ∷ others) (new ∷ others) at
                  (carries_first own new others (grows s (answer_found s own.known found) own.known own.past)) past.0
                  past.2,
            ))
            (λ (fresh : (e : Ejection) × IsEjectionOf (after core s) other epoch e
            × ((past : History) → IsIn e (past_after s (answer_found s own.known found) own.known past).ejections)). (
              fresh.0,
              fresh.1,
              (
                new ∷ others,
                new,
                (id, set_here t.views id (new ∷ others) (in_range t.views id (own ∷ others) at)),
                (0, refl),
                fresh.2 own.past,
              ),
            ))
            (made.ejected other epoch now))
            (λ held apart held_inside fitting. record {
              known = made.others held.number held.known (λ e. apart (e ∙ numbered)) fitting.known;
              note = set_else rule.notes own.number held.number new.note apart ∙ fitting.note;
              recalls = others_recall law core s rule.sound got.0 shape.seats
                  (ap (λ (sh : Shape). sh.seats) rule.shape_is)
                  (subst (λ n. n < shape.seats) (sym numbered) inside_seats)
                  held.number held.past held_inside (λ e. apart (e ∙ numbered)) fitting.recalls;
            }),
        (
          refl,
          record {
            core = core;
            shape_is = rule.shape_is;
            sound = rule.sound;
            enabled = got.0;
            before = subst (λ n. IsAsKnown own.known (seat_at core n)) (sym numbered) fit.known;
            answered = made.answered;
            later = own_known;
          },
          sure_of plain shape (after core s) own.number new.known new.past is_shape sound inside_seats own_here recalled
              (λ slot low nowhere. (kept.1 slot low nowhere).0),
        ),
      )
    where
      none_other : {by seats j other : ℕ} → by < seats → by ≢ j → j < 1 → other ≡ j → seats ≡ 1 → ⊥
      none_other low apart zero_is same one = apart (omega (arith, low, zero_is, one))

      -- a number that is ejected is that of a seat
      ejected_inside : (core : State) (j epoch : ℕ) → IsSound core → (seat_at core j).status ≡ stance.Ejected epoch
          → j < core.shape.seats
      ejected_inside core j epoch sound now = pick (cases_lt j (length core.seats))
        where
          pick : ((j < length core.seats) ⊎ (length core.seats ≤ j)) → j < core.shape.seats
          pick (inl low) = subst (λ n. j < n) sound.shape.seats low
          pick (inr past) =
              absurd (let e : stance.Out ≡ stance.Ejected epoch =
              sym (ap (λ (x : Seat). x.status) (get_or_past core.seats j nobody past)) ∙ now in cc)

-- The same at any view that isn't empty, for a step that a proof picked, and words that are told their shape.
pub makes_at : {N A : Type 0} (keeps : List (List ℕ) → List N → Type 0) (plain : List ℕ → Type 0)
    (backed : List N → List ℕ → Type 0) (after_act : N → A → N) (blank : N)
    → {key shape shape' : Shape} {s s' : Step} {act act' : Option A} {written : ℕ → ℕ} {slots word : ℕ}
    → (id : ℕ) → StepsAreSafe → key ≡ shape → IsWithinLimits shape → IsPicked shape' s' act' shape s act
    → (me : table.Me (Unit {0}) (List (Held N))) → 0 < length me.0 → number_in me.0 ≡ seat_of s
    → IsPlace shape (place_of s) → index shape (place_of s) ≡ word
    → IsMadeBy shape s (seat_of s) (known_in_view me.0) written
    → IsKeptBy keeps (BackedWhole plain backed) after_act shape s act (seat_of s) (known_in_view me.0) (past_in me.0)
    (note_in blank me.0) written
    → IsRecalledBy shape s (seat_of s) (known_in_view me.0) (past_in me.0) written
    → table.Allows (Ruled keeps (BackedWhole plain backed) key) slots id me word written
    (Made after_act plain shape' s' act' me)
makes_at keeps plain backed after_act blank id law is_key limits picked
    ([], carried) live is_number inside placed made_by kept_by recalled_by = absurd (omega (arith, live))
makes_at {N} {A} keeps plain backed after_act blank {key} {shape} {shape'} {s} {s'} {act} {act'} {written}
    {slots} {word} id
    law is_key limits picked (own ∷ others, carried) live is_number inside placed made_by kept_by recalled_by =
    let me : table.Me (Unit {0}) (List (Held N)) = (own ∷ others, carried) in
    let Goal : Shape → Shape → Step → Option A → Type 0 =
    λ k sh t a. table.Allows (Ruled keeps (BackedWhole plain backed) k) slots id me word written
    (Made after_act plain sh t a me) in
    subst (λ k. Goal k shape' s' act') (sym is_key)
    (subst (λ sh. Goal shape sh s' act') (sym picked.0)
    (subst (λ t. Goal shape shape t act') (sym picked.1)
    (subst (λ a. Goal shape shape s a) (sym picked.2)
    (makes keeps plain backed shape limits.shields law after_act s act written slots id word own others carried
    (sym is_number) inside placed
    (subst (λ n. IsMadeBy shape s n own.known written) (sym is_number) made_by)
    (subst (λ n. IsKeptBy keeps (BackedWhole plain backed) after_act shape s act n own.known own.past own.note written)
    (sym is_number) kept_by)
    (subst (λ n. IsRecalledBy shape s n own.known own.past written) (sym is_number) recalled_by)))))

-- what is told of the view is told of its first part
pub known_first : {N A : Type 0} (after_act : N → A → N) (shape : Shape) (s : Step) (act : Option A) (found : ℕ)
    (view : List (Held N)) → 0 < length view
    → known_in_view (on_first (held_after after_act shape s act found) view)
    ≡ known_after shape s found (known_in_view view)
known_first after_act shape s act found [] live = absurd (omega (arith, live))
known_first after_act shape s act found (held ∷ others) live = refl

pub note_first : {N A : Type 0} (after_act : N → A → N) (shape : Shape) (s : Step) (act : Option A) (found : ℕ)
    (blank : N) (view : List (Held N)) → 0 < length view
    → note_in blank (on_first (held_after after_act shape s act found) view)
    ≡ note_after after_act s act found (note_in blank view)
note_first after_act shape s act found blank [] live = absurd (omega (arith, live))
note_first after_act shape s act found blank (held ∷ others) live = refl

pub number_first : {N A : Type 0} (after_act : N → A → N) (shape : Shape) (s : Step) (act : Option A) (found : ℕ)
    (view : List (Held N))
    → number_in (on_first (held_after after_act shape s act found) view) ≡ number_in view
number_first after_act shape s act found [] = refl
number_first after_act shape s act found (held ∷ others) = refl

pub length_first : {N A : Type 0} (after_act : N → A → N) (shape : Shape) (s : Step) (act : Option A) (found : ℕ)
    (view : List (Held N))
    → length (on_first (held_after after_act shape s act found) view) ≡ length view
length_first after_act shape s act found [] = refl
length_first after_act shape s act found (held ∷ others) = refl

past_first : {N A : Type 0} (after_act : N → A → N) (shape : Shape) (s : Step) (act : Option A) (found : ℕ)
    (view : List (Held N)) → 0 < length view
    → past_in (on_first (held_after after_act shape s act found) view)
    ≡ past_after s (answer_found s (known_in_view view) found) (known_in_view view) (past_in view)
past_first after_act shape s act found [] live = absurd (omega (arith, live))
past_first after_act shape s act found (held ∷ others) live = refl

numbers_first : {N A : Type 0} (after_act : N → A → N) (shape : Shape) (s : Step) (act : Option A) (found : ℕ)
    (view : List (Held N))
    → map (λ held. held.number) (on_first (held_after after_act shape s act found) view)
    ≡ map (λ held. held.number) view
numbers_first after_act shape s act found [] = refl
numbers_first after_act shape s act found (held ∷ others) = refl

rest_first : {N A : Type 0} (after_act : N → A → N) (shape : Shape) (s : Step) (act : Option A) (found : ℕ)
    (view : List (Held N))
    → view_left (on_first (held_after after_act shape s act found) view) ≡ view_left view
rest_first after_act shape s act found [] = refl
rest_first after_act shape s act found (held ∷ others) = refl

-- what a step tells of the seat that made it
pub told_of : {N A : Type 0} (after_act : N → A → N) (whole : List ℕ → Type 0) (blank : N) (shape : Shape) (s : Step)
    (act : Option A) (found : ℕ) (me me' : table.Me (Unit {0}) (List (Held N)))
    → 0 < length me.0 → Made after_act whole shape s act me found me'
    → IsTold after_act whole blank shape s act found me me'
told_of after_act whole blank shape s act found me me' live made =
    let is : me'.0 ≡ on_first (held_after after_act shape s act found) me.0 =
    ap (λ (m : table.Me (Unit {0}) (List (Held _))). m.0) made.0 in record {
      live = subst (λ (n : ℕ). 0 < n) (sym (ap length is ∙ length_first after_act shape s act found me.0)) live;
      carried = ap (λ (m : table.Me (Unit {0}) (List (Held _))). m.1) made.0;
      number = ap number_in is ∙ number_first after_act shape s act found me.0;
      numbers = ap (map (λ held. held.number)) is ∙ numbers_first after_act shape s act found me.0;
      count = ap length is ∙ length_first after_act shape s act found me.0;
      rest = ap view_left is ∙ rest_first after_act shape s act found me.0;
      known = ap known_in_view is ∙ known_first after_act shape s act found me.0 live;
      note = ap (note_in blank) is ∙ note_first after_act shape s act found blank me.0 live;
      past = ap past_in is ∙ past_first after_act shape s act found me.0 live;
      made = made.1;
      sure = made.2;
    }

-- the same of a step that a proof picked
pub picked_told : {N A : Type 0} (after_act : N → A → N) (whole : List ℕ → Type 0)
    (blank : N) {shape shape' : Shape} {s s' : Step} {act act' : Option A} → IsPicked shape' s' act' shape s act
    → (found : ℕ) (me me' : table.Me (Unit {0}) (List (Held N))) → 0 < length me.0
    → Made after_act whole shape' s' act' me found me'
    → IsTold after_act whole blank shape s act found me me'
picked_told after_act whole blank {shape} {shape'} {s} {s'} {act} {act'} picked found me me' live made =
    subst (λ sh. IsTold after_act whole blank sh s act found me me') picked.0
    (subst (λ t. IsTold after_act whole blank shape' t act found me me') picked.1
    (subst (λ a. IsTold after_act whole blank shape' s' a found me me') picked.2
    (told_of after_act whole blank shape' s' act' found me me' live made)))
