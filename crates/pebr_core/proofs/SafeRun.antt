-- No step makes a used slot fresh or changes a word of one, and so for whole runs.
use Rattle.std.proofs.Common.{◌≡◌, ℕ, ◌<◌, ◌+◌, ◌≤◌, suc, Bool, true, false, List, [], ◌∷◌, ◌++◌, length, get_or, drop}
use Rattle.std.proofs.Common.{Option, Some, None, option_map, cond, refl, sym, ◌∙◌, ap, arith, eqb, append_assoc}
use Rattle.std.proofs.Common.{append-nil, set, ◌&&◌, ◌||◌}
use Rattle.std.proofs.lemmas.Option.{none-some}
use Rattle.std.proofs.lemmas.List.{at_drop_more, at_drop_all}
use Rattle.pebr_core.specs.declared.kinds.Step.{Step}
use Rattle.pebr_core.specs.declared.kinds.Answer.{Answer}
use Rattle.pebr_core.specs.declared.kinds.Step.TheVariants as step
use Rattle.pebr_core.specs.State.{Seat, State, has, word_at, seat_at, scan_of, nobody, root_at, shield_at, slot_under}
use Rattle.pebr_core.specs.State.{is_down}
use Rattle.pebr_core.specs.Steps.{is_enabled, after, answer_of, with_seat, with_scan, with_passed, with_look, can_pass}
use Rattle.pebr_core.specs.Steps.{epoch_of, found_epoch, ejected_stance, after_look, after_pass, is_seat, is_slot}
use Rattle.pebr_core.specs.Steps.{is_word}
use Rattle.pebr_core.specs.Steps.{is_scanning, is_complete, given_slots, after_load, after_shield, after_check}
use Rattle.pebr_core.specs.Steps.{after_replace}
use Rattle.pebr_core.specs.Steps.{after_scan, after_give}
use Rattle.pebr_core.specs.Kept.{IsSound}
use Rattle.pebr_core.specs.Runs.{state_after, answers_of, first_refused, GivesNoUsed, KeepsUsedWords, IsSafeRun}
use Rattle.pebr_core.proofs.Marks.{set_anywhere}
use Rattle.std.specs.List.{list_all}
use Rattle.std.proofs.lemmas.Bool.{false≢true, and_parts, ltb-true}
use Rattle.pebr_core.specs.declared.kinds.ShieldAt.TheVariants as shield
use Rattle.pebr_core.proofs.Marks.{has-removed, has-union_of}
use Rattle.pebr_core.proofs.GiveStep.{given_unused}
use Rattle.pebr_core.proofs.Law.{step_sound}

-- a change of one seat that leaves its fresh slots leaves all fresh slots
fresh_kept : (state : State) (i : ℕ) (seat : Seat) → seat.fresh ≡ (seat_at state i).fresh → (k : ℕ)
    → (seat_at (with_seat state i seat) k).fresh ≡ (seat_at state k).fresh
fresh_kept state i seat same k = set_anywhere (λ s. s.fresh ≡ (seat_at state k).fresh) state.seats i seat nobody k
    (λ e. same ∙ ap (λ m. (seat_at state m).fresh) (sym e)) refl

-- where no fresh set changes, no used slot becomes fresh
none_given : (old new : State) → IsSound old → ((k : ℕ) → (seat_at new k).fresh ≡ (seat_at old k).fresh)
    → GivesNoUsed old new
none_given old new sound same i j slot uses = ap (λ f. has f slot) (same i) ∙ sound.kept.safe.unused i j slot uses

look_fresh : (other : ℕ) (b : Bool) (seat : Seat) (epoch : ℕ)
    → (cond b (with_scan seat (with_passed (scan_of seat) other))
    (with_scan seat (with_look (scan_of seat) other epoch))).fresh ≡ seat.fresh
look_fresh other true seat epoch = refl
look_fresh other false seat epoch = refl

advance_fresh : (state : State) (b : Bool) (k : ℕ)
    → (seat_at (cond b (record state { epoch = state.epoch + 1 }) state) k).fresh ≡ (seat_at state k).fresh
advance_fresh state true k = refl
advance_fresh state false k = refl

advance_words : (state : State) (b : Bool)
    → (cond b (record state { epoch = state.epoch + 1 }) state).words ≡ state.words
advance_words state true = refl
advance_words state false = refl

-- a root's slot is replaced: a fresh slot is taken
replace_gives : (state : State) (i root old new : ℕ) → IsSound state
    → GivesNoUsed state (after state (step.Replace i root old new))
replace_gives state i root old new sound k j slot uses = pick (eqb (root_at state root) old)
  where
    changed : State
    changed = record (with_seat state i (after_replace old new (seat_at state i))) { roots = set state.roots root new }

    before : (m : ℕ) → has (seat_at state m).fresh slot ≡ false
    before m = sound.kept.safe.unused m j slot uses

    pick : (b : Bool)
        → has (seat_at
        (cond b (record (with_seat state i (after_replace old new (seat_at state i))) {
          roots =
              set state.roots root new;
        }) state) k).fresh slot ≡ false
    pick true = set_anywhere (λ s. has s.fresh slot ≡ false) state.seats i
        (after_replace old new (seat_at state i)) nobody k
        (λ _. has-removed (seat_at state i).fresh new slot (sound.kept.safe.unused i j slot uses))
        (sound.kept.safe.unused k j slot uses)
    pick false = sound.kept.safe.unused k j slot uses

-- what is given is used by nobody
give_gives : (state : State) (i : ℕ) → IsSound state → is_enabled state (step.Give i) ≡ true
    → GivesNoUsed state (after state (step.Give i))
give_gives state i sound h k j slot uses =
    let owner = seat_at state i in
    let a = is_seat state i in
    let s = is_scanning owner in
    let c = is_complete state.shape i (scan_of owner) in
    let p3 = and_parts (a && s && c) (list_all is_down owner.shields) h in
    let p2 = and_parts (a && s) c p3.0 in
    let p1 = and_parts a s p2.0 in
    let free = given_unused state i sound (ltb-true i state.shape.seats p1.0) p1.1 p2.1 p3.1 j slot uses in
    set_anywhere (λ s. has s.fresh slot ≡ false) state.seats i (after_give state.epoch owner) nobody k
    (λ _. has-union_of owner.fresh (given_slots owner) slot
    ∙ (ap (λ b. b || has (given_slots owner) slot) (sound.kept.safe.unused i j slot uses) ∙ free))
    (sound.kept.safe.unused k j slot uses)

pub step_gives_no_used : (state : State) (s : Step) → IsSound state → is_enabled state s ≡ true
    → GivesNoUsed state (after state s)
step_gives_no_used state (step.Note i) sound h =
    none_given state (after state (step.Note i)) sound (fresh_kept state i _ refl)
step_gives_no_used state (step.Pin i) sound h =
    none_given state (after state (step.Pin i)) sound (fresh_kept state i _ refl)
step_gives_no_used state (step.Leave i) sound h =
    none_given state (after state (step.Leave i)) sound (fresh_kept state i _ refl)
step_gives_no_used state (step.Advance i) sound h =
    none_given state (after state (step.Advance i)) sound
    (advance_fresh state (eqb state.epoch (seat_at state i).noted))
step_gives_no_used state (step.Look i j) sound h =
    let seat = seat_at state i in
    let status = (seat_at state j).status in
    none_given state (after state (step.Look i j)) sound
    (fresh_kept state i (after_look j status seat)
    (look_fresh j (can_pass (scan_of seat).candidates seat.retired status) seat (epoch_of status)))
step_gives_no_used state (step.Eject i j) sound h =
    let other = seat_at state j in
    let mid = with_seat state j
    (record other { status = ejected_stance (found_epoch (seat_at state i) j) other.status }) in
    none_given state (after state (step.Eject i j)) sound
    (λ k. fresh_kept mid i (after_pass j (seat_at mid i)) refl k
    ∙ fresh_kept state j (record other { status = ejected_stance (found_epoch (seat_at state i) j) other.status })
    refl k)
step_gives_no_used state (step.Load i root) sound h =
    none_given state (after state (step.Load i root)) sound
    (fresh_kept state i (after_load (root_at state root) (seat_at state i)) refl)
step_gives_no_used state (step.Shield i place slot) sound h =
    none_given state (after state (step.Shield i place slot)) sound
    (fresh_kept state i (after_shield place (shield.Set slot) (seat_at state i)) refl)
step_gives_no_used state (step.Check i) sound h =
    none_given state (after state (step.Check i)) sound (fresh_kept state i (after_check (seat_at state i)) refl)
step_gives_no_used state (step.Unshield i place) sound h =
    none_given state (after state (step.Unshield i place)) sound
    (fresh_kept state i (after_shield place shield.Down (seat_at state i)) refl)
step_gives_no_used state (step.Read i slot word) sound h = none_given state state sound (λ k. refl)
step_gives_no_used state (step.Write i slot word value) sound h =
    none_given state (after state (step.Write i slot word value)) sound (λ k. refl)
step_gives_no_used state (step.Replace i root old new) sound h = replace_gives state i root old new sound
step_gives_no_used state (step.Scan i j place) sound h =
    none_given state (after state (step.Scan i j place)) sound
    (fresh_kept state i (after_scan j place (slot_under (shield_at (seat_at state j) place)) (seat_at state i)) refl)
step_gives_no_used state (step.Give i) sound h = give_gives state i sound h

replace_words : (state changed : State) (b : Bool) → changed.words ≡ state.words
    → (cond b changed state).words ≡ state.words
replace_words state changed true same = same
replace_words state changed false same = refl

-- a fresh slot is written, and so no used one
write_keeps : (state : State) (i slot word value : ℕ) → IsSound state → has (seat_at state i).fresh slot ≡ true
    → KeepsUsedWords state (after state (step.Write i slot word value))
write_keeps state i slot word value sound is_fresh j used at uses =
    set_anywhere (λ row. get_or row at 0 ≡ word_at state used at) state.words slot
    (set (get_or state.words slot []) word value) [] used
    (λ here. absurd
    (false≢true (sym (sound.kept.safe.unused i j used uses) ∙ (ap (has (seat_at state i).fresh) here ∙ is_fresh))))
    refl

pub step_keeps_used_words : (state : State) (s : Step) → IsSound state → is_enabled state s ≡ true
    → KeepsUsedWords state (after state s)
step_keeps_used_words state (step.Note i) sound h j slot word uses = refl
step_keeps_used_words state (step.Pin i) sound h j slot word uses = refl
step_keeps_used_words state (step.Leave i) sound h j slot word uses = refl
step_keeps_used_words state (step.Advance i) sound h j slot word uses =
    ap (λ w. get_or (get_or w slot []) word 0) (advance_words state (eqb state.epoch (seat_at state i).noted))
step_keeps_used_words state (step.Look i k) sound h j slot word uses = refl
step_keeps_used_words state (step.Eject i k) sound h j slot word uses = refl
step_keeps_used_words state (step.Load i root) sound h j slot word uses = refl
step_keeps_used_words state (step.Shield i place s) sound h j slot word uses = refl
step_keeps_used_words state (step.Check i) sound h j slot word uses = refl
step_keeps_used_words state (step.Unshield i place) sound h j slot word uses = refl
step_keeps_used_words state (step.Read i s x) sound h j slot word uses = refl
step_keeps_used_words state (step.Write i s x value) sound h j slot word uses =
    write_keeps state i s x value sound
    (and_parts (is_seat state i && is_slot state s && is_word state x) (has (seat_at state i).fresh s) h).1 j slot
    word uses
step_keeps_used_words state (step.Replace i root old new) sound h j slot word uses =
    ap (λ w. get_or (get_or w slot []) word 0)
    (replace_words state
    (record (with_seat state i (after_replace old new (seat_at state i))) { roots = set state.roots root new })
    (eqb (root_at state root) old) refl)
step_keeps_used_words state (step.Scan i k place) sound h j slot word uses = refl
step_keeps_used_words state (step.Give i) sound h j slot word uses = refl

-- runs

-- what follows where the first step isn't refused
first_made : (b : Bool) (o : Option ℕ) → cond b (option_map (λ n. suc n) o) (Some 0) ≡ None → (b ≡ true) × (o ≡ None)
first_made true None h = (refl, refl)
first_made true (Some x) h = absurd (none-some (suc x) (sym h))
first_made false o h = absurd (none-some 0 (sym h))

pub safe_run : (state : State) (steps : List Step) → IsSound state → first_refused state steps ≡ None
    → IsSafeRun state steps
safe_run state [] sound h = sound
safe_run state (s ∷ steps) sound h =
    let first = first_made (is_enabled state s) (first_refused (after state s) steps) h in (
      sound,
      step_gives_no_used state s sound first.0,
      step_keeps_used_words state s sound first.0,
      safe_run
          (after state s) steps (step_sound state s sound first.0) first.1,
    )

-- one more step of a run

option_map-suc : (n : ℕ) (o : Option ℕ) → option_map (λ p. n + p) (option_map (λ p. suc p) o)
    ≡ option_map (λ p. n + 1 + p) o
option_map-suc n None = refl
option_map-suc n (Some p) = ap (λ q. Some q) (let e : n + suc p ≡ n + 1 + p = omega arith in e)

pub option_map-zero : (o : Option ℕ) → o ≡ option_map (λ p. 0 + p) o
option_map-zero None = refl
option_map-zero (Some p) = ap (λ q. Some q) (let e : p ≡ 0 + p = omega arith in e)

-- what is left of a run at a place
pub record IsRunFrom (start : State) (steps : List Step) (place : ℕ) (state : State)
    (answers : List Answer) : Type 0 where
  pub rest : state_after state (drop place steps) ≡ state_after start steps
  pub told : answers ++ answers_of state (drop place steps) ≡ answers_of start steps
  pub refused : first_refused start steps ≡ option_map (λ p. place + p) (first_refused state (drop place steps))

pub run_started : (start : State) (steps : List Step) → IsRunFrom start steps 0 start []
run_started start steps = record { rest = refl; told = refl; refused = option_map-zero (first_refused start steps) }

module _ (start : State) (steps : List Step) (place : ℕ) (state : State) (answers : List Answer)
    (run : IsRunFrom start steps place state answers) (s other : Step) (inside : place < length steps)
    (here : s ≡ get_or steps place other) where
  cut : drop place steps ≡ s ∷ drop (place + 1) steps
  cut = at_drop_more (λ l. l) steps place other inside ∙ ap (λ x. x ∷ drop (place + 1) steps) (sym here)

  pub run_more : is_enabled state s ≡ true
      → IsRunFrom start steps (place + 1) (after state s) (answers ++ answer_of state s ∷ [])
  run_more enabled = record {
    rest = ap (state_after state) (sym cut) ∙ run.rest;
    told = append_assoc answers (answer_of state s ∷ []) (answers_of (after state s) (drop (place + 1) steps))
        ∙ (ap (λ l. answers ++ answers_of state l) (sym cut) ∙ run.told);
    refused = run.refused ∙ (ap (λ l. option_map (λ p. place + p) (first_refused state l)) cut
        ∙ (ap (λ b. option_map (λ p. place + p)
        (cond b (option_map (λ p. suc p) (first_refused (after state s) (drop (place + 1) steps))) (Some 0))) enabled
        ∙ option_map-suc place (first_refused (after state s) (drop (place + 1) steps))));
  }

  pub run_refused : is_enabled state s ≡ false → first_refused start steps ≡ Some place
  run_refused refused = run.refused ∙ (ap (λ l. option_map (λ p. place + p) (first_refused state l)) cut
      ∙ (ap (λ b. option_map (λ p. place + p)
      (cond b (option_map (λ p. suc p) (first_refused (after state s) (drop (place + 1) steps))) (Some 0))) refused
      ∙ ap (λ q. Some q) (let e : place + 0 ≡ place = omega arith in e)))

pub run_ended : (start : State) (steps : List Step) (place : ℕ) (state : State) (answers : List Answer)
    → IsRunFrom start steps place state answers → length steps ≤ place
    → (state ≡ state_after start steps) × (answers ≡ answers_of start steps) × (first_refused start steps ≡ None)
run_ended start steps place state answers run end =
    let none : drop place steps ≡ [] = at_drop_all (λ l. l) steps place end in (
      ap (state_after state) (sym none) ∙ run.rest,
      sym (append-nil answers) ∙ (ap (λ l. answers ++ answers_of state l) (sym none) ∙ run.told),
      run.refused ∙ ap (λ l. option_map (λ p. place + p) (first_refused state l)) none,
    )
