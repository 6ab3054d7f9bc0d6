-- The turn of a set is taken, or a try is lost.
use Rattle.std.proofs.Common.{◌≡◌, ◌≢◌, ℕ, zero, suc, ◌+◌, ◌*◌, ◌<◌, ◌≤◌, Bool, true, false, cond, eqb, List, [], ◌∷◌}
use Rattle.std.proofs.Common.{length, map, get_or, set, sym, refl, ap, ◌∙◌, subst, arith, eq-eqb, ne_eqb, Some}
use Rattle.std.proofs.Common.{if◌then◌else◌}
use Rattle.std.proofs.lemmas.List.{set-get_or, get_or-set_same, get_or-set_other}
use mathlib.Core.Logic.{dite}
use native.Mathlib.Decide.{ℕ_discrete}
use mathlib.Core.Option.{none, some, some-injective, some-ne-none}
use lib.ListN.{get_elem?}
use prog.Atomic.{either}
use Rattle.atomic_table.specs.Table.{State, Act, Valid, carried_after, step, stepped, keeps, Allows}
use Rattle.atomic_table.proofs.Lists.{at_map}
use Rattle.flow_parts.specs.declared.fragment.Fragment.{Fragment}
use Rattle.cache_face.specs.Keeping.{Keeps}
use Rattle.cache_face.specs.Notes.{Note, note_with}
use Rattle.cache_face.proofs.Keeping.{keeps_passed}
use Rattle.turn_cache.specs.declared.rule.Told.{Told}
use Rattle.turn_cache.specs.Hands.{Hand, Turn, idle, reading, writing, number_of, is_at, turns_held, claim, at_work}
use Rattle.turn_cache.specs.Hands.{times}
use Rattle.turn_cache.specs.Hands.{total}
use Rattle.turn_cache.specs.Moves.{Sat, Move, Takes, hand_taking, hand_losing, move_of_try, IsOwn}
use Rattle.turn_cache.specs.Places.{turn_word, set_word}
use Rattle.turn_cache.specs.Ruled.{Ruled, Fits, FitsTurn, LiveAt}
use Rattle.turn_cache.proofs.Totals.{total-set, total-at, total-two, some_one, once_few, once_in, times_here}
use Rattle.turn_cache.proofs.Frames.{build, notes_same, notes_set, frame_turn}

few : (b : Bool) (m : ℕ) → cond b 1 0 ≤ cond b (suc m) 0
few true m = omega arith
few false m = omega arith

none_few : (b : Bool) (m : ℕ) → ◌≡◌ {A = ℕ} (cond b 1 0) 0 → ◌≡◌ {A = ℕ} (cond b (suc m) 0) 0
none_few true m e = absurd (omega (arith, e))
none_few false m e = refl

holds : (b : Bool) (m : ℕ) → 0 < cond b (suc m) 0 → b ≡ true
holds true m h = refl
holds false m h = absurd (omega (arith, h))

module _ (at_set : ℕ) where
  -- each seat that has the turn claims it
  holding_few : (vs : List Hand) → total (turns_held at_set) vs ≤ total (claim at_set) vs
  holding_few [] = omega arith
  holding_few (x ∷ xs) = let a = few (is_at at_set x.turn) (number_of x.numbers) in let b = holding_few xs in
      omega (arith, a, b)

  no_claims : (vs : List Hand) → total (turns_held at_set) vs ≡ 0 → total (claim at_set) vs ≡ 0
  no_claims [] e = refl
  no_claims (x ∷ xs) e = let a = none_few (is_at at_set x.turn) (number_of x.numbers) (omega (arith, e)) in
      let b = no_claims xs (omega (arith, e)) in omega (arith, a, b)

  pub one_claim : (vs : List Hand) (j : ℕ) (u : Hand) → total (turns_held at_set) vs ≤ 1 → get_elem? vs j ≡ some u
      → turns_held at_set u ≡ 1 → total (claim at_set) vs ≡ claim at_set u
  one_claim [] j u few e one = absurd (some-ne-none u (sym e))
  one_claim (x ∷ xs) zero u few e one =
      let is : turns_held at_set x ≡ turns_held at_set u = ap (turns_held at_set) (some-injective x u e) in
      let is_claim : claim at_set x ≡ claim at_set u = ap (claim at_set) (some-injective x u e) in
      let rest = no_claims xs (omega (arith, few, is, one)) in omega (arith, rest, is_claim)
  one_claim (x ∷ xs) (suc j) u few e one =
      let least = total-at (turns_held at_set) xs j u e in
      let rest = one_claim xs j u (omega (arith, few)) e one in
      let none = none_few (is_at at_set x.turn) (number_of x.numbers) (omega (arith, few, least, one)) in
      omega (arith, rest, none)

-- a seat that has a turn is live
alive : (at_set count : ℕ) (t : Turn) → is_at at_set t ≡ true → LiveAt count t → 0 < count
alive at_set count idle e l = absurd (let z : false ≡ true = e in cc)
alive at_set count (reading x) e l = l
alive at_set count (writing x p new now) e l = l

first_times : (numbers : List ℕ) → 0 < length numbers → 0 < times (number_of numbers) numbers
first_times [] h = absurd (omega (arith, h))
first_times (x ∷ xs) h = times_here x xs

-- two live seats act as two numbers
apart_numbers : (told : Told) (s : State (Unit {0}) Hand) (id j : ℕ) (v u : Hand) → Ruled told s → j ≢ id
    → get_elem? s.views id ≡ some v → get_elem? s.views j ≡ some u
    → 0 < length v.numbers → 0 < length u.numbers → number_of u.numbers ≢ number_of v.numbers
apart_numbers told s id j v u h ne at at' live live' same =
    let number = number_of v.numbers in
    let two = total-two (λ hand. times number hand.numbers) s.views id j v u ne at at' in
    let one = first_times v.numbers live in
    let other = subst (λ n. 0 < times n u.numbers) same (first_times u.numbers live') in
    let sum = h.numbers number in
    let most = once_few number told.seats in omega (arith, two, one, other, sum, most)

number_low : (told : Told) (s : State (Unit {0}) Hand) (id : ℕ) (v : Hand) → Ruled told s
    → get_elem? s.views id ≡ some v → 0 < length v.numbers → number_of v.numbers < told.seats
number_low told s id v h at live =
    let number = number_of v.numbers in
    let least = total-at (λ hand. times number hand.numbers) s.views id v at in
    let one = first_times v.numbers live in
    let sum = h.numbers number in once_in number told.seats (omega (arith, least, one, sum))

noted_seats : (last : Bool) (note : Note) (own : Fragment)
    → (if last then note_with note own (Some own) else note).seats ≡ note.seats
noted_seats true note own = refl
noted_seats false note own = refl

module _ (told : Told) (id number at_set : ℕ) (own : Fragment) (last : Bool) (me : Sat)
    (no_turn : me.0.turn ≡ idle) (live : 0 < length me.0.numbers) (numbered : number_of me.0.numbers ≡ number)
    (low : at_set < told.sets) (owned : IsOwn me.0.note own)
    (s : State (Unit {0}) Hand) (h : Ruled told s) (at : get_elem? s.views id ≡ some me.0) where
  v : Hand
  v = me.0

  no_claim : (q : ℕ) → claim q me.0 ≡ 0
  no_claim q = ap (λ (t : Turn). let n : ℕ = cond (is_at q t) (suc (number_of me.0.numbers)) 0 in n) no_turn

  no_hold : (q : ℕ) → turns_held q me.0 ≡ 0
  no_hold q = ap (λ (t : Turn). let n : ℕ = cond (is_at q t) 1 0 in n) no_turn

  no_work : (q place : ℕ) → at_work q place me.0.turn ≡ 0
  no_work q place = ap (at_work q place) no_turn

  claim_here : (q : ℕ) → at_set ≡ q → claim q (hand_taking at_set me.0) ≡ suc (number_of me.0.numbers)
  claim_here q e = ap (λ (b : Bool). let n : ℕ = cond b (suc (number_of me.0.numbers)) 0 in n) (eq-eqb at_set q e)

  claim_else : (q : ℕ) → at_set ≢ q → claim q (hand_taking at_set me.0) ≡ 0
  claim_else q ne = ap (λ (b : Bool). let n : ℕ = cond b (suc (number_of me.0.numbers)) 0 in n) (ne_eqb at_set q ne)

  hold_here : (q : ℕ) → turns_held q (hand_taking at_set me.0) ≤ 1
  hold_here q = at_most (eqb at_set q)
    where
      at_most : (b : Bool) → cond b 1 0 ≤ 1
      at_most true = omega arith
      at_most false = omega arith

  hold_else : (q : ℕ) → at_set ≢ q → turns_held q (hand_taking at_set me.0) ≡ 0
  hold_else q ne = ap (λ (b : Bool). let n : ℕ = cond b 1 0 in n) (ne_eqb at_set q ne)

  inside : turn_word at_set < length s.words
  inside = let x = h.wide in omega (arith, x, low)

  took : get_or s.words (turn_word at_set) 0 ≡ 0
      → Ruled told (stepped s (turn_word at_set) (number + 1) id me.1 (hand_taking at_set me.0) keeps)
  took free =
      let w : Hand = hand_taking at_set me.0 in
      let f = h.each id me.0 at in
      build told s h id me.0 w at refl refl (turn_word at_set) (number + 1) me.1 h.contents h.many h.ten
      (λ q lower. dite (ℕ_discrete at_set q)
      (λ same. (let a = claim_here q same in let b = no_claim q in
      let new : get_or (set s.words (turn_word at_set) (number + 1)) (turn_word q) 0 ≡ number + 1 =
      ap (λ x. get_or (set s.words (turn_word at_set) (number + 1)) (turn_word x) 0) (sym same)
      ∙ get_or-set_same s.words (turn_word at_set) (number + 1) 0 inside in
      let old : get_or s.words (turn_word q) 0 ≡ 0 = ap (λ x. get_or s.words (turn_word x) 0) (sym same) ∙ free in
      omega (arith, a, b, new, old, numbered)))
      (λ other. (let a = claim_else q other in let b = no_claim q in
      let keep : get_or (set s.words (turn_word at_set) (number + 1)) (turn_word q) 0 ≡ get_or s.words (turn_word q) 0 =
      get_or-set_other s.words (turn_word at_set) (turn_word q) (number + 1) 0 (λ e. other (omega (arith, e))) in
      omega (arith, a, b, keep))))
      (λ q. dite (ℕ_discrete at_set q)
      (λ same. (let t = total-set (turns_held q) s.views id me.0 w at in let a = no_hold q in let b = hold_here q in
      let fewer = holding_few q s.views in
      let none : total (claim q) s.views ≡ 0 =
      subst (λ x. total (claim x) s.views ≡ 0) same (h.turns at_set low ∙ free) in omega (arith, t, a, b, fewer, none)))
      (λ other. (let t = total-set (turns_held q) s.views id me.0 w at in let a = no_hold q in
      let b = hold_else q other in
      let o = h.once q in omega (arith, t, a, b, o))))
      (λ q place k lower lower' lower'' none. h.settled q place k lower lower' lower''
      (let t = total-set (λ hand. at_work q place hand.turn) s.views id me.0 w at in let a = no_work q place in
      omega (arith, t, none, a))
      ∙ sym (get_or-set_other s.words (turn_word at_set) (set_word q (10 * place + k)) (number + 1) 0
      (λ e. omega (arith, e, lower', lower''))))
      (λ j u ne e. frame_turn told.sets (number + 1) at_set s.words h.contents u (h.each j u e))
      record {
        seats = f.seats;
        gone = f.gone;
        live = live;
        turn =
            (low, omega arith, λ k below. absurd (omega (arith, below)));
      }
      (subst (Keeps told.timeouts told.sets h.contents) (sym (notes_same s.views id me.0 w at refl)) h.kept)

  kept_lost : (b : Bool) → Keeps told.timeouts told.sets h.contents
      (set (map (λ (hand : Hand). hand.note) s.views) id
      (if b then note_with me.0.note own (Some own) else me.0.note))
  kept_lost true = keeps_passed told.timeouts told.sets h.contents
      (map (λ (hand : Hand). hand.note) s.views) id me.0.note own h.kept
      (at_map (λ (hand : Hand). hand.note) s.views id me.0 at) owned.can
  kept_lost false = subst (Keeps told.timeouts told.sets h.contents)
      (sym (notes_same s.views id me.0 me.0 at refl) ∙ notes_set s.views id me.0) h.kept

  missed : (seats : ℕ)
      → Ruled told
      (stepped s (turn_word at_set) (get_or s.words (turn_word at_set) 0) id me.1
      (hand_losing (move_of_try seats at_set own last) me.0) keeps)
  missed seats =
      let n : ℕ = get_or s.words (turn_word at_set) 0 in
      let w : Hand = hand_losing (move_of_try seats at_set own last) me.0 in
      let f = h.each id me.0 at in
      let same : set s.words (turn_word at_set) n ≡ s.words = set-get_or s.words (turn_word at_set) 0 in
      let count : w.note.seats ≡ me.0.note.seats = noted_seats last me.0.note own in
      build told s h id me.0 w at refl count (turn_word at_set) n me.1 h.contents h.many h.ten
      (λ q lower. ap (λ ws. claim q me.0 + get_or ws (turn_word q) 0) (sym same))
      (λ q. (let t = total-set (turns_held q) s.views id me.0 w at in let o = h.once q in omega (arith, t, o)))
      (λ q place k lower lower' lower'' none. h.settled q place k lower lower' lower''
      (let t = total-set (λ hand. at_work q place hand.turn) s.views id me.0 w at in omega (arith, t, none))
      ∙ ap (λ ws. get_or ws (set_word q (10 * place + k)) 0) (sym same))
      (λ j u ne e. subst (λ ws. Fits told.sets ws h.contents u) (sym same) (h.each j u e))
      record {
        seats = count ∙ f.seats;
        gone =
            λ none. absurd (let one = owned.can.single in omega (arith, none, one, count));
        live = f.live;
        turn = subst (FitsTurn told.sets (set s.words (turn_word at_set) n) h.contents me.0.read) (sym no_turn) tt;
      }
      (subst (Keeps told.timeouts told.sets h.contents) (sym (notes_set s.views id w)) (kept_lost last))

  tells : (seats : ℕ) → seats ≡ told.seats → get_or s.words (turn_word at_set) 0 ≢ 0
      → (other : ℕ) × (get_or s.words (turn_word at_set) 0 ≡ suc other) × (other < seats)
      × (other ≢ number_of me.0.numbers) × (seats ≢ 1)
  tells seats all nz =
      let sum = h.turns at_set low in
      let one = some_one (claim at_set) s.views (omega (arith, sum, nz)) in
      let j : ℕ = one.0 in let u : Hand = one.1 in
      let holds_it : is_at at_set u.turn ≡ true = holds (is_at at_set u.turn) (number_of u.numbers) one.3 in
      let other : j ≢ id =
      λ same. (let is_u : u ≡ me.0 = some-injective u me.0 (sym one.2 ∙ (ap (get_elem? s.views) same ∙ at)) in
      let z : claim at_set u ≡ 0 = ap (claim at_set) is_u ∙ no_claim at_set in let p = one.3 in omega (arith, z, p)) in
      let holding_u : turns_held at_set u ≡ 1 = ap (λ (b : Bool). let n : ℕ = cond b 1 0 in n) holds_it in
      let claim_u : claim at_set u ≡ suc (number_of u.numbers) =
      ap (λ (b : Bool). let n : ℕ = cond b (suc (number_of u.numbers)) 0 in n) holds_it in
      let all_claims = one_claim at_set s.views j u (h.once at_set) one.2 holding_u in
      let live_u = alive at_set (length u.numbers) u.turn holds_it (h.each j u one.2).live in
      let ne = apart_numbers told s id j me.0 u h other at one.2 live live_u in (
        number_of u.numbers,
        sym sum ∙ (all_claims ∙ claim_u),
        (let b = number_low told s j u h one.2 live_u in omega (arith, b, all)),
        ne,
        λ single. ne (let a = number_low told s id me.0 h at live in let b = number_low told s j u h one.2 live_u in
            omega (arith, a, b, single, all)),
      )

pub takes : (told : Told) (slots id number at_set seats : ℕ) (own : Fragment) (last : Bool)
    (me : Sat) → seats ≡ told.seats
    → me.0.turn ≡ idle → 0 < length me.0.numbers → number_of me.0.numbers ≡ number → at_set < told.sets
    → IsOwn me.0.note own
    → Allows (Ruled told) slots id me (64 * at_set) (λ n. either (eqb n 0) (number + 1) n)
    (Takes (move_of_try seats at_set own last) (step slots (64 * at_set) 0 (number + 1) none) me)
takes told slots id number at_set seats own last me all no_turn live numbered low owned s h wide at fits =
    let n : ℕ = get_or s.words (64 * at_set) 0 in
    let move : Move = move_of_try seats at_set own last in
    let Goal : Bool → Type 0 = λ b. (w : Hand) × (a : Act (Unit {0})) × Valid s.homes me.1 a
    × Ruled told (stepped s (64 * at_set) (either b (number + 1) n) id me.1 w a)
    × ((64 * at_set ≡ turn_word at_set)
    × ((◌≡◌ {A = Sat} (w, carried_after me.1 a) (if b then hand_taking at_set me.0 else hand_losing move me.0, me.1))
    × (n ≢ 0 → (other : ℕ) × (n ≡ suc other) × (other < seats) × (other ≢ number_of me.0.numbers) × (seats ≢ 1)))) in
    dite (ℕ_discrete n 0)
    (λ free. subst Goal (sym (eq-eqb n 0 free)) (
      hand_taking at_set me.0,
      keeps,
      tt,
      took told id number at_set own last me no_turn live numbered low owned s h at free,
      (refl, (refl, λ nz. absurd (nz free))),
    ))
    (λ nz. subst Goal (sym (ne_eqb n 0 nz)) (
      hand_losing move me.0,
      keeps,
      tt,
      missed told id number at_set own last me no_turn live numbered low owned s h at seats,
      (refl, (refl, tells told id number at_set own last me no_turn live numbered low owned s h at seats all)),
    ))
