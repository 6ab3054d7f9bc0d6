-- How many operations are made.
use Rattle.std.proofs.Common.{◌≡◌, ◌≢◌, ℕ, ◌+◌, ◌*◌, ◌≤◌, Bool, true, false, List, [], ◌∷◌, ◌++◌, length, refl, sym, ap}
use Rattle.std.proofs.Common.{◌∙◌, subst, arith, append_assoc}
use Rattle.std.specs.Prelude.{if◌then◌else◌, nat_lt}
use Rattle.std.specs.List.{range_with_len}
use Rattle.std.proofs.lemmas.List.{length-append}
use Rattle.std.proofs.lemmas.List.FromFn.{length-range_with_len}
use mathlib.Core.Logic.{dite}
use native.Mathlib.Decide.{ℕ_discrete}
use Rattle.pebr_table.specs.Operations.{Op, load, exchange}
use Rattle.pebr_core.specs.declared.kinds.Shape.{Shape}
use Rattle.pebr_core.specs.State.{Seat}
use Rattle.pebr_core.specs.Steps.{after_note, last_epoch}
use Rattle.pebr_words.specs.Places.{index, epoch_word, shield_word}
use Rattle.pebr_words.specs.Pasts.{History}
use Rattle.pebr_roots.specs.Orders.{HasMade, AreMade, ButFor, HasCleared, HasPassed, HasScannedOne, HasScannedSome}
use Rattle.pebr_roots.specs.Orders.{opened_operations}
use Rattle.pebr_roots.specs.Orders.{is_passable, HasMadeCollection, HasEndedAt}

pub made_none : (old new : List Op) → new ≡ old → HasMade 0 old new
made_none old new is = record { made = []; is = is; few = omega arith }

pub made_one : (o : Op) (old new : List Op) → new ≡ o ∷ old → HasMade 1 old new
made_one o old new is = record { made = o ∷ []; is = is; few = omega arith }

pub made_two : (o p : Op) (old new : List Op) → new ≡ o ∷ p ∷ old → HasMade 2 old new
made_two o p old new is = record { made = o ∷ p ∷ []; is = is; few = omega arith }

pub made_on : (a b : ℕ) (x y z : List Op) → HasMade a x y → HasMade b y z → HasMade (a + b) x z
made_on a b x y z h k =
    let long = length-append k.made h.made in
    let p = h.few in let q = k.few in
    record {
      made = k.made ++ h.made;
      is = k.is ∙ (ap (λ l. k.made ++ l) h.is ∙ sym (append_assoc k.made h.made x));
      few = omega (arith, long, p, q);
    }

pub made_in : (a b : ℕ) (x y : List Op) → a ≤ b → HasMade a x y → HasMade b x y
made_in a b x y low h = let p = h.few in record { made = h.made; is = h.is; few = omega (arith, p, low) }

-- there are at most so many, by the lengths
pub made_by : (a b : ℕ) (x y : List Op) → HasMade a x y → length y ≤ length x + b → HasMade b x y
made_by a b x y h few =
    let long = ap length h.is ∙ length-append h.made x in
    record { made = h.made; is = h.is; few = omega (arith, long, few) }

pub made_each : (makes : ℕ → List Op → List Op → Type 0) (n : ℕ) (js : List ℕ) (x y : List Op)
    → ((j : ℕ) (a b : List Op) → makes j a b → HasMade n a b) → AreMade makes js x y → HasMade (n * length js) x y
made_each makes n [] x y each is = made_in 0 (n * length {A = ℕ} []) x y (omega arith) (made_none x y is)
made_each makes n (j ∷ js) x y each h =
    let e : n * length (j ∷ js) ≡ n + n * length js = omega arith in
    subst (λ m. HasMade m x y) (sym e)
    (made_on n (n * length js) x h.0 y (each j x h.0 h.1) (made_each makes n js h.0 y each h.2))

pub cleared_few : (shape : Shape) (me : ℕ) (x y : List Op) → HasCleared shape me x y → HasMade shape.shields x y
cleared_few shape me x y h =
    let all = made_each _ 1 (range_with_len 0 shape.shields) x y (λ j a b is. made_one _ a b is) h in
    let long = length-range_with_len 0 shape.shields in
    made_in (1 * length (range_with_len 0 shape.shields)) shape.shields x y (omega (arith, long)) all

but_few : (me n j : ℕ) (makes : ℕ → List Op → List Op → Type 0) (x y : List Op)
    → ((a b : List Op) → makes j a b → HasMade n a b) → ButFor me makes j x y → HasMade n x y
but_few me n j makes x y each h = dite (ℕ_discrete j me)
    (λ (same : j ≡ me). made_in 0 n x y (omega arith) (made_none x y (h.0 same)))
    (λ (apart : j ≢ me). each x y (h.1 apart))

passed_few : (shape : Shape) (known : Seat) (force : Bool) (other : ℕ) (result : Bool) (x y : List Op)
    → HasPassed shape known force other result x y → HasMade 2 x y
passed_few shape known force other result x y h = by (is_passable known h.status) refl
  where
    forced : (b : Bool) → is_passable known h.status ≡ false → force ≡ b → HasMade 2 x y
    forced true is e = let all = h.ejected is e in made_two _ _ x y all.2
    forced false is e = made_in 1 2 x y (omega arith) (made_one _ x y (h.held_up is e).1)

    by : (b : Bool) → is_passable known h.status ≡ b → HasMade 2 x y
    by true is = made_in 1 2 x y (omega arith) (made_one _ x y (h.passed is).1)
    by false is = forced force is refl

opened_few : (shape : Shape) (noted found : ℕ) (x y : List Op) → y ≡ opened_operations shape noted found x
    → HasMade 2 x y
opened_few shape noted found x y is = by (nat_lt noted last_epoch) is
  where
    by : (b : Bool) → y ≡ (if b
        then exchange (index shape epoch_word) noted (noted + 1) found ∷ load (index shape epoch_word) noted ∷ x
        else load (index shape epoch_word) noted ∷ x) → HasMade 2 x y
    by true is = made_two _ _ x y is
    by false is = made_in 1 2 x y (omega arith) (made_one _ x y is)

-- some were made
abbrev More : List Op → List Op → Type 0
More x y = (n : ℕ) × HasMade n x y

more_on : (x y z : List Op) → More x y → More y z → More x z
more_on x y z h k = (h.0 + k.0, made_on h.0 k.0 x y z h.1 k.1)

module _ (shape : Shape) (known : Seat) (force : Bool) (me : ℕ) where
  passing : (js : List ℕ) (x y : List Op)
      → AreMade (ButFor me (λ j. HasPassed shape known force j true)) js x y → More x y
  passing js x y all = (
    2 * length js,
    made_each (ButFor me (λ j. HasPassed shape known force j true)) 2 js x y
        (λ j l r. but_few me 2 j (λ k. HasPassed shape known force k true) l r
        (λ p q. passed_few shape known force j true p q)) all,
  )

  scanned_few : (n j : ℕ) (x y : List Op) → n ≡ 1 * length (range_with_len 0 shape.shields)
      → HasScannedSome shape j shape.shields x y → HasMade n x y
  scanned_few n j x y is all = subst (λ m. HasMade m x y) (sym is)
      (made_each (HasScannedOne shape j) 1 (range_with_len 0 shape.shields) x y
      (λ k l r made. made_one (load (index shape (shield_word j k)) made.0) l r made.1) all)

  scanning : (n : ℕ) (js : List ℕ) (x y : List Op) → n ≡ 1 * length (range_with_len 0 shape.shields)
      → AreMade (ButFor me (λ j. HasScannedSome shape j shape.shields)) js x y → More x y
  scanning n js x y is all = (
    n * length js,
    made_each (ButFor me (λ j. HasScannedSome shape j shape.shields)) n js x y
        (λ j l r. but_few me n j (λ k. HasScannedSome shape k shape.shields) l r
        (λ p q. scanned_few n j p q is)) all,
  )

-- a whole collection only adds operations
pub collection_more : (shape : Shape) (force : Bool) (me : ℕ) (known : Seat) (ended : Bool) (past past' : History)
    (x y : List Op) → HasMadeCollection shape force me known ended past past' x y → (n : ℕ) × HasMade n x y
collection_more shape force me known true past past' x y h =
    let seen : Seat = after_note shape h.noted known in
    let begun : List Op = opened_operations shape h.noted h.found x in
    let w = h.whole refl in
    more_on x w.1 y
    (more_on x w.0 w.1 (more_on x begun w.0 (2, opened_few shape h.noted h.found x begun refl)
    (passing shape seen force me (range_with_len 0 shape.seats) begun w.0 w.3))
    (scanning shape seen force me (1 * length (range_with_len 0 shape.shields)) (range_with_len 0 shape.seats) w.0 w.1
    refl w.4))
    (1, made_one (load (index shape epoch_word) w.2) w.1 y w.5)
collection_more shape force me known false past past' x y h =
    let seen : Seat = after_note shape h.noted known in
    let begun : List Op = opened_operations shape h.noted h.found x in
    let w : HasEndedAt shape seen force me begun y = h.held_up refl in
    more_on x w.mid y (more_on x begun w.mid (2, opened_few shape h.noted h.found x begun refl)
    (passing shape seen force me (range_with_len 0 w.other) begun w.mid w.before))
    (2, passed_few shape seen force w.other false w.mid y w.last)
