-- The state at the start is sound.
use Rattle.std.proofs.Common.{◌≡◌, ℕ, ◌<◌, ◌+◌, ◌-◌, ◌*◌, ◌≤◌, zero, suc, min, max, false, ◌&&◌, [], length, map}
use Rattle.std.proofs.Common.{replicate, None, cond, refl, sym, ◌∙◌, ap, subst, inl, inr, arith, count_by, sum_by, eqb}
use Rattle.std.proofs.Common.{ltb, leb, add-zero, zero-add, zero-mul, add-mul, suc-mul, mul-le-mul_right}
use Rattle.std.specs.List.{range_with_len}
use Rattle.std.proofs.lemmas.Bool.{cases_lt}
use Rattle.std.proofs.lemmas.Bool.Decides.{nat_tests}
use Rattle.std.proofs.lemmas.Option.{none-some}
use Rattle.std.proofs.lemmas.List.{length-replicate, get_or-replicate, get_or_past}
use Rattle.std.proofs.lemmas.List.FromFn.{length-range_with_len, get_or-range_with_len, length-map-range_with_len}
use Rattle.std.proofs.lemmas.List.FromFn.{get_or-map-range_with_len}
use Rattle.std.proofs.lemmas.List.Sums.{sum_by-cons}
use Rattle.pebr_core.specs.declared.kinds.Shape.{Shape}
use Rattle.pebr_core.specs.declared.kinds.Stance.TheVariants as stance
use Rattle.pebr_core.specs.declared.kinds.Retired.TheVariants as retire
use Rattle.pebr_core.specs.declared.kinds.ShieldAt.TheVariants as shield
use Rattle.pebr_core.specs.State.{Seat, seat_at, shield_at, retired_at, is_retired, nobody, is_share_of, first_seat}
use Rattle.pebr_core.specs.State.{start_state, slots_per_seat, slot_count}
use Rattle.pebr_core.specs.Kept.{times_held, times_in, IsPinnedUpTo, IsTaggedUpTo, held_count, IsSeatOfShape, IsSound}
use Rattle.pebr_core.proofs.Marks.{get_or-replicate_default}
use Rattle.pebr_core.proofs.SeatChange.{Alone, Between, kept_from}

-- a seat that has done nothing
record IsQuiet (seat : Seat) : Type 0 where
  out : seat.status ≡ stance.Out
  noted : seat.noted ≡ 0
  scan : seat.scan ≡ None
  shields : (place : ℕ) → shield_at seat place ≡ shield.Down
  retired : (slot : ℕ) → retired_at seat slot ≡ retire.No

quiet-alone : (i : ℕ) (seat : Seat) → IsQuiet seat → Alone 0 i seat
quiet-alone i seat h = (
  let e = h.noted in omega arith,
  subst_out,
  λ slot. subst (IsTaggedUpTo 0) (sym (h.retired slot)) tt,
  λ scan e. absurd (none-some scan (sym h.scan ∙ e)),
)
  where
    subst_out : IsPinnedUpTo 0 seat.status
    subst_out = subst (IsPinnedUpTo 0) (sym h.out) tt

quiet-between : (owner : Seat) (j : ℕ) (reader : Seat) → IsQuiet owner → IsQuiet reader → Between owner j reader
quiet-between owner j reader h k = (
  λ slot uses. elim uses [
    | inl valid ↦ let down = k.shields valid.0 in absurd (down_valid slot (sym down ∙ valid.1))
    | inr seen ↦ absurd (out_in seen.0 (sym k.out ∙ seen.1))
  ],
  λ slot tag epoch at. absurd (out_in epoch (sym k.out ∙ at)),
  λ scan e. absurd (none-some scan (sym h.scan ∙ e)),
  λ scan e. absurd (none-some scan (sym h.scan ∙ e)),
  λ scan e. absurd (none-some scan (sym h.scan ∙ e)),
)
  where
    down_valid : (slot : ℕ) → shield.Down ≡ shield.Valid slot → ⊥
    down_valid slot e = cc

    out_in : (epoch : ℕ) → stance.Out ≡ stance.In epoch → ⊥
    out_in epoch e = cc

first-quiet : (shape : Shape) (i : ℕ) → IsQuiet (first_seat shape i)
first-quiet shape i = record {
  out = refl;
  noted = refl;
  scan = refl;
  shields = λ place. get_or-replicate_default shape.shields place shield.Down;
  retired = λ slot. get_or-replicate_default (slot_count shape) slot retire.No;
}

nobody-quiet : IsQuiet nobody
nobody-quiet = record { out = refl; noted = refl; scan = refl; shields = λ place. refl; retired = λ slot. refl }

start_seat : (shape : Shape) (i : ℕ) → i < shape.seats → seat_at (start_state shape) i ≡ first_seat shape i
start_seat shape i inside = get_or-map-range_with_len (first_seat shape) 0 shape.seats i i nobody inside (zero-add i)

start-quiet : (shape : Shape) (i : ℕ) → IsQuiet (seat_at (start_state shape) i)
start-quiet shape i = elim (cases_lt i shape.seats) [
  | inl inside ↦ subst IsQuiet (sym (start_seat shape i inside)) (first-quiet shape i)
  | inr past ↦ subst IsQuiet
      (sym (get_or_past (map (first_seat shape) (range_with_len 0 shape.seats)) i nobody
      (let n = length-map-range_with_len (first_seat shape) 0 shape.seats in omega arith))) nobody-quiet
]

first-shape : (shape : Shape) (i : ℕ) → IsSeatOfShape shape (first_seat shape i)
first-shape shape i = record {
  seen = length-replicate (slot_count shape) false;
  shields = length-replicate shape.shields shield.Down;
  fresh = length-map-range_with_len (is_share_of shape i) 0 (slot_count shape);
  retired = length-replicate (slot_count shape) retire.No;
  scan = λ scan e. absurd (none-some scan e);
  set = λ place slot e. absurd (down_set slot (sym (get_or-replicate_default shape.shields place shield.Down) ∙ e));
  valid = λ place slot e. absurd (down_valid slot (sym (get_or-replicate_default shape.shields place shield.Down) ∙ e));
}
  where
    down_set : (slot : ℕ) → shield.Down ≡ shield.Set slot → ⊥
    down_set slot e = cc

    down_valid : (slot : ℕ) → shield.Down ≡ shield.Valid slot → ⊥
    down_valid slot e = cc

-- counts over ranges

-- 1 where a number lies from low on and below high
abbrev within : ℕ → ℕ → ℕ → ℕ
within low high n = cond (leb low n && ltb n high) 1 0

within-joined : (low middle high n : ℕ) → low ≤ middle → middle ≤ high
    → within low middle n + within middle high n ≡ within low high n
within-joined low middle high n a b = grind (arith, nat_tests)

within-none : (low n : ℕ) → within low low n ≡ 0
within-none low n = grind (arith, nat_tests)

within-yes : (low high n : ℕ) → low ≤ n → n < high → within low high n ≡ 1
within-yes low high n a b = grind (arith, nat_tests)

within-one : (a n : ℕ) → cond (eqb a n) 1 0 ≡ within a (a + 1) n
within-one a n = grind (arith, nat_tests)

count-range : (n a m : ℕ) → count_by (λ x. eqb x n) (range_with_len a m) ≡ within a (a + m) n
count-range n a zero = sym (ap (λ k. within a k n) (add-zero a) ∙ within-none a n)
count-range n a (suc m) =
    sum_by-cons (λ x. cond (eqb x n) 1 0) a (range_with_len (a + 1) m)
    ∙ (ap (λ k. cond (eqb a n) 1 0 + k) (count-range n (a + 1) m)
    ∙ (ap (λ k. k + within (a + 1) (a + 1 + m) n) (within-one a n)
    ∙ (within-joined a (a + 1) (a + 1 + m) n (omega arith) (omega arith)
    ∙ ap (λ k. within a k n) (let e : a + 1 + m ≡ a + suc m = omega arith in e))))

-- neighbouring parts of one size
parts-range : {X : Type 0} (f : X → ℕ) (g : ℕ → X) (base size n : ℕ)
    → ((i : ℕ) → f (g i) ≡ within (base + i * size) (base + (i + 1) * size) n) → (a m : ℕ)
    → sum_by f (map g (range_with_len a m)) ≡ within (base + a * size) (base + (a + m) * size) n
parts-range f g base size n each a zero =
    sym (ap (λ k. within (base + a * size) (base + k * size) n) (add-zero a) ∙ within-none (base + a * size) n)
parts-range f g base size n each a (suc m) =
    sum_by-cons f (g a) (map g (range_with_len (a + 1) m))
    ∙ (ap (λ k. k + sum_by f (map g (range_with_len (a + 1) m))) (each a)
    ∙ (ap (λ k. within (base + a * size) (base + (a + 1) * size) n + k) (parts-range f g base size n each (a + 1) m)
    ∙ (within-joined (base + a * size) (base + (a + 1) * size) (base + (a + 1 + m) * size) n
    (omega (arith, add-mul a 1 size)) (omega (arith, add-mul (a + 1) m size))
    ∙ ap (λ k. within (base + a * size) (base + k * size) n) (let e : a + 1 + m ≡ a + suc m = omega arith in e))))

first-held : (shape : Shape) (slot i : ℕ) → slot < slot_count shape
    → times_held slot (first_seat shape i) ≡ within (shape.roots + i * slots_per_seat shape)
    (shape.roots + (i + 1) * slots_per_seat shape) slot
first-held shape slot i inside =
    ap (λ b. cond b 1 0 + cond (is_retired (retired_at (first_seat shape i) slot)) 1 0)
    (get_or-map-range_with_len (is_share_of shape i) 0 (slot_count shape) slot slot false inside (zero-add slot))
    ∙ (ap (λ r. within (shape.roots + i * slots_per_seat shape) (shape.roots + (i + 1) * slots_per_seat shape) slot
    + cond (is_retired r) 1 0) (get_or-replicate_default (slot_count shape) slot retire.No)
    ∙ add-zero (within (shape.roots + i * slots_per_seat shape) (shape.roots + (i + 1) * slots_per_seat shape) slot))

start-once : (shape : Shape) (slot : ℕ) → slot < slot_count shape → times_in (start_state shape) slot ≡ 1
start-once shape slot inside =
    let k = slots_per_seat shape in
    let roots = count-range slot 0 shape.roots in
    let seats = parts-range (times_held slot) (first_seat shape) shape.roots k slot
    (λ i. first-held shape slot i inside) 0 shape.seats in
    let start : shape.roots + 0 * k ≡ 0 + shape.roots = omega (arith, zero-mul k) in
    let end : shape.roots + (0 + shape.seats) * k ≡ slot_count shape =
    ap (λ m. shape.roots + m * k) (zero-add shape.seats) in
    ap (λ m. m + sum_by (times_held slot) (map (first_seat shape) (range_with_len 0 shape.seats))) roots
    ∙ (ap (λ m. within 0 (0 + shape.roots) slot + m) seats
    ∙ (ap (λ m. within 0 (0 + shape.roots) slot + within m (shape.roots + (0 + shape.seats) * k) slot) start
    ∙ (ap (λ m. within 0 (0 + shape.roots) slot + within (0 + shape.roots) m slot) end
    ∙ (within-joined 0 (0 + shape.roots) (slot_count shape) slot (omega arith) (omega arith)
    ∙ within-yes 0 (slot_count shape) slot (omega arith) inside))))

-- how many numbers of a range lie from low on and below high
count-within : (low high a m : ℕ) → count_by (λ b. b) (map (λ n. leb low n && ltb n high) (range_with_len a m))
    ≡ min high (a + m) - max low a
count-within low high a zero = let e : 0 ≡ min high (a + 0) - max low a = omega arith in e
count-within low high a (suc m) =
    sum_by-cons (λ b. cond b 1 0) (leb low a && ltb a high)
    (map (λ n. leb low n && ltb n high) (range_with_len (a + 1) m))
    ∙ (ap (λ k. within low high a + k) (count-within low high (a + 1) m)
    ∙ one_more low high a m)
  where
    one_more : (low high a m : ℕ) → within low high a + (min high (a + 1 + m) - max low (a + 1))
        ≡ min high (a + suc m) - max low a
    one_more low high a m = grind (arith, nat_tests)

count-none : (n : ℕ) → count_by is_retired (replicate n retire.No) ≡ 0
count-none zero = refl
count-none (suc n) = sum_by-cons (λ r. cond (is_retired r) 1 0) retire.No (replicate n retire.No)
    ∙ (zero-add (count_by is_retired (replicate n retire.No)) ∙ count-none n)

first-count : (shape : Shape) (i : ℕ) → i < shape.seats → held_count (first_seat shape i) ≡ slots_per_seat shape
first-count shape i inside =
    let k = slots_per_seat shape in
    let fresh = count-within (shape.roots + i * k) (shape.roots + (i + 1) * k) 0 (slot_count shape) in
    let retired = count-none (slot_count shape) in
    let below = mul-le-mul_right k inside in
    omega (arith, fresh, retired, add-mul i 1 k, suc-mul i k, below)

pub start_sound : (shape : Shape) → IsSound (start_state shape)
start_sound shape = record {
  shape = record {
    roots = length-range_with_len 0 shape.roots;
    slots = λ root inside. let e = get_or-range_with_len 0 shape.roots root 0 inside in omega (arith, e);
    words = length-replicate (slot_count shape) (replicate shape.width 0);
    width = λ slot inside. ap length (get_or-replicate (slot_count shape) slot (replicate shape.width 0) [] inside)
        ∙ length-replicate shape.width 0;
    seats = length-map-range_with_len (first_seat shape) 0 shape.seats;
    each = λ i inside. subst (IsSeatOfShape shape) (sym (start_seat shape i inside)) (first-shape shape i);
  };
  kept = kept_from (start_state shape) (omega arith) (start-once shape)
      (λ i. quiet-alone i (seat_at (start_state shape) i) (start-quiet shape i))
      (λ i j. quiet-between (seat_at (start_state shape) i) j (seat_at (start_state shape) j) (start-quiet shape i)
      (start-quiet shape j));
  holding = λ i inside. ap held_count (start_seat shape i inside) ∙ first-count shape i inside;
}
