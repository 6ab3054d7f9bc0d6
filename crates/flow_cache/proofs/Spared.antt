-- How often a pass collects: steps that note the epoch as often as they pin, and what a pass does before a try.
use Rattle.std.proofs.Common.{◌≡◌, ◌≢◌, ◌<◌, ◌≤◌, ◌+◌, ◌∷◌, ℕ, Bool, true, false, List, Some, refl, sym, ◌∙◌, subst}
use Rattle.std.proofs.Common.{arith}
use Rattle.std.specs.Prelude.{if◌then◌else◌}
use mathlib.Core.Logic.{dite}
use native.Mathlib.Decide.{ℕ_discrete, dec_le}
use Rattle.pebr_core.specs.State.{Seat}
use Rattle.pebr_core.specs.declared.kinds.Answer.{Answer}
use Rattle.pebr_core.specs.declared.kinds.Step.TheVariants as step
use Rattle.pebr_words.specs.Pasts.{Load, Replaced, History, past_after, is_ejected, is_replaced, is_shown, shown_at}
use Rattle.pebr_words.specs.Pasts.{with_lost, without_slot, was_ejected, found_other}
use Rattle.pebr_roots.specs.Ends.{entered_past}
use Rattle.pebr_core.specs.declared.kinds.Shape.{Shape}
use Rattle.pebr_core.specs.Frames.{retired_count}
use Rattle.pebr_table.specs.Operations.{Op}
use Rattle.pebr_roots.specs.Orders.{HasMade}
use Rattle.pebr_roots.proofs.Counts.{made_on}
use Rattle.flow_cache.specs.Collecting.{HasCollected, HasBegun, HasSpared, CollectsFrom}
use Rattle.flow_cache.proofs.Sparing.{made_of, spared_none, spared_on}

pub spared_one : (old new : History) → new.notes ≡ old.notes → new.pins ≡ old.pins → HasCollected 0 old new
spared_one old new notes pins = omega (arith, notes, pins)

pub collected_one : (old new : History) → new.notes ≡ old.notes + 1 → new.pins ≡ old.pins → HasCollected 1 old new
collected_one old new notes pins = omega (arith, notes, pins)

pub collected_on : (a b : ℕ) (one two three : History) → HasCollected a one two → HasCollected b two three
    → HasCollected (a + b) one three
collected_on a b one two three s t = omega (arith, s, t)

itself : (past : History) → HasCollected 0 past past
itself past = omega arith

either : (b : Bool) (past one two : History) → HasCollected 0 past one → HasCollected 0 past two
    → HasCollected 0 past (if b then one else two)
either true past one two s t = s
either false past one two s t = t

-- to enter notes the epoch and pins
pub enter_spares : (i epoch : ℕ) (seat : Seat) (past : History) → HasCollected 0 past (entered_past i epoch seat past)
enter_spares i epoch seat past =
    let e : past.notes + 1 + past.pins ≡ past.notes + (past.pins + 1) + 0 = omega arith in e

pub check_spares : (i : ℕ) (a : Answer) (seat : Seat) (past : History)
    → HasCollected 0 past (past_after (step.Check i) a seat past)
check_spares i a seat past = either (is_ejected a) past (with_lost was_ejected past) past
    (either past.has_lost past past (record past { lost = was_ejected ∷ past.lost; has_lost = true }) (itself past)
    (itself past))
    (itself past)

pub replace_spares : (i root old new : ℕ) (a : Answer) (seat : Seat) (past : History)
    → HasCollected 0 past (past_after (step.Replace i root old new) a seat past)
replace_spares i root old new a seat past =
    let put : Replaced = record { root = root; slot = new; written = past.written } in
    let shown : Load = record { root = root; slot = new } in
    either (is_replaced a) past
    (record past { shown = shown ∷ past.shown; written = without_slot new past.written; put = Some put })
    (if is_shown (shown_at past.shown root) old then with_lost (found_other root) past else past) (itself past)
    (either (is_shown (shown_at past.shown root) old) past (with_lost (found_other root) past) past
    (either past.has_lost past past (record past { lost = found_other root ∷ past.lost; has_lost = true }) (itself past)
    (itself past))
    (itself past))

-- reading, writing and replacing
pub spared_put : (start mid end new : History) (i root slot fresh : ℕ) (a : Answer) (seat : Seat)
    → mid.notes ≡ start.notes → mid.pins ≡ start.pins → end.notes ≡ mid.notes → end.pins ≡ mid.pins
    → new ≡ past_after (step.Replace i root slot fresh) a seat end → HasCollected 0 start new
spared_put start mid end new i root slot fresh a seat n p n' p' is =
    collected_on 0 0 start mid new (spared_one start mid n p) (collected_on 0 0 mid end new (spared_one mid end n' p')
    (subst (HasCollected 0 end) (sym is) (replace_spares i root slot fresh a seat end)))

-- what began with a collection goes on
pub begun_on : (shape : Shape) (me : ℕ) (known : Seat) (past : History) (old mid new : List Op) (n : ℕ)
    → HasBegun shape me known past old mid → HasMade n mid new → HasBegun shape me known past old new
begun_on shape me known past old mid new n h more = record {
  ended = h.ended;
  past' = h.past';
  mid = h.mid;
  collection = h.collection;
  most = h.most + n;
  later = made_on h.most n h.mid mid new h.later more;
}

-- what is collected before the first try, by how many slots are retired then, and how many are fresh behind the first
-- collection
pub collects_from : (shape : Shape) (me : ℕ) (known : Seat) (fresh : ℕ) (old mid new : History)
    (x y z : List Op) (n : ℕ)
    → (32 ≤ retired_count known → HasCollected 1 old mid)
    → (32 ≤ retired_count known → HasBegun shape me known old x y)
    → (retired_count known < 32 → HasCollected 0 old mid × (y ≡ x)) → (fresh ≡ 0 → HasCollected 1 mid new)
    → (0 < fresh → HasCollected 0 mid new × (z ≡ y)) → (retired_count known < 32 → 0 < fresh) → HasMade n y z
    → CollectsFrom shape me known old new x z
collects_from shape me known fresh old mid new x y z n many begun few none some room more =
    dite (dec_le 32 retired)
    (λ (high : 32 ≤ retired). dite (ℕ_discrete fresh 0)
    (λ (empty : fresh ≡ 0). record {
      times = 2;
      collected = collected_on 1 1 old mid new (many high) (none empty);
      most = omega arith;
      from = λ is. (omega arith, begun_on shape me known old x y z n (begun is) more);
      below = λ low. absurd (omega (arith, low, high));
    })
    (λ (full : fresh ≢ 0). record {
      times = 1;
      collected = collected_on 1 0 old mid new (many high) (some (omega (arith, full))).0;
      most = omega arith;
      from = λ is. (omega arith, begun_on shape me known old x y z n (begun is) more);
      below = λ low. absurd (omega (arith, low, high));
    }))
    (λ (below : ¬ (32 ≤ retired)). (let low : retired < 32 = omega (arith, below) in record {
      times = 0;
      collected = collected_on 0 0 old mid new (few low).0 (some (room low)).0;
      most = omega arith;
      from = λ is. absurd (below is);
      below = λ is. (refl, 0, spared_none shape me x z ((some (room low)).1 ∙ (few low).1));
    }))
  where
    retired : ℕ
    retired = retired_count known

-- and the tries behind it collect nothing
pub collects_on : (shape : Shape) (me me' : ℕ) (known : Seat) (old mid new : History) (x y z : List Op) (n : ℕ)
    → me' ≡ me → CollectsFrom shape me known old mid x y → HasCollected 0 mid new → HasSpared shape me' n y z
    → CollectsFrom shape me known old new x z
collects_on shape me me' known old mid new x y z n same room spared more = record {
  times = room.times;
  collected = (let c = room.collected in omega (arith, c, spared));
  most = room.most;
  from = λ is. (
    (room.from is).0,
    begun_on shape me known old x y z n (room.from is).1
        (made_of shape me' n y z more),
  );
  below = λ low. (let b = room.below low in
      (b.0, b.1 + n, spared_on shape me b.1 n me' x y z same b.2 more));
}
