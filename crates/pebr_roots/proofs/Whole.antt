-- What a whole collection comes to.
use Rattle.std.proofs.Common.{◌≡◌, ℕ, zero, suc, ◌+◌, ◌-◌, ◌*◌, ◌<◌, ◌≤◌, ⊎_elim, Bool, true, false, List, []}
use Rattle.std.proofs.Common.{◌∷◌, get_or, map, replicate, cond, refl, sym, ap, ◌∙◌, subst, arith, count_by, add-mul}
use Rattle.std.proofs.Common.{one-mul}
use Rattle.std.specs.Prelude.{IsTrue}
use Rattle.std.proofs.lemmas.Bool.{false≢true}
use Rattle.std.proofs.lemmas.List.Sums.{sum_by-cons}
use Rattle.pebr_core.specs.declared.kinds.Shape.{Shape}
use Rattle.pebr_core.specs.declared.kinds.Stance.{Stance}
use Rattle.pebr_core.specs.declared.kinds.Stance.TheVariants as stance
use Rattle.pebr_core.specs.declared.kinds.Retired.{Retired}
use Rattle.pebr_core.specs.declared.kinds.Retired.TheVariants as retire
use Rattle.pebr_core.specs.declared.kinds.Step.TheVariants as step
use Rattle.pebr_core.specs.declared.kinds.Answer.{Answer}
use Rattle.pebr_core.specs.declared.kinds.Answer.TheVariants as answer
use Rattle.pebr_core.specs.State.{State, Seat, has, scan_of, has_scanned, seat_at, is_out, is_retired}
use Rattle.pebr_core.specs.State.{slots_per_seat}
use Rattle.pebr_core.specs.Steps.{is_scanning, is_enabled, after_note, after_give, given_slots, tag_with}
use Rattle.pebr_core.specs.Kept.{IsSound, held_count}
use Rattle.pebr_core.specs.Frames.{kept_count, fresh_count, retired_count}
use Rattle.pebr_words.specs.Making.{IsStepOf, IsAsKnown}
use Rattle.pebr_words.specs.Pasts.{History, past_after}
use Rattle.pebr_roots.specs.Collecting.{IsScanning, HasOpened, HasLooked, IsCollected, HasCollected}
use Rattle.pebr_roots.proofs.Scans.{scanning_on, looked_on}

is_tagged : (epoch : ℕ) (r : Retired) → is_retired (tag_with epoch r) ≡ is_retired r
is_tagged epoch retire.No = refl
is_tagged epoch retire.Untagged = refl
is_tagged epoch (retire.Tagged tag) = refl

-- a Note retires no slot and gives none
pub tagged_count : (epoch : ℕ) (slots : List Retired)
    → count_by is_retired (map (tag_with epoch) slots) ≡ count_by is_retired slots
tagged_count epoch [] = refl
tagged_count epoch (r ∷ slots) =
    let rest = tagged_count epoch slots in
    let a = sum_by-cons (λ x. cond (is_retired x) 1 0) (tag_with epoch r) (map (tag_with epoch) slots) in
    let b = sum_by-cons (λ x. cond (is_retired x) 1 0) r slots in
    let head : ◌≡◌ {A = ℕ} (cond (is_retired (tag_with epoch r)) 1 0) (cond (is_retired r) 1 0) =
    ap (λ b. cond b 1 0) (is_tagged epoch r) in
    omega (arith, rest, a, b, head)

-- what a seat is whose scan was opened, and went on
pub opened_as : (shape : Shape) (epoch : ℕ) (old opened new : Seat) → opened ≡ after_note shape epoch old
    → IsScanning opened new → new ≡ record (after_note shape epoch old) { scan = new.scan }
opened_as shape epoch old opened new is scan = scan.rest ∙ ap (λ (s : Seat). record s { scan = new.scan }) is

pub opened_held : (shape : Shape) (epoch : ℕ) (old opened new : Seat) → opened ≡ after_note shape epoch old
    → IsScanning opened new → held_count new ≡ held_count old
opened_held shape epoch old opened new is scan =
    ap held_count (opened_as shape epoch old opened new is scan)
    ∙ ap (λ n. count_by (λ fresh. fresh) old.fresh + n) (tagged_count epoch old.retired)

pub opened_retired : (shape : Shape) (epoch : ℕ) (old opened new : Seat) → opened ≡ after_note shape epoch old
    → IsScanning opened new → retired_count new ≡ retired_count old
opened_retired shape epoch old opened new is scan =
    ap retired_count (opened_as shape epoch old opened new is scan) ∙ tagged_count epoch old.retired

none_in : (m j : ℕ) → has (replicate m false) j ≡ false
none_in zero j = refl
none_in (suc m) zero = refl
none_in (suc m) (suc j) = none_in m j

none_of : (n m j place : ℕ) → has (get_or (replicate n (replicate m false)) j []) place ≡ false
none_of zero m j place = refl
none_of (suc n) m zero place = none_in m place
none_of (suc n) m (suc j) place = none_of n m j place

-- no shield was read when the scan was opened
pub unread_at : (shape : Shape) (epoch : ℕ) (old opened : Seat) → opened ≡ after_note shape epoch old → (j place : ℕ)
    → has_scanned (scan_of opened) j place ≡ false
unread_at shape epoch old opened is j place =
    ap (λ (s : Seat). has_scanned (scan_of s) j place) is ∙ none_of shape.seats shape.shields j place

out_is : (s : Stance) → is_out s ≡ true → s ≡ stance.Out
out_is stance.Out h = refl
out_is (stance.In epoch) h = absurd (false≢true h)
out_is (stance.Ejected epoch) h = absurd (false≢true h)

-- a seat that is out is as it knows itself
as_known : (known actual : Seat) → is_out known.status ≡ true → IsAsKnown known actual → actual ≡ known
as_known known actual out h = ⊎_elim (λ (e : actual ≡ known). e)
    (λ (e : (epoch : ℕ) × (known.status ≡ stance.In epoch) × (actual ≡ record known { status = stance.Ejected epoch })).
    absurd (let z : stance.Out ≡ stance.In e.0 = sym (out_is known.status out) ∙ e.1 in cc)) h

-- the laws of the core on what is given
pub record GiveLaws : Type 0 where
  pub left_law : (state : State) (i epoch : ℕ) → IsSound state → IsTrue (is_enabled state (step.Give i))
      → retired_count (after_give epoch (seat_at state i)) ≡ kept_count (seat_at state i)
  pub given_law : (state : State) (i epoch : ℕ) → IsSound state → IsTrue (is_enabled state (step.Give i))
      → count_by (λ mark. mark) (given_slots (seat_at state i)) + kept_count (seat_at state i)
      ≡ retired_count (seat_at state i)
  pub fresh_law : (state : State) (i epoch : ℕ) → IsSound state → IsTrue (is_enabled state (step.Give i))
      → fresh_count (after_give epoch (seat_at state i))
      ≡ fresh_count (seat_at state i) + count_by (λ mark. mark) (given_slots (seat_at state i))

abbrev given_in : Answer → ℕ
given_in (answer.Given a b) = a
given_in _ = 0

abbrev left_in : Answer → ℕ
left_in (answer.Given a b) = b
left_in _ = 0

same_noted : (known actual : Seat) → IsAsKnown known actual → actual.noted ≡ known.noted
same_noted known actual h = ⊎_elim (λ (e : actual ≡ known). ap (λ (s : Seat). s.noted) e)
    (λ (e : (epoch : ℕ) × (known.status ≡ stance.In epoch) × (actual ≡ record known { status = stance.Ejected epoch })).
    ap (λ (s : Seat). s.noted) e.2) h

module _ (laws : GiveLaws) (shape : Shape) (me many left : ℕ) (scanned new : Seat) (out : is_out scanned.status ≡ true)
    (inside : me < shape.seats)
    (made : IsStepOf shape (step.Give me) (answer.Given many left) scanned new)
    (new_is : new ≡ after_give new.noted scanned) where
  is_known : seat_at made.core me ≡ scanned
  is_known = as_known scanned (seat_at made.core me) out made.before

  many_raw : many ≡ count_by (λ mark. mark) (given_slots (seat_at made.core me))
  many_raw = ap given_in made.answered

  left_raw : left ≡ retired_count (after_give made.core.epoch (seat_at made.core me))
  left_raw = ap left_in made.answered

  pub left_new : left ≡ retired_count new
  left_new =
      left_raw ∙ (ap (λ (s : Seat). retired_count (after_give made.core.epoch s)) is_known
      ∙ sym (ap retired_count new_is))

  pub left_kept : left ≡ kept_count scanned
  left_kept = left_raw ∙ (laws.left_law made.core me made.core.epoch made.sound made.enabled ∙ ap kept_count is_known)

  pub all_retired : many + left ≡ retired_count scanned
  all_retired =
      let a = many_raw in
      let b = left_raw ∙ laws.left_law made.core me made.core.epoch made.sound made.enabled in
      let k = laws.given_law made.core me made.core.epoch made.sound made.enabled in
      let r = ap retired_count is_known in
      omega (arith, a, b, k, r)

  pub fresh_more : fresh_count new ≡ fresh_count scanned + many
  fresh_more =
      let f = ap fresh_count new_is in
      let k = laws.fresh_law made.core me new.noted made.sound made.enabled in
      let s = ap (λ (s : Seat). fresh_count (after_give new.noted s)) is_known in
      let t = ap fresh_count is_known in
      let a = many_raw in
      omega (arith, f, k, s, t, a)

  pub collected : (force : Bool) (epoch : ℕ) (old opened passed : Seat) → opened ≡ after_note shape epoch old
      → kept_count opened ≡ 0 → IsScanning opened passed → kept_count passed ≡ kept_count opened
      → IsScanning passed scanned
      → kept_count scanned ≤ kept_count passed + (shape.seats - 1) * shape.shields
      → IsCollected shape force many left old new
  collected force epoch old opened passed is none scan kept scan' few =
      let through = scanning_on opened passed scanned scan scan' in
      let as_old = opened_as shape epoch old opened scanned is through in
      let same : retired_count scanned ≡ retired_count old = opened_retired shape epoch old opened scanned is through in
      record {
        rest = subst
            (λ (y : Seat). y ≡ record old { noted = y.noted; fresh = y.fresh; retired = y.retired; scan = y.scan })
            (sym (new_is ∙ ap (after_give new.noted) as_old)) refl;
        left_is = left_new;
        all = all_retired ∙ same;
        fresh = fresh_more ∙ ap (λ n. n + many) (ap fresh_count as_old);
        few = λ _. (let k = left_kept in omega (arith, k, few, kept, none));
        held_up = λ on. absurd (false≢true (sym (ap is_scanning new_is) ∙ on));
      }

pub collected_past : (shape : Shape) (force : Bool) (me : ℕ) (a : Answer) (old opened passed scanned new : History)
    (noted : ℕ) (known known' : Seat)
    → HasOpened old opened noted → HasLooked opened passed (2 * (shape.seats - 1))
    → (force ≡ false → passed.ejections ≡ opened.ejections)
    → HasLooked passed scanned ((shape.seats - 1) * shape.shields) → scanned.ejections ≡ passed.ejections
    → new ≡ past_after (step.Give me) a known scanned → is_scanning known' ≡ false
    → HasCollected shape force old new known'
collected_past shape force me a old opened passed scanned new noted known known' open' looked mild scans unejected
    new_is ended =
    let through = looked_on opened passed scanned (2 * (shape.seats - 1))
    ((shape.seats - 1) * shape.shields) looked scans in
    let is : scanned ≡ record old {
      last = scanned.last;
      steps = scanned.steps;
      notes = old.notes + 1;
      advances =
          opened.advances;
      ejections = scanned.ejections;
    } =
    through.rest
    ∙ ap (λ (p : History). record p { last = scanned.last; steps = scanned.steps; ejections = scanned.ejections })
    open'.rest in
    let whole = new_is ∙ ap (past_after (step.Give me) a known) is in
    record {
      rest = subst
          (λ (y : History). y ≡ record old {
            last = y.last;
            steps = y.steps;
            notes = old.notes + 1;
            advances =
                y.advances;
            gives = y.gives;
            ejections = y.ejections;
          }) (sym whole) refl;
      gives = ap (λ (p : History). p.gives) whole ∙ ap (λ b. old.gives + cond b 0 1) (sym ended);
      few = (let n = ap (λ (p : History). p.steps) new_is in let t = through.few in let o = open'.few in
          omega (arith, n, t, o));
      mild = λ f. ap (λ (p : History). p.ejections) new_is
          ∙ (unejected ∙ (mild f ∙ ap (λ (p : History). p.ejections) open'.rest));
    }

-- slots that are fresh once few are left
pub fresh_enough : (shape : Shape) (known : Seat) (left : ℕ) → 1 ≤ shape.seats → held_count known ≡ slots_per_seat shape
    → left ≡ retired_count known → left ≤ (shape.seats - 1) * shape.shields
    → shape.batch + shape.shields ≤ fresh_count known
fresh_enough shape known left some held left_is few =
    let one : (shape.seats - 1 + 1) * shape.shields ≡ (shape.seats - 1) * shape.shields + shape.shields =
    add-mul (shape.seats - 1) 1 shape.shields
    ∙ ap (λ n. (shape.seats - 1) * shape.shields + n) (one-mul shape.shields) in
    let seats : shape.seats - 1 + 1 ≡ shape.seats = omega (arith, some) in
    let all = ap (λ n. n * shape.shields) seats in
    omega (arith, one, all, held, left_is, few)
