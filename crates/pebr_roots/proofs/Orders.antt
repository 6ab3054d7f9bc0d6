-- Operations that are made one after another.
use Rattle.std.proofs.Common.{◌≡◌, ℕ, ◌+◌, ◌*◌, ◌≤◌, Bool, true, false, List, [], ◌∷◌, ◌++◌, length, refl, sym, ap}
use Rattle.std.proofs.Common.{◌∙◌, subst, arith, Some, unwrap_or}
use Rattle.std.specs.Prelude.{if◌then◌else◌, nat_lt}
use Rattle.std.specs.List.{range_with_len}
use Rattle.std.proofs.lemmas.Bool.{false≢true}
use Rattle.std.proofs.lemmas.List.{map-id}
use Rattle.std.proofs.lemmas.List.FromFn.{map-range_with_len_more}
use Rattle.pebr_table.specs.Operations.{Op, load, exchange}
use Rattle.pebr_core.specs.declared.kinds.Shape.{Shape}
use Rattle.pebr_core.specs.declared.kinds.Step.{Step}
use Rattle.pebr_core.specs.declared.kinds.Answer.{Answer}
use Rattle.pebr_core.specs.declared.kinds.Answer.TheVariants as answer
use Rattle.pebr_core.specs.State.{Seat, scan_of, found_at}
use Rattle.pebr_core.specs.Steps.{can_pass, epoch_of, after_note, last_epoch, found_epoch}
use Rattle.pebr_words.specs.Places.{index, epoch_word, status_word}
use Rattle.pebr_words.specs.Making.{stance_from}
use Rattle.pebr_words.specs.Pasts.{History, past_after}
use Rattle.pebr_roots.specs.Collecting.{IsScanning, IsCounted}
use Rattle.pebr_roots.specs.Orders.{AreMade, ButFor, opened_operations, is_passable, HasPassed}
use Rattle.pebr_roots.specs.Orders.{AreScannedBelow, HasPassedAll, HasEndedAt, HasMadeCollection}

pub made_more : (makes : ℕ → List Op → List Op → Type 0) (js : List ℕ) (j : ℕ) (old mid new : List Op)
    → AreMade makes js old mid → makes j mid new → AreMade makes (js ++ j ∷ []) old new
made_more makes [] j old mid new is h = (new, subst (λ l. makes j l new) is h, refl)
made_more makes (k ∷ js) j old mid new rest h = (rest.0, rest.1, made_more makes js j rest.0 mid new rest.2 h)

range_more : (count : ℕ) → range_with_len 0 count ++ count ∷ [] ≡ range_with_len 0 (count + 1)
range_more count =
    let e = map-range_with_len_more (λ n. n) 0 count count (omega arith) in
    ap (λ l. l ++ count ∷ []) (sym (map-id (range_with_len 0 count)))
    ∙ (sym e ∙ map-id (range_with_len 0 (count + 1)))

-- one number more
pub below_more : (makes : ℕ → List Op → List Op → Type 0) (count : ℕ) (old mid new : List Op)
    → AreMade makes (range_with_len 0 count) old mid → makes count mid new
    → AreMade makes (range_with_len 0 (count + 1)) old new
below_more makes count old mid new before h = subst (λ js. AreMade makes js old new) (range_more count)
    (made_more makes (range_with_len 0 count) count old mid new before h)

-- steps and operations are counted together

pub counted_still : (past : History) (made : List Op) → IsCounted past past made made
counted_still past made = refl

pub counted_on : (a b c : History) (x y z : List Op) → IsCounted a b x y → IsCounted b c y z → IsCounted a c x z
counted_on a b c x y z h k = omega (arith, h, k)

pub counted_more : (s : Step) (a : Answer) (known : Seat) (past new : History) (o : Op) (x y : List Op)
    → new ≡ past_after s a known past → y ≡ o ∷ x → IsCounted past new x y
counted_more s a known past new o x y is made =
    let steps : new.steps ≡ past.steps + 1 = ap (λ (p : History). p.steps) is in
    let long : length y ≡ length x + 1 = ap length made ∙ (let e : length (o ∷ x) ≡ length x + 1 = omega arith in e) in
    omega (arith, steps, long)

pub counted_few : (n : ℕ) (past new : History) (x y : List Op) → IsCounted past new x y → new.steps ≤ past.steps + n
    → length y ≤ length x + n
counted_few n past new x y h few = omega (arith, h, few)

-- another seat is looked at

pub passable_same : (known cur : Seat) (status : ℕ) → IsScanning known cur
    → is_passable cur status ≡ is_passable known status
passable_same known cur status h =
    ap (λ c. can_pass c cur.retired (stance_from status)) h.candidates
    ∙ ap (λ r. can_pass (scan_of known).candidates r (stance_from status)) (ap (λ (s : Seat). s.retired) h.rest)

pub passed_same : (shape : Shape) (known cur : Seat) (force : Bool) (other : ℕ) (result : Bool) (old new : List Op)
    → IsScanning known cur → HasPassed shape cur force other result old new
    → HasPassed shape known force other result old new
passed_same shape known cur force other result old new scan h =
    let same = passable_same known cur h.status scan in
    record {
      status = h.status;
      passed = λ is. h.passed (same ∙ is);
      ejected = λ is. h.ejected (same ∙ is);
      held_up = λ is. h.held_up (same ∙ is);
    }

told_passed : (b : Bool) (e : ℕ) → answer.Passed ≡ (if b then answer.Passed else answer.In e) → b ≡ true
told_passed true e is = refl
told_passed false e is = absurd cc

told_in : (b : Bool) (e epoch : ℕ) → answer.In epoch ≡ (if b then answer.Passed else answer.In e)
    → (b ≡ false) × (epoch ≡ e)
told_in true e epoch is = absurd cc
told_in false e epoch is = (refl, ap epoch_in is)
  where
    epoch_in : Answer → ℕ
    epoch_in (answer.In n) = n
    epoch_in _ = 0

module _ (shape : Shape) (known : Seat) (force : Bool) (other status : ℕ) (old mid : List Op)
    (looked : mid ≡ load (index shape (status_word other)) status ∷ old) where
  pub look_passed : answer.Passed ≡ (if is_passable known status then answer.Passed
      else answer.In (epoch_of (stance_from status))) → HasPassed shape known force other true old mid
  look_passed told =
      let is = told_passed (is_passable known status) (epoch_of (stance_from status)) told in
      record {
        status = status;
        passed = λ _. (refl, looked);
        ejected = λ e. absurd (false≢true (sym e ∙ is));
        held_up = λ e. absurd (false≢true (sym e ∙ is));
      }

  pub look_held : (epoch : ℕ) → force ≡ false
      → answer.In epoch ≡ (if is_passable known status then answer.Passed
      else answer.In (epoch_of (stance_from status))) → HasPassed shape known force other false old mid
  look_held epoch mild told =
      let is = (told_in (is_passable known status) (epoch_of (stance_from status)) epoch told).0 in
      record {
        status = status;
        passed = λ e. absurd (false≢true (sym is ∙ e));
        ejected = λ _ e. absurd (false≢true (sym mild ∙ e));
        held_up = λ _ _. (refl, looked);
      }

  pub look_ejected : (epoch word : ℕ) (seen : Seat) (new : List Op) → force ≡ true
      → answer.In epoch ≡ (if is_passable known status then answer.Passed
      else answer.In (epoch_of (stance_from status)))
      → found_at (scan_of seen) other ≡ Some epoch
      → new ≡ exchange (index shape (status_word other)) (4 * found_epoch seen other + 1)
      (4 * found_epoch seen other + 2) word ∷ mid → HasPassed shape known force other true old new
  look_ejected epoch word seen new forced told found made =
      let both = told_in (is_passable known status) (epoch_of (stance_from status)) epoch told in
      let is : found_epoch seen other ≡ epoch_of (stance_from status) = ap (λ o. unwrap_or o 0) found ∙ both.1 in
      record {
        status = status;
        passed = λ e. absurd (false≢true (sym both.0 ∙ e));
        ejected = λ _ _. (
          refl,
          word,
          made
              ∙ (ap (λ n. exchange (index shape (status_word other)) (4 * n + 1) (4 * n + 2) word ∷ mid) is
              ∙ ap (λ l. exchange (index shape (status_word other)) (4 * epoch_of (stance_from status) + 1)
              (4 * epoch_of (stance_from status) + 2) word ∷ l) looked),
        );
        held_up = λ _ e. absurd (false≢true (sym e ∙ forced));
      }

-- a whole collection

module _ (shape : Shape) (force : Bool) (me me' noted found : ℕ) (known opened : Seat) (ended : Bool)
    (past past' : History) (old begun : List Op) (is_me : me' ≡ me) (is_opened : opened ≡ after_note shape noted known)
    (is_begun : begun ≡ opened_operations shape noted found old)
    (advances : past'.advances ≡ past.advances + (if nat_lt noted last_epoch then 1 else 0)) where
  pub whole_made : (passed scanned new : List Op) (me'' epoch : ℕ) → ended ≡ true → me'' ≡ me
      → HasPassedAll shape opened force me' begun passed → AreScannedBelow shape me'' shape.seats passed scanned
      → new ≡ load (index shape epoch_word) epoch ∷ scanned
      → HasMadeCollection shape force me known ended past past' old new
  whole_made passed scanned new me'' epoch is_ended is_me' are_passed are_scanned given = record {
    noted = noted;
    found = found;
    advances = advances;
    whole = λ _. (
      passed,
      scanned,
      epoch,
      subst (λ n. HasPassedAll shape (after_note shape noted known) force n (opened_operations shape noted found old)
          passed) is_me
          (subst (λ s. HasPassedAll shape s force me' (opened_operations shape noted found old) passed) is_opened
          (subst (λ l. HasPassedAll shape opened force me' l passed) is_begun are_passed)),
      subst (λ n. AreScannedBelow shape n shape.seats passed scanned) is_me' are_scanned,
      given,
    );
    held_up = λ e. absurd (false≢true (sym e ∙ is_ended));
  }

  pub held_made : (new : List Op) → ended ≡ false → HasEndedAt shape opened force me' begun new
      → HasMadeCollection shape force me known ended past past' old new
  held_made new is_ended h = record {
    noted = noted;
    found = found;
    advances = advances;
    whole = λ e. absurd (false≢true (sym is_ended ∙ e));
    held_up = λ _. subst
        (λ n. HasEndedAt shape (after_note shape noted known) force n (opened_operations shape noted found old) new)
        is_me
        (subst (λ s. HasEndedAt shape s force me' (opened_operations shape noted found old) new) is_opened
        (subst (λ l. HasEndedAt shape opened force me' l new) is_begun h));
  }

-- what is made for the others is made otherwise
pub but_as : (me j : ℕ) (f g : ℕ → List Op → List Op → Type 0) (old new : List Op) → (f j old new → g j old new)
    → ButFor me f j old new → ButFor me g j old new
but_as me j f g old new may h = (h.0, λ ne. may (h.1 ne))
