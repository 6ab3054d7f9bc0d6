-- How a scan goes on, seat by seat and shield by shield.
use Rattle.std.proofs.Common.{◌≡◌, ◌≢◌, ℕ, zero, suc, ◌+◌, ◌-◌, ◌*◌, ◌<◌, ◌≤◌, Bool, true, false, ◌&&◌, ◌||◌, List, []}
use Rattle.std.proofs.Common.{length, get_or, set, Option, Some, None, cond, refl, sym, ap, ◌∙◌, subst, arith, eqb}
use Rattle.std.proofs.Common.{add-mul, one-mul}
use Rattle.std.specs.List.{range_with_len, list_all}
use Rattle.std.proofs.lemmas.Bool.{false≢true, eq-eqb, ne_eqb}
use Rattle.std.proofs.lemmas.Bool.Decides.{nat_tests}
use Rattle.std.proofs.lemmas.List.{get_or-set_same, get_or-set_other}
use mathlib.Core.Logic.{dite}
use native.Mathlib.Decide.{ℕ_discrete}
use Rattle.pebr_core.specs.declared.kinds.Shape.{Shape}
use Rattle.pebr_core.specs.State.{Seat, Scan, has, scan_of, has_scanned}
use Rattle.pebr_core.specs.Steps.{is_scanning, with_scan, with_look, with_scanned, with_kept, after_pass, after_scan}
use Rattle.pebr_core.specs.Steps.{each_below, is_complete}
use Rattle.pebr_core.specs.Kept.{IsSeatOfShape}
use Rattle.pebr_core.specs.Frames.{kept_count}
use Rattle.pebr_core.specs.declared.kinds.Step.TheVariants as step
use Rattle.pebr_core.specs.declared.kinds.Answer.{Answer}
use Rattle.pebr_words.specs.Pasts.{History, past_after}
use Rattle.pebr_words.proofs.Mirroring.{has_scan}
use Rattle.pebr_roots.specs.Collecting.{IsScanning, HasLooked, IsPassing, ArePassing, IsReading, AreReading}
use Rattle.pebr_roots.specs.Collecting.{others_below}

-- scans and histories one after another

pub scanning_still : (known : Seat) → is_scanning known ≡ true → IsScanning known known
scanning_still known h = record { scanning = h; candidates = refl; rest = refl }

pub scanning_on : (a b c : Seat) → IsScanning a b → IsScanning b c → IsScanning a c
scanning_on a b c h k =
    record {
      scanning = k.scanning;
      candidates = k.candidates ∙ h.candidates;
      rest = k.rest ∙ ap (λ (s : Seat). record s { scan = c.scan }) h.rest;
    }

pub looked_on : (a b c : History) (m n : ℕ) → HasLooked a b m → HasLooked b c n → HasLooked a c (m + n)
looked_on a b c m n h k = record {
  rest = k.rest ∙ ap (λ (p : History). record p { last = c.last; steps = c.steps; ejections = c.ejections }) h.rest;
  few = (let x = h.few in let y = k.few in omega (arith, x, y));
}

pub looked_as : (a b : History) (m n : ℕ) → m ≤ n → HasLooked a b m → HasLooked a b n
looked_as a b m n le h = record { rest = h.rest; few = (let x = h.few in omega (arith, x, le)) }

-- another seat is passed

module _ (shape : Shape) (me other : ℕ) (known : Seat) (fits : IsSeatOfShape shape known)
    (scanning : is_scanning known ≡ true) (inside : other < shape.seats) where
  passed_inside : other < length (scan_of known).passed
  passed_inside = let e = (fits.scan (scan_of known) (has_scan known scanning)).passed in omega (arith, e, inside)

  looked_inside : other < length (scan_of known).looked
  looked_inside = let e = (fits.scan (scan_of known) (has_scan known scanning)).looked in omega (arith, e, inside)

  pub passing_look : IsPassing me other true known (after_pass other known)
  passing_look = record {
    scan = record { scanning = refl; candidates = refl; rest = refl };
    passed = λ _ _. get_or-set_same (scan_of known).passed other true false passed_inside;
    others = λ j ne. get_or-set_other (scan_of known).passed other j true false ne;
    unread = λ j place. refl;
    kept = refl;
    held_up = λ e. absurd (false≢true (sym e));
  }

  pub passing_held : (epoch : ℕ) → has (scan_of known).passed other ≡ false
      → IsPassing me other false known (with_scan known (with_look (scan_of known) other epoch))
  passing_held epoch unpassed = record {
    scan = record { scanning = refl; candidates = refl; rest = refl };
    passed = λ e. absurd (false≢true e);
    others = λ j ne. refl;
    unread = λ j place. refl;
    kept = refl;
    held_up =
        λ _. (other, epoch, get_or-set_same (scan_of known).looked other (Some epoch) None looked_inside, unpassed);
  }

  pub passing_eject : (epoch : ℕ) → IsPassing me other true known
      (after_pass other (with_scan known (with_look (scan_of known) other epoch)))
  passing_eject epoch = record {
    scan = record { scanning = refl; candidates = refl; rest = refl };
    passed = λ _ _. get_or-set_same (scan_of known).passed other true false passed_inside;
    others = λ j ne. get_or-set_other (scan_of known).passed other j true false ne;
    unread = λ j place. refl;
    kept = refl;
    held_up = λ e. absurd (false≢true (sym e));
  }

pub passing_own : (me other : ℕ) (known : Seat) → other ≡ me → is_scanning known ≡ true
    → IsPassing me other true known known
passing_own me other known own scanning = record {
  scan = scanning_still known scanning;
  passed = λ _ ne. absurd (ne own);
  others = λ j ne. refl;
  unread = λ j place. refl;
  kept = refl;
  held_up = λ e. absurd (false≢true (sym e));
}

-- the first seats are passed, and none of the others yet
pub record ArePassed (me bound : ℕ) (old new : Seat) : Type 0 where
  pub scan : IsScanning old new
  pub passed : (j : ℕ) → j < bound → j ≢ me → has (scan_of new).passed j ≡ true
  pub ahead : (j : ℕ) → bound ≤ j → has (scan_of new).passed j ≡ false
  pub unread : (j place : ℕ) → has_scanned (scan_of new) j place ≡ has_scanned (scan_of old) j place
  pub kept : kept_count new ≡ kept_count old

pub passed_none : (me : ℕ) (known : Seat) → is_scanning known ≡ true → ((j : ℕ) → has (scan_of known).passed j ≡ false)
    → ArePassed me 0 known known
passed_none me known scanning none = record {
  scan = scanning_still known scanning;
  passed = λ j lt. absurd (omega (arith, lt));
  ahead = λ j _. none j;
  unread = λ j place. refl;
  kept = refl;
}

pub passed_more : (me other : ℕ) (old cur new : Seat) → ArePassed me other old cur → IsPassing me other true cur new
    → ArePassed me (other + 1) old new
passed_more me other old cur new h k = record {
  scan = scanning_on old cur new h.scan k.scan;
  passed = λ j lt ne. dite (ℕ_discrete j other)
      (λ (same : j ≡ other). subst (λ n. has (scan_of new).passed n ≡ true) (sym same)
      (k.passed refl (λ e. ne (same ∙ e))))
      (λ (apart : j ≢ other). k.others j apart ∙ h.passed j (omega (arith, lt, apart)) ne);
  ahead = λ j le. k.others j (λ e. absurd (omega (arith, le, e))) ∙ h.ahead j (omega (arith, le));
  unread = λ j place. k.unread j place ∙ h.unread j place;
  kept = k.kept ∙ h.kept;
}

pub passed_all : (me seats : ℕ) (old new : Seat) → ArePassed me seats old new → ArePassing me seats true old new
passed_all me seats old new h = record {
  scan = h.scan;
  passed = λ _ j lt ne. h.passed j lt ne;
  unread = h.unread;
  kept = h.kept;
  held_up = λ e. absurd (false≢true (sym e));
}

pub passed_held : (me seats other : ℕ) (old cur new : Seat) → ArePassed me other old cur
    → IsPassing me other false cur new → ArePassing me seats false old new
passed_held me seats other old cur new h k = record {
  scan = scanning_on old cur new h.scan k.scan;
  passed = λ e. absurd (false≢true e);
  unread = λ j place. k.unread j place ∙ h.unread j place;
  kept = k.kept ∙ h.kept;
  held_up = λ e. k.held_up e;
}

pub others_more : (me other : ℕ) → 2 * others_below me other + cond (eqb other me) 0 2 ≡ 2 * others_below me (other + 1)
others_more me other = grind (arith, nat_tests)

pub others_one : (me other : ℕ) → others_below me other + cond (eqb other me) 0 1 ≡ others_below me (other + 1)
others_one me other = grind (arith, nat_tests)

pub others_all : (me seats : ℕ) → me < seats → others_below me seats ≡ seats - 1
others_all me seats lt = grind (arith, nat_tests)

pub others_few : (me other seats : ℕ) → me < seats → other < seats → others_below me (other + 1) ≤ seats - 1
others_few me other seats lt lt' = grind (arith, nat_tests)

pub others_times : (me other shields : ℕ)
    → others_below me other * shields + cond (eqb other me) 0 shields ≡ others_below me (other + 1) * shields
others_times me other shields = pick (eqb other me) (others_one me other)
  where
    pick : (b : Bool) → others_below me other + cond b 0 1 ≡ others_below me (other + 1)
        → others_below me other * shields + cond b 0 shields ≡ others_below me (other + 1) * shields
    pick true e = (let z : others_below me other * shields + 0 ≡ others_below me other * shields = omega arith in z)
        ∙ ap (λ n. n * shields) ((let z : others_below me other ≡ others_below me other + 0 = omega arith in z) ∙ e)
    pick false e =
        sym (add-mul (others_below me other) 1 shields
        ∙ ap (λ n. others_below me other * shields + n) (one-mul shields)) ∙ ap (λ n. n * shields) e

-- shields are read

kept_passed : (scan : Scan) (slot : Option ℕ) → (with_kept scan slot).passed ≡ scan.passed
kept_passed scan None = refl
kept_passed scan (Some slot) = pick (has scan.candidates slot)
  where
    pick : (b : Bool) → (cond b (record scan { kept = set scan.kept slot true }) scan).passed ≡ scan.passed
    pick true = refl
    pick false = refl

kept_candidates : (scan : Scan) (slot : Option ℕ) → (with_kept scan slot).candidates ≡ scan.candidates
kept_candidates scan None = refl
kept_candidates scan (Some slot) = pick (has scan.candidates slot)
  where
    pick : (b : Bool) → (cond b (record scan { kept = set scan.kept slot true }) scan).candidates ≡ scan.candidates
    pick true = refl
    pick false = refl

kept_scanned : (scan : Scan) (slot : Option ℕ) → (with_kept scan slot).scanned ≡ scan.scanned
kept_scanned scan None = refl
kept_scanned scan (Some slot) = pick (has scan.candidates slot)
  where
    pick : (b : Bool) → (cond b (record scan { kept = set scan.kept slot true }) scan).scanned ≡ scan.scanned
    pick true = refl
    pick false = refl

pub reading_none : (other : ℕ) (known : Seat) → is_scanning known ≡ true → IsReading other 0 known known
reading_none other known scanning = record {
  scan = scanning_still known scanning;
  passed = λ j. refl;
  read = λ place lt. absurd (omega (arith, lt));
  unread = λ place _. refl;
  others = λ j place ne. refl;
  kept = omega arith;
}

module _ (shape : Shape) (other place : ℕ) (slot : Option ℕ) (old cur : Seat) (fits : IsSeatOfShape shape cur)
    (is_seat : other < shape.seats) (is_place : place < shape.shields) where
  abbrev read_seat : Seat
  read_seat = after_scan other place slot cur

  abbrev read_row : List Bool
  read_row = get_or (scan_of cur).scanned other []

  is_row : is_scanning cur ≡ true → (p : ℕ) → has_scanned (scan_of read_seat) other p ≡ has (set read_row place true) p
  is_row scanning p = ap (λ l. has (get_or l other []) p) (kept_scanned (with_scanned (scan_of cur) other place) slot)
      ∙ ap (λ r. has r p)
      (get_or-set_same (scan_of cur).scanned other (set read_row place true) []
      (let e = (fits.scan (scan_of cur) (has_scan cur scanning)).scanned in omega (arith, e, is_seat)))

  place_inside : is_scanning cur ≡ true → place < length read_row
  place_inside scanning = let e = (fits.scan (scan_of cur) (has_scan cur scanning)).shields other is_seat in
      omega (arith, e, is_place)

  pub reading_more : kept_count read_seat ≤ kept_count cur + 1 → IsReading other place old cur
      → IsReading other (place + 1) old read_seat
  reading_more more h = record {
    scan = record {
      scanning = refl;
      candidates = kept_candidates (with_scanned (scan_of cur) other place) slot ∙ h.scan.candidates;
      rest = ap (λ (s : Seat). record s { scan = read_seat.scan }) h.scan.rest;
    };
    passed = λ j. ap (λ l. has l j) (kept_passed (with_scanned (scan_of cur) other place) slot) ∙ h.passed j;
    read = λ p lt. dite (ℕ_discrete p place)
        (λ (same : p ≡ place). is_row h.scan.scanning p
        ∙ subst (λ n. has (set read_row place true) n ≡ true) (sym same)
        (get_or-set_same read_row place true false (place_inside h.scan.scanning)))
        (λ (apart : p ≢ place). is_row h.scan.scanning p
        ∙ (get_or-set_other read_row place p true false apart ∙ h.read p (omega (arith, lt, apart))));
    unread = λ p le. is_row h.scan.scanning p
        ∙ (get_or-set_other read_row place p true false (λ e. absurd (omega (arith, le, e)))
        ∙ h.unread p (omega (arith, le)));
    others = λ j p ne. ap (λ l. has (get_or l j []) p) (kept_scanned (with_scanned (scan_of cur) other place) slot)
        ∙ (ap (λ r. has r p) (get_or-set_other (scan_of cur).scanned other j (set read_row place true) [] ne)
        ∙ h.others j p ne);
    kept = (let k = h.kept in omega (arith, more, k));
  }

pub reading_nobody : (me : ℕ) (shields : ℕ) (known : Seat) → is_scanning known ≡ true
    → AreReading me 0 shields known known
reading_nobody me shields known scanning = record {
  scan = scanning_still known scanning;
  passed = λ j. refl;
  read = λ j place lt. absurd (omega (arith, lt));
  unread = λ j place _. refl;
}

pub reading_next : (me other shields : ℕ) (old cur new : Seat) → AreReading me other shields old cur
    → IsReading other (cond (eqb other me) 0 shields) cur new → AreReading me (other + 1) shields old new
reading_next me other shields old cur new h k = record {
  scan = scanning_on old cur new h.scan k.scan;
  passed = λ j. k.passed j ∙ h.passed j;
  read = λ j place lt ne lt'. dite (ℕ_discrete j other)
      (λ (same : j ≡ other). subst (λ n. has_scanned (scan_of new) n place ≡ true) (sym same)
      (k.read place (subst (λ b. place < cond b 0 shields) (sym (ne_eqb other me (λ e. ne (same ∙ e)))) lt')))
      (λ (apart : j ≢ other). k.others j place apart ∙ h.read j place (omega (arith, lt, apart)) ne lt');
  unread = λ j place le. k.others j place (λ e. absurd (omega (arith, le, e))) ∙ h.unread j place (omega (arith, le));
}

-- a scan that has passed each other seat and read all its shields

pub each_in : (test : ℕ → Bool) (from count : ℕ) → ((k : ℕ) → from ≤ k → k < from + count → test k ≡ true)
    → list_all test (range_with_len from count) ≡ true
each_in test from zero each = refl
each_in test from (suc count) each = both (test from) (list_all test (range_with_len (from + 1) count))
    (each from (omega arith) (omega arith))
    (each_in test (from + 1) count (λ k le lt. each k (omega (arith, le)) (omega (arith, lt))))
  where
    both : (a b : Bool) → a ≡ true → b ≡ true → (a && b) ≡ true
    both true b e f = f
    both false b e f = absurd (false≢true e)

pub is_whole : (shape : Shape) (me : ℕ) (scan : Scan) → ((j : ℕ) → j < shape.seats → j ≢ me → has scan.passed j ≡ true)
    → ((j place : ℕ) → j < shape.seats → j ≢ me → place < shape.shields → has_scanned scan j place ≡ true)
    → is_complete shape me scan ≡ true
is_whole shape me scan passed read = each_in _ 0 shape.seats (λ j _ lt. one j (let e = lt in omega (arith, e)))
  where
    either : (a b : Bool) → b ≡ true → (a || b) ≡ true
    either true b e = refl
    either false b e = e

    both : (a b : Bool) → a ≡ true → b ≡ true → (a && b) ≡ true
    both true b e f = f
    both false b e f = absurd (false≢true e)

    own : (a b : Bool) → a ≡ true → (a || b) ≡ true
    own true b e = refl
    own false b e = absurd (false≢true e)

    one : (j : ℕ) → j < shape.seats
        → ((eqb j me) || (has scan.passed j && each_below shape.shields (λ place. has_scanned scan j place))) ≡ true
    one j lt = dite (ℕ_discrete j me)
        (λ (same : j ≡ me). own (eqb j me)
        (has scan.passed j && each_below shape.shields (λ place. has_scanned scan j place)) (eq-eqb j me same))
        (λ (apart : j ≢ me). either (eqb j me)
        (has scan.passed j && each_below shape.shields (λ place. has_scanned scan j place))
        (both (has scan.passed j) (each_below shape.shields (λ place. has_scanned scan j place)) (passed j lt apart)
        (each_in (λ place. has_scanned scan j place) 0 shape.shields
        (λ place _ lt'. read j place lt apart (let e = lt' in omega (arith, e))))))

-- single steps in a history

pub scanned_once : (i j place : ℕ) (a : Answer) (seat : Seat) (past new : History)
    → new ≡ past_after (step.Scan i j place) a seat past → HasLooked past new 1
scanned_once i j place a seat past new is =
    subst (λ (p : History). HasLooked past p 1) (sym is) (record { rest = refl; few = omega arith })

pub looked_once : (i j : ℕ) (a : Answer) (seat : Seat) (past new : History)
    → new ≡ past_after (step.Look i j) a seat past → HasLooked past new 1
looked_once i j a seat past new is = subst (λ (p : History). HasLooked past p 1) (sym is)
    (record { rest = refl; few = omega arith })

pub ejected_once : (i j : ℕ) (a : Answer) (seat : Seat) (past new : History)
    → new ≡ past_after (step.Eject i j) a seat past → HasLooked past new 1
ejected_once i j a seat past new is = subst (λ (p : History). HasLooked past p 1) (sym is)
    (record { rest = refl; few = omega arith })
