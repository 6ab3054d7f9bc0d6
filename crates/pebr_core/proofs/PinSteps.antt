-- The steps Note, Pin, Leave, Advance, Look and Eject lead from a sound state to a sound state.
use Rattle.std.proofs.Common.{◌≡◌, ◌≢◌, ℕ, ◌<◌, ◌+◌, ◌≤◌, ◌⊎◌, zero, suc, Bool, true, false, List, [], ◌∷◌, length}
use Rattle.std.proofs.Common.{get_or, map, replicate, Some, None, cond, is_some, refl, sym, ◌∙◌, ap, subst, inl, inr}
use Rattle.std.proofs.Common.{arith, length-set, get_or-set_other, get_or-set_same, count_by, eqb, ltb, unwrap_or}
use Rattle.std.proofs.Common.{le_refl}
use Rattle.std.proofs.lemmas.Bool.{false≢true, and_parts, eqb-true, eqb-false, ltb-true}
use Rattle.std.proofs.lemmas.Option.{same_Some, none-some}
use Rattle.std.proofs.lemmas.List.{length-map, length-replicate, get_or-replicate}
use Rattle.std.proofs.lemmas.List.Sums.{sum_by-cons}
use Rattle.pebr_core.specs.declared.kinds.Shape.{Shape}
use Rattle.pebr_core.specs.declared.kinds.Stance.{Stance}
use Rattle.pebr_core.specs.declared.kinds.Stance.TheVariants as stance
use Rattle.pebr_core.specs.declared.kinds.Retired.{Retired}
use Rattle.pebr_core.specs.declared.kinds.Retired.TheVariants as retire
use Rattle.pebr_core.specs.State.{Scan, Seat, State, has, seat_at, retired_at, found_at, has_scanned, scan_of}
use Rattle.pebr_core.specs.State.{slot_count, nobody, no_scan, is_out, is_retired}
use Rattle.pebr_core.specs.Steps.{with_seat, with_scan, with_passed, with_look, last_epoch, tag_with, new_scan}
use Rattle.pebr_core.specs.Steps.{is_above_tags, can_pass, epoch_of, ejected_stance, after_note, after_pin, after_leave}
use Rattle.pebr_core.specs.Steps.{after_look, after_pass}
use Rattle.pebr_core.specs.Kept.{Uses, IsPinnedUpTo, IsTaggedUpTo, HasSeenNoOlder, IsScanOf, HasSeenNoCandidate}
use Rattle.pebr_core.specs.Kept.{PassedHasSeenNone, ScannedIsKept, LookedIsOlder, IsScanOfShape, IsSeatOfShape, IsSound}
use Rattle.pebr_core.proofs.Marks.{get_or-map_default, get_or-replicate_default, has-empty_set_below, has-replicate}
use Rattle.pebr_core.proofs.Marks.{has-added}
use Rattle.pebr_core.proofs.Marks.{has-either, has-not_added, at_some, is_some-value, set_anywhere}
use Rattle.pebr_core.proofs.SeatChange.{Alone, Between, alone, between, seat_kept}

-- statuses

pub out_from : (status : Stance) → is_out status ≡ true → status ≡ stance.Out
out_from stance.Out h = refl
out_from (stance.In epoch) h = absurd (false≢true h)
out_from (stance.Ejected epoch) h = absurd (false≢true h)

pub in_pinned : (most : ℕ) (status : Stance) (epoch : ℕ) → IsPinnedUpTo most status → status ≡ stance.In epoch
    → epoch ≤ most
in_pinned most status epoch h e = let at : IsPinnedUpTo most (stance.In epoch) = subst (IsPinnedUpTo most) e h in at

-- tags

tag_with-retired : (epoch : ℕ) (r : Retired) → is_retired (tag_with epoch r) ≡ is_retired r
tag_with-retired epoch retire.No = refl
tag_with-retired epoch retire.Untagged = refl
tag_with-retired epoch (retire.Tagged tag) = refl

tag_with-tagged : (epoch : ℕ) (r : Retired) → tag_with epoch r ≢ retire.Untagged
tag_with-tagged epoch retire.No e = cc
tag_with-tagged epoch retire.Untagged e = cc
tag_with-tagged epoch (retire.Tagged tag) e = cc

tag_with-bound : (epoch : ℕ) (r : Retired) → IsTaggedUpTo epoch r → IsTaggedUpTo epoch (tag_with epoch r)
tag_with-bound epoch retire.No h = tt
tag_with-bound epoch retire.Untagged h = le_refl epoch
tag_with-bound epoch (retire.Tagged tag) h = h

tag_with-which : (epoch : ℕ) (r : Retired) (tag : ℕ) → tag_with epoch r ≡ retire.Tagged tag
    → (r ≡ retire.Tagged tag) ⊎ (tag ≡ epoch)
tag_with-which epoch retire.No tag e = absurd cc
tag_with-which epoch retire.Untagged tag e = inr cc
tag_with-which epoch (retire.Tagged other) tag e = inl e

count_by-tag_with : (epoch : ℕ) (rs : List Retired)
    → count_by is_retired (map (tag_with epoch) rs) ≡ count_by is_retired rs
count_by-tag_with epoch [] = refl
count_by-tag_with epoch (r ∷ rs) =
    sum_by-cons (λ x. cond (is_retired x) 1 0) (tag_with epoch r) (map (tag_with epoch) rs)
    ∙ (ap (λ b. cond b 1 0 + count_by is_retired (map (tag_with epoch) rs)) (tag_with-retired epoch r)
    ∙ (ap (λ n. cond (is_retired r) 1 0 + n) (count_by-tag_with epoch rs)
    ∙ sym (sum_by-cons (λ x. cond (is_retired x) 1 0) r rs)))

-- Note

note-shape : (shape : Shape) (epoch : ℕ) (seat : Seat) → IsSeatOfShape shape seat
    → IsSeatOfShape shape (after_note shape epoch seat)
note-shape shape epoch seat h = record {
  seen = h.seen;
  shields = h.shields;
  fresh = h.fresh;
  retired = length-map seat.retired (tag_with epoch) ∙ h.retired;
  scan = λ scan e. at_some (IsScanOfShape shape) (new_scan shape (map (tag_with epoch) seat.retired)) scan e (record {
    candidates = length-map (map (tag_with epoch) seat.retired) is_retired
        ∙ (length-map seat.retired (tag_with epoch) ∙ h.retired);
    looked = length-replicate shape.seats None;
    passed = length-replicate shape.seats false;
    scanned = length-replicate shape.seats (replicate shape.shields false);
    shields = λ j lt. ap length (get_or-replicate shape.seats j (replicate shape.shields false) [] lt)
        ∙ length-replicate shape.shields false;
    kept = length-replicate (slot_count shape) false;
  });
  set = h.set;
  valid = h.valid;
}

note-retired_at : (shape : Shape) (epoch : ℕ) (seat : Seat) (slot : ℕ)
    → retired_at (after_note shape epoch seat) slot ≡ tag_with epoch (retired_at seat slot)
note-retired_at shape epoch seat slot = get_or-map_default (tag_with epoch) seat.retired slot retire.No

note-scanned : (shape : Shape) (rs : List Retired) (j place : ℕ) → has_scanned (new_scan shape rs) j place ≡ false
note-scanned shape rs j place =
    set_none (get_or (replicate shape.seats (replicate shape.shields false)) j []) (all_none shape.seats j)
  where
    -- a set read from the list is empty
    all_none : (n k : ℕ) → (q : ℕ) → has (get_or (replicate n (replicate shape.shields false)) k []) q ≡ false
    all_none zero k q = refl
    all_none (suc n) zero q = has-replicate shape.shields q
    all_none (suc n) (suc k) q = all_none n k q

    set_none : (marks : List Bool) → ((q : ℕ) → has marks q ≡ false) → has marks place ≡ false
    set_none marks h = h place

note-alone : (shape : Shape) (epoch i : ℕ) (seat : Seat) → seat.status ≡ stance.Out → Alone epoch i seat
    → Alone epoch i (after_note shape epoch seat)
note-alone shape epoch i seat out h = (
  le_refl epoch,
  h.1,
  λ slot. subst (IsTaggedUpTo epoch) (sym (note-retired_at shape epoch seat slot))
      (tag_with-bound epoch (retired_at seat slot) (h.2 slot)),
  λ scan e. at_some (IsScanOf i (after_note shape epoch seat))
      (new_scan shape (map (tag_with epoch) seat.retired)) scan e (record {
        out = out;
        all_retired = λ slot. get_or-map_default is_retired (map (tag_with epoch) seat.retired) slot retire.No;
        tagged = λ slot k. tag_with-tagged epoch (retired_at seat slot)
            (sym (note-retired_at shape epoch seat slot) ∙ k);
        kept = λ slot k. absurd (false≢true (sym (has-replicate (slot_count shape) slot) ∙ k));
        looked_others = get_or-replicate_default shape.seats i None;
        passed_others = has-replicate shape.seats i;
        scanned_passed =
            λ j place k. absurd (false≢true (sym (note-scanned shape (map (tag_with epoch) seat.retired) j place) ∙ k));
      }),
)

note-between : (shape : Shape) (epoch : ℕ) (owner : Seat) (j : ℕ) (reader : Seat) → IsPinnedUpTo epoch reader.status
    → Between owner j reader → Between (after_note shape epoch owner) j reader
note-between shape epoch owner j reader pinned h = (
  h.0,
  λ slot tag pin at retired lt.
      elim (tag_with-which epoch (retired_at owner slot) tag (sym (note-retired_at shape epoch owner slot) ∙ retired)) [
        | inl old ↦ h.1 slot tag pin at old lt
        | inr now ↦ let low = in_pinned epoch reader.status pin pinned at in absurd (omega arith)
      ],
  λ scan e. at_some (λ s. PassedHasSeenNone s j reader) (new_scan shape (map (tag_with epoch) owner.retired)) scan e
      (λ passed. absurd (false≢true (sym (has-replicate shape.seats j) ∙ passed))),
  λ scan e. at_some (λ s. ScannedIsKept s j reader) (new_scan shape (map (tag_with epoch) owner.retired)) scan e
      (λ place slot passed. absurd (false≢true (sym (has-replicate shape.seats j) ∙ passed))),
  λ scan e. at_some (λ s. LookedIsOlder (map (tag_with epoch) owner.retired) s j reader)
      (new_scan shape (map (tag_with epoch) owner.retired)) scan e
      (λ found look. absurd (none-some found (sym (get_or-replicate_default shape.seats j None) ∙ look))),
)

pub note_sound : (state : State) (i : ℕ) → IsSound state → i < state.shape.seats → (seat_at state i).status ≡ stance.Out
    → IsSound (with_seat state i (after_note state.shape state.epoch (seat_at state i)))
note_sound state i sound inside out =
    let seat = seat_at state i in
    let new = after_note state.shape state.epoch seat in
    let first : (j : ℕ) → Between new j (seat_at state j) =
    λ j. note-between state.shape state.epoch seat j (seat_at state j) (sound.kept.epochs.pinned j)
    (between state sound.kept i j) in
    seat_kept state i new sound inside
    (note-shape state.shape state.epoch seat (sound.shape.each i inside))
    (λ slot. ap (λ b. cond (has seat.fresh slot) 1 0 + cond b 1 0)
    (ap is_retired (note-retired_at state.shape state.epoch seat slot)
    ∙ tag_with-retired state.epoch (retired_at seat slot)))
    (ap (λ n. count_by (λ fresh. fresh) seat.fresh + n) (count_by-tag_with state.epoch seat.retired))
    (note-alone state.shape state.epoch i seat out (alone state sound.kept i))
    (first i)
    (λ j _. first j)
    (λ j _. between state sound.kept j i)

-- Pin

pin-shape : (shape : Shape) (seat : Seat) → IsSeatOfShape shape seat → IsSeatOfShape shape (after_pin seat)
pin-shape shape seat h = record {
  seen = length-map seat.seen (λ _. false) ∙ h.seen;
  shields = h.shields;
  fresh = h.fresh;
  retired = h.retired;
  scan = λ scan e. absurd (none-some scan e);
  set = h.set;
  valid = h.valid;
}

-- a seat that has just pinned uses what its valid shields stand on alone
pin-second : (owner : Seat) (j : ℕ) (reader : Seat) → Between owner j reader → Between owner j (after_pin reader)
pin-second owner j reader h = (
  λ slot uses. elim uses [
    | inl valid ↦ h.0 slot (inl valid)
    | inr seen ↦ absurd (false≢true (sym (has-empty_set_below reader.seen slot) ∙ seen.2))
  ],
  λ slot tag epoch at retired lt. has-empty_set_below reader.seen slot,
  λ scan e passed epoch at slot candidate. has-empty_set_below reader.seen slot,
  h.3,
  λ scan e found look waiting.
      ((h.4 scan e found look waiting).0, λ epoch at. inr (λ slot candidate. has-empty_set_below reader.seen slot)),
)

-- a seat without a scan
no_scan-between : (owner : Seat) (j : ℕ) (reader : Seat) → owner.scan ≡ None
    → ((slot : ℕ) → Uses reader slot → has owner.fresh slot ≡ false) → HasSeenNoOlder owner reader
    → Between owner j reader
no_scan-between owner j reader none unused older = (
  unused,
  older,
  λ scan e. absurd (none-some scan (sym none ∙ e)),
  λ scan e. absurd
      (none-some scan (sym none ∙ e)),
  λ scan e. absurd (none-some scan (sym none ∙ e)),
)

pub pin_sound : (state : State) (i : ℕ) → IsSound state → i < state.shape.seats
    → IsSound (with_seat state i (after_pin (seat_at state i)))
pin_sound state i sound inside =
    let seat = seat_at state i in
    let new = after_pin seat in
    let here = alone state sound.kept i in
    let own = pin-second seat i seat (between state sound.kept i i) in
    seat_kept state i new sound inside
    (pin-shape state.shape seat (sound.shape.each i inside))
    (λ slot. refl)
    refl
    (here.0, here.0, here.2, λ scan e. absurd (none-some scan e))
    (no_scan-between new i new refl own.0 own.1)
    (λ j _. let old = between state sound.kept i j in no_scan-between new j (seat_at state j) refl old.0 old.1)
    (λ j _. pin-second (seat_at state j) i seat (between state sound.kept j i))

-- Leave

leave-second : (owner : Seat) (j : ℕ) (reader : Seat) → Between owner j reader → Between owner j (after_leave reader)
leave-second owner j reader h = (
  λ slot uses. elim uses [
    | inl valid ↦ h.0 slot (inl valid)
    | inr seen ↦ absurd (false≢true (sym (has-empty_set_below reader.seen slot) ∙ seen.2))
  ],
  λ slot tag epoch at retired lt. has-empty_set_below reader.seen slot,
  λ scan e passed epoch at slot candidate. has-empty_set_below reader.seen slot,
  h.3,
  λ scan e found look waiting.
      ((h.4 scan e found look waiting).0, λ epoch at. inr (λ slot candidate. has-empty_set_below reader.seen slot)),
)

leave-shape : (shape : Shape) (seat : Seat) → IsSeatOfShape shape seat → IsSeatOfShape shape (after_leave seat)
leave-shape shape seat h = record {
  seen = length-map seat.seen (λ _. false) ∙ h.seen;
  shields = h.shields;
  fresh = h.fresh;
  retired = h.retired;
  scan = h.scan;
  set = h.set;
  valid = h.valid;
}

pub leave_sound : (state : State) (i : ℕ) → IsSound state → i < state.shape.seats
    → IsSound (with_seat state i (after_leave (seat_at state i)))
leave_sound state i sound inside =
    let seat = seat_at state i in
    let new = after_leave seat in
    let here = alone state sound.kept i in
    let second : (j : ℕ) → Between (seat_at state j) i new =
    λ j. leave-second (seat_at state j) i seat (between state sound.kept j i) in
    seat_kept state i new sound inside
    (leave-shape state.shape seat (sound.shape.each i inside))
    (λ slot. refl)
    refl (
      here.0,
      tt,
      here.2,
      λ scan e. let old = here.3 scan e in record {
        out = refl;
        all_retired = old.all_retired;
        tagged = old.tagged;
        kept = old.kept;
        looked_others = old.looked_others;
        passed_others = old.passed_others;
        scanned_passed = old.scanned_passed;
      },
    )
    (second i)
    (λ j _. between state sound.kept i j)
    (λ j _. second j)

-- Advance

pinned_more : (most : ℕ) (status : Stance) → IsPinnedUpTo most status → IsPinnedUpTo (most + 1) status
pinned_more most stance.Out h = tt
pinned_more most (stance.In epoch) h = omega arith
pinned_more most (stance.Ejected epoch) h = omega arith

tagged_more : (most : ℕ) (r : Retired) → IsTaggedUpTo most r → IsTaggedUpTo (most + 1) r
tagged_more most retire.No h = tt
tagged_more most retire.Untagged h = tt
tagged_more most (retire.Tagged tag) h = omega arith

pub advance_sound : (state : State) → IsSound state → state.epoch < last_epoch
    → IsSound (record state { epoch = state.epoch + 1 })
advance_sound state sound below =
    let k = sound.kept in record {
      shape = record {
        roots = sound.shape.roots;
        slots = sound.shape.slots;
        words = sound.shape.words;
        width =
            sound.shape.width;
        seats = sound.shape.seats;
        each = sound.shape.each;
      };
      kept = record {
        safe = record { unused = k.safe.unused; once = k.safe.once };
        epochs = record {
          epoch = omega arith;
          noted = λ i. let low = k.epochs.noted i in omega arith;
          pinned = λ i. pinned_more state.epoch (seat_at state i).status (k.epochs.pinned i);
          tagged = λ i slot. tagged_more state.epoch (retired_at (seat_at state i) slot) (k.epochs.tagged i slot);
        };
        older = k.older;
        scans = k.scans;
        passed = k.passed;
        shielded = k.shielded;
        looked = k.looked;
      };
      holding = sound.holding;
    }

-- Look and Eject: a scan that passes a seat

pass-shape : (shape : Shape) (seat : Seat) (scan : Scan) (other : ℕ) → IsSeatOfShape shape seat
    → IsScanOfShape shape scan → IsSeatOfShape shape (with_scan seat (with_passed scan other))
pass-shape shape seat scan other h k = record {
  seen = h.seen;
  shields = h.shields;
  fresh = h.fresh;
  retired = h.retired;
  scan = λ new e. at_some (IsScanOfShape shape) (with_passed scan other) new e (record {
    candidates = k.candidates;
    looked = k.looked;
    passed = length-set scan.passed other true ∙ k.passed;
    scanned = k.scanned;
    shields = k.shields;
    kept = k.kept;
  });
  set = h.set;
  valid = h.valid;
}

pass-scan : (i : ℕ) (seat : Seat) (scan : Scan) (other : ℕ) → i ≢ other → IsScanOf i seat scan
    → IsScanOf i (with_scan seat (with_passed scan other)) (with_passed scan other)
pass-scan i seat scan other apart h = record {
  out = h.out;
  all_retired = h.all_retired;
  tagged = h.tagged;
  kept = h.kept;
  looked_others = h.looked_others;
  passed_others = set_anywhere (λ b. b ≡ false) scan.passed other true false i (λ e. absurd (apart e)) h.passed_others;
  scanned_passed = λ j place scanned. has-added scan.passed other j (h.scanned_passed j place scanned);
}

-- A seat that is passed now can't be in with a candidate seen, and none of its shields is scanned yet.
pass-between : (i : ℕ) (owner : Seat) (scan : Scan) (other j : ℕ) (reader : Seat) → owner.scan ≡ Some scan
    → IsScanOf i owner scan
    → (j ≡ other → (epoch : ℕ) → reader.status ≡ stance.In epoch → HasSeenNoCandidate scan reader)
    → Between owner j reader → Between (with_scan owner (with_passed scan other)) j reader
pass-between i owner scan other j reader at own clear h = (
  h.0,
  h.1,
  λ new e. at_some (λ s. PassedHasSeenNone s j reader) (with_passed scan other) new e
      (λ passed epoch status. elim (has-either scan.passed other j passed) [
        | inl here ↦ clear here epoch status
        | inr before ↦ h.2 scan at before epoch status
      ]),
  λ new e. at_some (λ s. ScannedIsKept s j reader) (with_passed scan other) new e
      (λ place slot passed valid candidate scanned. h.3 scan at place slot
      (own.scanned_passed j place scanned) valid candidate scanned),
  λ new e. at_some (λ s. LookedIsOlder owner.retired s j reader) (with_passed scan other) new e
      (λ found look waiting. h.4 scan at found look (has-not_added scan.passed other j waiting)),
)

pub pass_sound : (state : State) (i j : ℕ) (scan : Scan) → IsSound state → i < state.shape.seats → i ≢ j
    → (seat_at state i).scan ≡ Some scan
    → ((epoch : ℕ) → (seat_at state j).status ≡ stance.In epoch → HasSeenNoCandidate scan (seat_at state j))
    → IsSound (with_seat state i (with_scan (seat_at state i) (with_passed scan j)))
pass_sound state i j scan sound inside apart at clear =
    let seat = seat_at state i in
    let new = with_scan seat (with_passed scan j) in
    let here = alone state sound.kept i in
    let own = here.3 scan at in
    let first : (k : ℕ) → Between new k (seat_at state k) =
    λ k. pass-between i seat scan j k (seat_at state k) at own
    (λ e. subst (λ m. (epoch : ℕ) → (seat_at state m).status ≡ stance.In epoch
    → HasSeenNoCandidate scan (seat_at state m)) (sym e) clear)
    (between state sound.kept i k) in
    seat_kept state i new sound inside
    (pass-shape state.shape seat scan j (sound.shape.each i inside) ((sound.shape.each i inside).scan scan at))
    (λ slot. refl)
    refl (
      here.0,
      here.1,
      here.2,
      λ s e. at_some (IsScanOf i new) (with_passed scan j) s e
          (pass-scan i seat scan j apart own),
    )
    (first i)
    (λ k _. first k)
    (λ k _. between state sound.kept k i)

-- a scan that finds a seat in, with an epoch that isn't above every tag

look-shape : (shape : Shape) (seat : Seat) (scan : Scan) (other epoch : ℕ) → IsSeatOfShape shape seat
    → IsScanOfShape shape scan → IsSeatOfShape shape (with_scan seat (with_look scan other epoch))
look-shape shape seat scan other epoch h k = record {
  seen = h.seen;
  shields = h.shields;
  fresh = h.fresh;
  retired = h.retired;
  scan = λ new e. at_some (IsScanOfShape shape) (with_look scan other epoch) new e (record {
    candidates = k.candidates;
    looked = length-set scan.looked other (Some epoch) ∙ k.looked;
    passed = k.passed;
    scanned = k.scanned;
    shields = k.shields;
    kept = k.kept;
  });
  set = h.set;
  valid = h.valid;
}

look-scan : (i : ℕ) (seat : Seat) (scan : Scan) (other epoch : ℕ) → i ≢ other → IsScanOf i seat scan
    → IsScanOf i (with_scan seat (with_look scan other epoch)) (with_look scan other epoch)
look-scan i seat scan other epoch apart h = record {
  out = h.out;
  all_retired = h.all_retired;
  tagged = h.tagged;
  kept = h.kept;
  looked_others = set_anywhere (λ f. f ≡ None) scan.looked other (Some epoch) None i
      (λ e. absurd (apart e)) h.looked_others;
  passed_others = h.passed_others;
  scanned_passed = h.scanned_passed;
}

look-between : (owner : Seat) (scan : Scan) (other epoch j : ℕ) (reader : Seat) → owner.scan ≡ Some scan
    → is_above_tags scan.candidates owner.retired epoch ≡ false
    → (j ≡ other → reader.status ≡ stance.In epoch)
    → Between owner j reader → Between (with_scan owner (with_look scan other epoch)) j reader
look-between owner scan other epoch j reader at above found_in h = (
  h.0,
  h.1,
  λ new e. at_some (λ s. PassedHasSeenNone s j reader) (with_look scan other epoch) new e (h.2 scan at),
  λ new e. at_some (λ s. ScannedIsKept s j reader) (with_look scan other epoch) new e (h.3 scan at),
  λ new e. at_some (λ s. LookedIsOlder owner.retired s j reader) (with_look scan other epoch) new e
      (λ found. set_anywhere (λ f. f ≡ Some found → has scan.passed j ≡ false
      → (is_above_tags scan.candidates owner.retired found ≡ false)
      × ((pin : ℕ) → reader.status ≡ stance.In pin → (pin ≡ found) ⊎ HasSeenNoCandidate scan reader))
      scan.looked other (Some epoch) None j
      (λ here same _. (
        subst (λ n. is_above_tags scan.candidates owner.retired n ≡ false) (same_Some epoch found same) above,
        λ pin status. inl (same_In pin epoch (sym status ∙ found_in here) ∙ same_Some epoch found same),
      ))
      (h.4 scan at found)),
)
  where
    same_In : (a b : ℕ) → stance.In a ≡ stance.In b → a ≡ b
    same_In a b e = cc

pub look_sound : (state : State) (i j epoch : ℕ) (scan : Scan) → IsSound state → i < state.shape.seats → i ≢ j
    → (seat_at state i).scan ≡ Some scan
    → is_above_tags scan.candidates (seat_at state i).retired epoch ≡ false → (seat_at state j).status ≡ stance.In epoch
    → IsSound (with_seat state i (with_scan (seat_at state i) (with_look scan j epoch)))
look_sound state i j epoch scan sound inside apart at above status =
    let seat = seat_at state i in
    let new = with_scan seat (with_look scan j epoch) in
    let here = alone state sound.kept i in
    let own = here.3 scan at in
    let first : (k : ℕ) → Between new k (seat_at state k) =
    λ k. look-between seat scan j epoch k (seat_at state k) at above
    (λ e. subst (λ m. (seat_at state m).status ≡ stance.In epoch) (sym e) status)
    (between state sound.kept i k) in
    seat_kept state i new sound inside
    (look-shape state.shape seat scan j epoch (sound.shape.each i inside) ((sound.shape.each i inside).scan scan at))
    (λ slot. refl)
    refl (
      here.0,
      here.1,
      here.2,
      λ s e. at_some (IsScanOf i new) (with_look scan j epoch) s e
          (look-scan i seat scan j epoch apart own),
    )
    (first i)
    (λ k _. first k)
    (λ k _. between state sound.kept k i)

-- each candidate's tag is below an epoch that is above all of them
above_each : (candidates : List Bool) (rs : List Retired) (epoch slot tag : ℕ)
    → is_above_tags candidates rs epoch ≡ true → has candidates slot ≡ true
    → get_or rs slot retire.No ≡ retire.Tagged tag → tag < epoch
above_each [] rs epoch slot tag h c r = absurd (false≢true c)
above_each (c ∷ cs) [] epoch slot tag h k r = absurd cc
above_each (true ∷ cs) (retire.Tagged t ∷ rs) epoch zero tag h c r =
    let low = ltb-true t epoch (and_parts (ltb t epoch) (is_above_tags cs rs epoch) h).0 in
    let same : t ≡ tag = cc in omega arith
above_each (true ∷ cs) (retire.Tagged t ∷ rs) epoch (suc slot) tag h c r =
    above_each cs rs epoch slot tag (and_parts (ltb t epoch) (is_above_tags cs rs epoch) h).1 c r
above_each (true ∷ cs) (retire.Untagged ∷ rs) epoch zero tag h c r = absurd cc
above_each (true ∷ cs) (retire.Untagged ∷ rs) epoch (suc slot) tag h c r = above_each cs rs epoch slot tag h c r
above_each (true ∷ cs) (retire.No ∷ rs) epoch zero tag h c r = absurd cc
above_each (true ∷ cs) (retire.No ∷ rs) epoch (suc slot) tag h c r = above_each cs rs epoch slot tag h c r
above_each (false ∷ cs) (r ∷ rs) epoch zero tag h c e = absurd (false≢true c)
above_each (false ∷ cs) (r ∷ rs) epoch (suc slot) tag h c e = above_each cs rs epoch slot tag h c e

-- a retired slot that isn't untagged has a tag
tag_of : (r : Retired) → is_retired r ≡ true → r ≢ retire.Untagged → (tag : ℕ) × (r ≡ retire.Tagged tag)
tag_of retire.No h k = absurd (false≢true h)
tag_of retire.Untagged h k = absurd (k refl)
tag_of (retire.Tagged tag) h k = (tag, refl)

-- a seat that may be passed has seen no candidate, where it is in
can_pass-clear : (i : ℕ) (owner reader : Seat) (scan : Scan) → IsScanOf i owner scan → HasSeenNoOlder owner reader
    → can_pass scan.candidates owner.retired reader.status ≡ true
    → (epoch : ℕ) → reader.status ≡ stance.In epoch → HasSeenNoCandidate scan reader
can_pass-clear i owner reader scan own older pass epoch status slot candidate =
    let above : is_above_tags scan.candidates owner.retired epoch ≡ true =
    subst (λ s. can_pass scan.candidates owner.retired s ≡ true) status pass in
    let tagged = tag_of (retired_at owner slot) (sym (own.all_retired slot) ∙ candidate) (own.tagged slot) in
    older slot tagged.0 epoch status tagged.1
    (above_each scan.candidates owner.retired epoch slot tagged.0 above candidate tagged.1)

-- a seat that may not be passed is in, with the epoch of its status
can_pass-in : (candidates : List Bool) (rs : List Retired) (status : Stance) → can_pass candidates rs status ≡ false
    → (status ≡ stance.In (epoch_of status)) × (is_above_tags candidates rs (epoch_of status) ≡ false)
can_pass-in candidates rs stance.Out h = absurd (false≢true (sym h))
can_pass-in candidates rs (stance.Ejected epoch) h = absurd (false≢true (sym h))
can_pass-in candidates rs (stance.In epoch) h = (refl, h)

pub after_look_sound : (state : State) (i j : ℕ) → IsSound state → i < state.shape.seats → i ≢ j
    → is_some (seat_at state i).scan ≡ true
    → IsSound (with_seat state i (after_look j (seat_at state j).status (seat_at state i)))
after_look_sound state i j sound inside apart scanning =
    let owner = seat_at state i in
    let reader = seat_at state j in
    let scan = scan_of owner in
    let at : owner.scan ≡ Some scan = is_some-value owner.scan no_scan scanning in
    let own = sound.kept.scans i scan at in
    let pick : (b : Bool) → can_pass scan.candidates owner.retired reader.status ≡ b
    → IsSound
    (with_seat state i
    (cond b (with_scan owner (with_passed scan j)) (with_scan owner (with_look scan j (epoch_of reader.status))))) =
    λ b. elim b as (λ v. can_pass scan.candidates owner.retired reader.status ≡ v
    → IsSound
    (with_seat state i
    (cond v (with_scan owner (with_passed scan j)) (with_scan owner (with_look scan j (epoch_of reader.status)))))) [
      | true ↦ λ pass. pass_sound state i j scan sound inside apart at
          (can_pass-clear i owner reader scan own (sound.kept.older i j) pass)
      | false ↦ λ stay. look_sound state i j (epoch_of reader.status) scan sound inside apart at
          (can_pass-in scan.candidates owner.retired reader.status stay).1
          (can_pass-in scan.candidates owner.retired reader.status stay).0
    ] in
    pick (can_pass scan.candidates owner.retired reader.status) refl

-- Eject

-- a seat that is still in after an attempt to eject it was in with another epoch
ejected_stance-in : (found epoch : ℕ) (status : Stance) → ejected_stance found status ≡ stance.In epoch
    → (status ≡ stance.In epoch) × (epoch ≢ found)
ejected_stance-in found epoch stance.Out e = absurd cc
ejected_stance-in found epoch (stance.Ejected other) e = absurd cc
ejected_stance-in found epoch (stance.In other) e = pick (eqb other found) refl e
  where
    pick : (b : Bool) → eqb other found ≡ b → cond b (stance.Ejected found) (stance.In other) ≡ stance.In epoch
        → (stance.In other ≡ stance.In epoch) × (epoch ≢ found)
    pick true t k = absurd cc
    pick false f k = (k, λ same. let one : other ≡ epoch = cc in eqb-false other found f (one ∙ same))

ejected_stance-pinned : (most found : ℕ) (status : Stance) → IsPinnedUpTo most status
    → IsPinnedUpTo most (ejected_stance found status)
ejected_stance-pinned most found stance.Out h = tt
ejected_stance-pinned most found (stance.Ejected epoch) h = h
ejected_stance-pinned most found (stance.In epoch) h = pick (eqb epoch found) refl
  where
    pick : (b : Bool) → eqb epoch found ≡ b → IsPinnedUpTo most (cond b (stance.Ejected found) (stance.In epoch))
    pick true t = let same = eqb-true epoch found t in omega arith
    pick false f = h

eject-between : (owner : Seat) (j : ℕ) (reader : Seat) (found : ℕ) → Between owner j reader
    → Between owner j (record reader { status = ejected_stance found reader.status })
eject-between owner j reader found h = (
  λ slot uses. elim uses [
    | inl valid ↦ h.0 slot (inl valid)
    | inr seen ↦ h.0 slot (inr (seen.0, (ejected_stance-in found seen.0 reader.status seen.1).0, seen.2))
  ],
  λ slot tag epoch at. h.1 slot tag epoch (ejected_stance-in found epoch reader.status at).0,
  λ scan e passed epoch at. h.2 scan e passed epoch (ejected_stance-in found epoch reader.status at).0,
  h.3,
  λ scan e before look waiting. (
    (h.4 scan e before look waiting).0,
    λ epoch at. (h.4 scan e before look waiting).1 epoch
        (ejected_stance-in found epoch reader.status at).0,
  ),
)

pub eject_seat_sound : (state : State) (j found : ℕ) → IsSound state → j < state.shape.seats
    → IsSound (with_seat state j (record (seat_at state j) { status = ejected_stance found (seat_at state j).status }))
eject_seat_sound state j found sound inside =
    let seat = seat_at state j in
    let new = record seat { status = ejected_stance found seat.status } in
    let here = alone state sound.kept j in
    let fits = sound.shape.each j inside in
    let second : (k : ℕ) → Between (seat_at state k) j new =
    λ k. eject-between (seat_at state k) j seat found (between state sound.kept k j) in
    seat_kept state j new sound inside
    (record {
      seen = fits.seen;
      shields = fits.shields;
      fresh = fits.fresh;
      retired = fits.retired;
      scan =
          fits.scan;
      set = fits.set;
      valid = fits.valid;
    })
    (λ slot. refl)
    refl (
      here.0,
      ejected_stance-pinned state.epoch found seat.status here.1,
      here.2,
      λ scan e. let old = here.3 scan e in record {
        out = ap (ejected_stance found) old.out;
        all_retired = old.all_retired;
        tagged = old.tagged;
        kept = old.kept;
        looked_others = old.looked_others;
        passed_others = old.passed_others;
        scanned_passed = old.scanned_passed;
      },
    )
    (second j)
    (λ k _. between state sound.kept j k)
    (λ k _. second k)

pub eject_sound : (state : State) (i j : ℕ) → IsSound state → i < state.shape.seats → j < state.shape.seats
    → is_some (seat_at state i).scan ≡ true
    → is_some (found_at (scan_of (seat_at state i)) j) ≡ true → has (scan_of (seat_at state i)).passed j ≡ false
    → (mid : State) → mid ≡ with_seat state j
    (record (seat_at state j) {
      status = ejected_stance (unwrap_or (found_at (scan_of (seat_at state i)) j) 0)
          (seat_at state j).status;
    })
    → IsSound (with_seat mid i (after_pass j (seat_at mid i)))
eject_sound state i j sound inside other_inside scanning looked waiting mid is_mid =
    let owner = seat_at state i in
    let reader = seat_at state j in
    let scan = scan_of owner in
    let found = unwrap_or (found_at scan j) 0 in
    let new = record reader { status = ejected_stance found reader.status } in
    let at : owner.scan ≡ Some scan = is_some-value owner.scan no_scan scanning in
    let own = sound.kept.scans i scan at in
    let at_found : found_at scan j ≡ Some found = is_some-value (found_at scan j) 0 looked in
    let apart : i ≢ j = λ e. none-some found (sym own.looked_others ∙ (ap (found_at scan) e ∙ at_found)) in
    let mid_sound : IsSound mid = subst IsSound (sym is_mid) (eject_seat_sound state j found sound other_inside) in
    let mid_shape : state.shape.seats ≡ mid.shape.seats = ap (λ s. s.shape.seats) (sym is_mid) in
    let mid_owner : seat_at mid i ≡ owner = ap (λ s. seat_at s i) is_mid
    ∙ get_or-set_other state.seats j i new nobody apart in
    let mid_reader : seat_at mid j ≡ new = ap (λ s. seat_at s j) is_mid
    ∙ get_or-set_same state.seats j new nobody (omega (arith, sound.shape.seats)) in
    let clear : (epoch : ℕ) → new.status ≡ stance.In epoch → HasSeenNoCandidate scan new =
    λ epoch status. let was = ejected_stance-in found epoch reader.status status in
    elim ((sound.kept.looked i scan at j found at_found waiting).1 epoch was.0) as
    (λ _. HasSeenNoCandidate scan new) [ inl same ↦ absurd (was.1 same) | inr none ↦ none ] in
    let passed : IsSound (with_seat mid i (with_scan (seat_at mid i) (with_passed scan j))) =
    pass_sound mid i j scan mid_sound (omega arith) apart (ap (λ s. s.scan) mid_owner ∙ at)
    (subst (λ s. (epoch : ℕ) → s.status ≡ stance.In epoch → HasSeenNoCandidate scan s) (sym mid_reader) clear) in
    subst (λ s. IsSound (with_seat mid i (with_scan (seat_at mid i) (with_passed s j))))
    (sym (ap scan_of mid_owner)) passed
