use Rattle.std.proofs.Common.{◌∙◌, sym, ap, subst}
use Rattle.pebr_table.specs.Tables.{key_of, me_of}
use Rattle.pebr_words.specs.Making.{known_in_view, past_in, slot_from, IsStepOf}
use Rattle.pebr_words.specs.Mirrors.{Mirrors}
use Rattle.pebr_core.specs.declared.kinds.Step.TheVariants as step
use Rattle.pebr_core.specs.Steps.{found_under, after_scan}
use Rattle.pebr_core.specs.State.{Seat, scan_of, has_scanned}
use Rattle.pebr_words.proofs.Mirroring.{has_scan, can_keep, scan_mirrors}
use Rattle.pebr_words.proofs.ScanStep.{scan_by, scan_kept, scan_recalled}
use Rattle.pebr_words.proofs.SeatFacts.{scanned_here}
use Rattle.pebr_words.specs.Pasts.{past_after}
use Rattle.pebr_words.specs.Ruled.{BackedWhole}
use Rattle.pebr_words.proofs.words.Words.scan_shield.Goals as goal

pub load-requires-clause-made : goal.load-requires-clause-made
load-requires-clause-made g c =
    let known = known_in_view (me_of c.args.seat.now.inner).0 in
    scan_by c.args.self.now.shape c.args.seat.now.number c.args.other c.args.place known
    (scan_of known) c.requires.other c.requires.place
    (has_scan known c.requires.scanning) c.requires.passed c.requires.unread

pub load-requires-clause-kept : goal.load-requires-clause-kept
load-requires-clause-kept g c = scan_kept
    (g.P.RootProtocol.keeps (key_of c.args.self.now.table).fixed)
    (BackedWhole g.P.RootProtocol.whole (g.P.RootProtocol.backed (key_of c.args.self.now.table).fixed))
    g.P.RootProtocol.after
    c.args.seat.now.number c.args.other c.args.place _ _

pub load-requires-clause-recalled : goal.load-requires-clause-recalled
load-requires-clause-recalled g c = scan_recalled c.args.seat.now.number c.args.other c.args.place _

pub keep_found-requires : goal.keep_found-requires
keep_found-requires g c =
    let seat = c.args.seat.now in
    let known = known_in_view (me_of seat.inner).0 in
    let told = c.load.ensures.told in
    let made =
    subst (λ o. IsStepOf c.args.self.now.shape (step.Scan seat.number c.args.other c.args.place) (found_under o) known
    (known_in_view (me_of c.load.new.seat).0)) (sym c.slot_told-slot.ensures) told.made in
    can_keep seat.number c.args.other c.args.place c.slot_told-slot.result seat.noted seat.slots seat.found.items made
    seat.mirrors c.requires.scanning c.requires.at.3 c.requires.other

pub invariant_of-seat : goal.invariant_of-seat
invariant_of-seat g c =
    let seat = c.args.seat.now in
    let known = known_in_view (me_of seat.inner).0 in
    let told = c.load.ensures.told in
    let slots = c.keep_found.ensures in
    let slot = c.slot_told-slot.result in
    let made =
    subst (λ o. IsStepOf c.args.self.now.shape (step.Scan seat.number c.args.other c.args.place) (found_under o) known
    (known_in_view (me_of c.load.new.seat).0)) (sym c.slot_told-slot.ensures) told.made in
    record {
      acts = told.number ∙ seat.acts;
      mirrors = subst (Mirrors seat.noted c.keep_found.new.slots seat.found.items)
          (sym (told.known ∙ ap (λ o. after_scan c.args.other c.args.place o known) (sym c.slot_told-slot.ensures)))
          (scan_mirrors seat.number c.args.other c.args.place slot seat.noted seat.slots c.keep_found.new.slots
          seat.found.items made c.requires.at.3 seat.mirrors c.requires.scanning slots.fresh slots.retired slots.kept);
    }

pub returns-clause-scanned : goal.returns-clause-scanned
returns-clause-scanned g c =
    let known = known_in_view (me_of c.args.seat.now.inner).0 in
    ap (λ (s : Seat). has_scanned (scan_of s) c.args.other c.args.place) c.load.ensures.told.known
    ∙ scanned_here c.args.self.now.shape known c.requires.at.6 c.requires.scanning c.args.other c.args.place
    (slot_from c.load.result) c.requires.other c.requires.place

pub returns-clause-step : goal.returns-clause-step
returns-clause-step g c =
    let seat = c.args.seat.now in
    let known = known_in_view (me_of seat.inner).0 in
    let told = c.load.ensures.told in
    let s = step.Scan seat.number c.args.other c.args.place in
    let is = c.slot_told-slot.ensures in
    record {
      core = subst (λ o. IsStepOf c.args.self.now.shape s (found_under o) known
          (known_in_view (me_of c.load.new.seat).0))
          (sym is) told.made;
      past = told.past ∙ ap (λ o. past_after s (found_under o) known (past_in (me_of seat.inner).0)) (sym is);
      made = (c.load.result, ap found_under is, c.load.ensures.recorded);
      sure = told.sure;
    }
