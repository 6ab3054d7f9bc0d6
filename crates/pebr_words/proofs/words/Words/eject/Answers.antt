use Rattle.std.proofs.Common.{◌≡◌, ◌*◌, ◌+◌, ◌<◌, sym, ap, ◌∙◌, subst, arith}
use Rattle.std.specs.Prelude.{unwrap_or, if◌then◌else◌, ◌==◌, length}
use Rattle.pebr_core.specs.declared.kinds.Answer.TheVariants as answer
use Rattle.pebr_core.specs.State.{Seat, has, scan_of}
use Rattle.pebr_table.specs.Tables.{key_of, me_of}
use Rattle.pebr_words.specs.Making.{known_in_view, past_in, IsStepOf}
use Rattle.pebr_core.specs.declared.kinds.Step.TheVariants as step
use Rattle.pebr_words.specs.Pasts.{past_after}
use Rattle.pebr_words.specs.Mirrors.{Mirrors}
use Rattle.pebr_words.proofs.EjectStep.{eject_by, eject_kept, eject_recalled}
use Rattle.pebr_words.proofs.Mirroring.{pass_mirrors, found_here, found_low, has_scan}
use Rattle.pebr_words.proofs.SeatFacts.{passed_here}
use Rattle.pebr_table.specs.Operations as op
use Rattle.pebr_words.specs.Places.{status_word, index}
use Rattle.pebr_words.specs.Ruled.{BackedWhole}
use Rattle.pebr_words.proofs.words.Words.eject.Goals as goal

pub overflow_mul-was_in : goal.overflow_mul-was_in
overflow_mul-was_in g c =
    let seat = c.args.seat.now in
    let low = found_low seat.noted seat.slots seat.found.items _ seat.mirrors c.args.other c.index.result.now
    (let long = c.requires.at.4 in omega (arith, long, c.requires.other)) c.index.ensures in
    omega (arith, low)

pub overflow_add-was_in : goal.overflow_add-was_in
overflow_add-was_in g c =
    let seat = c.args.seat.now in
    let low = found_low seat.noted seat.slots seat.found.items _ seat.mirrors c.args.other c.index.result.now
    (let long = c.requires.at.4 in omega (arith, long, c.requires.other)) c.index.ensures in
    omega (arith, low)

pub overflow_add-was_in-2 : goal.overflow_add-was_in-2
overflow_add-was_in-2 g c =
    let seat = c.args.seat.now in
    let low = found_low seat.noted seat.slots seat.found.items _ seat.mirrors c.args.other c.index.result.now
    (let long = c.requires.at.4 in omega (arith, long, c.requires.other)) c.index.ensures in
    omega (arith, low)

pub exchange-requires-clause-made : goal.exchange-requires-clause-made
exchange-requires-clause-made g c =
    let seat = c.args.seat.now in
    let known = known_in_view (me_of seat.inner).0 in
    let near : c.args.other < length seat.found.items =
    (let long = c.requires.at.4 in omega (arith, long, c.requires.other)) in
    let looked = found_here seat.noted seat.slots seat.found.items known seat.mirrors c.args.other c.index.result.now
    c.requires.looked near c.index.ensures in
    eject_by c.args.self.now.shape seat.number c.args.other c.index.result.now known (scan_of known) c.requires.other
    (has_scan known c.requires.scanning) looked c.requires.unpassed

pub exchange-requires-clause-kept : goal.exchange-requires-clause-kept
exchange-requires-clause-kept g c = eject_kept
    (g.P.RootProtocol.keeps (key_of c.args.self.now.table).fixed)
    (BackedWhole g.P.RootProtocol.whole (g.P.RootProtocol.backed (key_of c.args.self.now.table).fixed))
    g.P.RootProtocol.after
    c.args.seat.now.number c.args.other _ _

pub exchange-requires-clause-recalled : goal.exchange-requires-clause-recalled
exchange-requires-clause-recalled g c = eject_recalled c.args.seat.now.number c.args.other _

pub invariant_of-seat : goal.invariant_of-seat
invariant_of-seat g c =
    let seat = c.args.seat.now in
    let told = c.exchange.ensures.told in
    record {
      acts = told.number ∙ seat.acts;
      mirrors = subst (Mirrors seat.noted seat.slots seat.found.items) (sym told.known)
          (pass_mirrors seat.noted seat.slots seat.found.items _ seat.mirrors c.requires.scanning c.args.other);
    }

pub returns-clause-step : goal.returns-clause-step
returns-clause-step g c =
    let seat = c.args.seat.now in
    let known = known_in_view (me_of seat.inner).0 in
    let near : c.args.other < length seat.found.items =
    (let long = c.requires.at.4 in omega (arith, long, c.requires.other)) in
    let looked = found_here seat.noted seat.slots seat.found.items known seat.mirrors c.args.other c.index.result.now
    c.requires.looked near c.index.ensures in
    let told = c.exchange.ensures.told in
    let is = ap (λ o. if c.exchange.result == 4 * unwrap_or o 0 + 1 then answer.Ejected else answer.Lost) looked in
    record {
      core = subst
          (λ n. IsStepOf c.args.self.now.shape (step.Eject seat.number c.args.other)
          (if c.exchange.result == 4 * n + 1 then answer.Ejected else answer.Lost) known
          (known_in_view (me_of c.exchange.new.seat).0))
          (ap (λ o. unwrap_or o 0) looked) c.exchange.ensures.told.made;
      past = told.past ∙ ap (λ a. past_after (step.Eject seat.number c.args.other) a known
          (past_in (me_of seat.inner).0)) is;
      made = (c.exchange.result, sym is, c.exchange.ensures.recorded);
      sure = told.sure;
    }

pub returns-clause-passed : goal.returns-clause-passed
returns-clause-passed g c =
    let known = known_in_view (me_of c.args.seat.now.inner).0 in
    ap (λ (s : Seat). has (scan_of s).passed c.args.other) c.exchange.ensures.told.known
    ∙ passed_here c.args.self.now.shape known c.requires.at.6 c.requires.scanning c.args.other c.requires.other

pub exchange-requires-clause-own : goal.exchange-requires-clause-own
exchange-requires-clause-own g c found =
    let seat = c.args.seat.now in
    let near : c.args.other < length seat.found.items =
    (let long = c.requires.at.4 in omega (arith, long, c.requires.other)) in
    let looked = found_here seat.noted seat.slots seat.found.items (known_in_view (me_of seat.inner).0) seat.mirrors
    c.args.other c.index.result.now c.requires.looked near c.index.ensures in
    let n = c.index.result.now in
    ap (λ o. op.exchange (index c.args.self.now.shape (status_word c.args.other)) (4 * unwrap_or o 0 + 1)
    (4 * unwrap_or o 0 + 2) found) looked
    ∙ ap (λ v. op.exchange (index c.args.self.now.shape (status_word c.args.other)) (4 * n + 1) v found)
    (let e : 4 * n + 2 ≡ 4 * n + 1 + 1 = omega arith in e)
