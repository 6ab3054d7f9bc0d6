use Rattle.std.proofs.Common.{◌<◌, length, sym, ap, ◌∙◌, subst, arith}
use Rattle.pebr_core.specs.declared.kinds.Step.TheVariants as step
use Rattle.pebr_core.specs.State.{Seat, has, scan_of, found_at}
use Rattle.pebr_table.specs.Tables.{key_of, me_of}
use Rattle.pebr_words.specs.Making.{known_in_view, past_in}
use Rattle.pebr_words.specs.Pasts.{past_after}
use Rattle.pebr_words.specs.Mirrors.{Mirrors, found_after}
use Rattle.pebr_words.proofs.LookStep.{look_by, look_kept, look_recalled}
use Rattle.pebr_words.proofs.Mirroring.{has_scan, look_told, looked_mirrors}
use Rattle.pebr_words.proofs.SeatFacts.{looked_passed, looked_found}
use Rattle.pebr_words.specs.Ruled.{BackedWhole}
use Rattle.pebr_words.proofs.words.Words.look.Goals as goal

pub load-found-requires-clause-made : goal.load-found-requires-clause-made
load-found-requires-clause-made g c =
    let known = known_in_view (me_of c.args.seat.now.inner).0 in
    look_by c.args.self.now.shape c.args.seat.now.number c.args.other known
    (scan_of known) c.requires.other.0 c.requires.other.1 (has_scan known c.requires.scanning) c.requires.unpassed

pub load-found-requires-clause-kept : goal.load-found-requires-clause-kept
load-found-requires-clause-kept g c = look_kept
    (g.P.RootProtocol.keeps (key_of c.args.self.now.table).fixed)
    (BackedWhole g.P.RootProtocol.whole (g.P.RootProtocol.backed (key_of c.args.self.now.table).fixed))
    g.P.RootProtocol.after
    c.args.seat.now.number c.args.other _ _

pub load-found-requires-clause-recalled : goal.load-found-requires-clause-recalled
load-found-requires-clause-recalled g c = look_recalled c.args.seat.now.number c.args.other _

pub invariant_of-seat : goal.invariant_of-seat
invariant_of-seat g c =
    let seat = c.args.seat.now in
    let told = c.load-found.ensures.told in
    let known = known_in_view (me_of seat.inner).0 in
    let near : c.args.other < length seat.found.items =
    (let long = c.requires.at.4 in omega (arith, long, c.requires.other.0)) in
    let both = look_told g.P.RootProtocol.after g.P.RootProtocol.whole g.P.RootProtocol.first c.args.self.now.shape
    seat.noted seat.slots c.newest_tag.result seat.found.items seat.number c.args.other c.load-found.result
    c.judge-looked.result
    (me_of seat.inner) _ seat.mirrors c.newest_tag.ensures c.requires.scanning c.requires.at.3 told
    c.judge-looked.ensures.answer in
    record {
      acts = told.number ∙ seat.acts;
      mirrors = subst (λ l. Mirrors seat.noted seat.slots l (known_in_view (me_of c.load-found.new.seat).0))
          (sym c.keep.ensures)
          (subst (Mirrors seat.noted seat.slots (found_after seat.found.items c.args.other c.judge-looked.result))
          (sym both.0)
          (looked_mirrors seat.noted seat.slots seat.found.items known seat.mirrors c.requires.scanning c.args.other
          c.judge-looked.result near c.judge-looked.ensures.low));
    }

pub returns-clause-known : goal.returns-clause-known
returns-clause-known g c =
    let seat = c.args.seat.now in
    let both = look_told g.P.RootProtocol.after g.P.RootProtocol.whole g.P.RootProtocol.first c.args.self.now.shape
    seat.noted seat.slots c.newest_tag.result seat.found.items seat.number c.args.other c.load-found.result
    c.judge-looked.result
    (me_of seat.inner) _ seat.mirrors c.newest_tag.ensures c.requires.scanning c.requires.at.3 c.load-found.ensures.told
    c.judge-looked.ensures.answer in
    both.0

pub returns-clause-step : goal.returns-clause-step
returns-clause-step g c =
    let seat = c.args.seat.now in
    let both = look_told g.P.RootProtocol.after g.P.RootProtocol.whole g.P.RootProtocol.first c.args.self.now.shape
    seat.noted seat.slots c.newest_tag.result seat.found.items seat.number c.args.other c.load-found.result
    c.judge-looked.result
    (me_of seat.inner) _ seat.mirrors c.newest_tag.ensures c.requires.scanning c.requires.at.3 c.load-found.ensures.told
    c.judge-looked.ensures.answer in
    record {
      core = both.1;
      past = c.load-found.ensures.told.past ∙ ap
          (λ a. past_after (step.Look seat.number c.args.other) a (known_in_view (me_of seat.inner).0)
          (past_in (me_of seat.inner).0))
          both.2;
      made = (c.load-found.result, sym both.2, c.load-found.ensures.recorded);
      sure = c.load-found.ensures.told.sure;
    }

pub returns-clause-passed : goal.returns-clause-passed
returns-clause-passed g c is =
    let seat = c.args.seat.now in
    let known = known_in_view (me_of seat.inner).0 in
    let both = look_told g.P.RootProtocol.after g.P.RootProtocol.whole g.P.RootProtocol.first c.args.self.now.shape
    seat.noted seat.slots c.newest_tag.result seat.found.items seat.number c.args.other c.load-found.result
    c.judge-looked.result
    (me_of seat.inner) _ seat.mirrors c.newest_tag.ensures c.requires.scanning c.requires.at.3 c.load-found.ensures.told
    c.judge-looked.ensures.answer in
    ap (λ (s : Seat). has (scan_of s).passed c.args.other) both.0
    ∙ looked_passed c.args.self.now.shape known c.requires.at.6 c.requires.scanning c.args.other c.judge-looked.result
    c.requires.other.0 is

pub returns-clause-found : goal.returns-clause-found
returns-clause-found g c epoch is =
    let seat = c.args.seat.now in
    let known = known_in_view (me_of seat.inner).0 in
    let both = look_told g.P.RootProtocol.after g.P.RootProtocol.whole g.P.RootProtocol.first c.args.self.now.shape
    seat.noted seat.slots c.newest_tag.result seat.found.items seat.number c.args.other c.load-found.result
    c.judge-looked.result
    (me_of seat.inner) _ seat.mirrors c.newest_tag.ensures c.requires.scanning c.requires.at.3 c.load-found.ensures.told
    c.judge-looked.ensures.answer in
    ap (λ (s : Seat). found_at (scan_of s) c.args.other) both.0
    ∙ looked_found c.args.self.now.shape known c.requires.at.6 c.requires.scanning c.args.other epoch
    c.judge-looked.result c.requires.other.0 is
