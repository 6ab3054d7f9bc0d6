use Rattle.std.proofs.Common.{◌∙◌, count_by, sym, ap, subst}
use Rattle.pebr_table.specs.Tables.{key_of, me_of}
use Rattle.pebr_words.specs.Making.{known_in_view, past_in, answer_found, IsStepOf}
use Rattle.pebr_words.specs.Mirrors.{Mirrors}
use Rattle.pebr_core.specs.declared.kinds.Step.TheVariants as step
use Rattle.pebr_core.specs.State.{Seat, scan_of, is_retired}
use Rattle.pebr_core.specs.Steps.{after_give}
use Rattle.pebr_core.specs.declared.kinds.Answer.TheVariants as answer
use Rattle.pebr_words.specs.Pasts.{past_after}
use Rattle.pebr_words.proofs.Mirroring.{has_scan, give_mirrors, given_counts}
use Rattle.pebr_words.proofs.GiveStep.{give_by, give_kept, give_recalled}
use Rattle.pebr_words.specs.Ruled.{BackedWhole}
use Rattle.pebr_words.proofs.words.Words.give.Goals as goal

pub load-epoch-requires-clause-made : goal.load-epoch-requires-clause-made
load-epoch-requires-clause-made g c =
    let known = known_in_view (me_of c.args.seat.now.inner).0 in
    give_by c.args.self.now.shape c.args.seat.now.number known (scan_of known)
    (has_scan known c.requires.scanning) c.requires.complete c.requires.down

pub load-epoch-requires-clause-kept : goal.load-epoch-requires-clause-kept
load-epoch-requires-clause-kept g c = give_kept
    (g.P.RootProtocol.keeps (key_of c.args.self.now.table).fixed)
    (BackedWhole g.P.RootProtocol.whole (g.P.RootProtocol.backed (key_of c.args.self.now.table).fixed))
    g.P.RootProtocol.after
    c.args.seat.now.number _ _

pub load-epoch-requires-clause-recalled : goal.load-epoch-requires-clause-recalled
load-epoch-requires-clause-recalled g c = give_recalled c.args.seat.now.number _

pub invariant_of-seat : goal.invariant_of-seat
invariant_of-seat g c =
    let seat = c.args.seat.now in
    let known = known_in_view (me_of seat.inner).0 in
    let told = c.load-epoch.ensures.told in
    let epoch = c.load-epoch.result in
    let made =
    subst (λ (new : Seat). IsStepOf c.args.self.now.shape (step.Give seat.number)
    (answer_found (step.Give seat.number) known epoch) known new) told.known told.made in
    record {
      acts = told.number ∙ seat.acts;
      mirrors = subst (Mirrors epoch c.give.new.self seat.found.items) (sym told.known)
          (give_mirrors seat.number epoch seat.noted seat.slots c.give.new.self seat.found.items made c.requires.at.3
          seat.mirrors c.requires.scanning c.give.ensures.fresh c.give.ensures.retired);
    }

pub returns-clause-known : goal.returns-clause-known
returns-clause-known g c =
    let known = known_in_view (me_of c.args.seat.now.inner).0 in
    let is = c.load-epoch.ensures.told.known in
    is ∙ ap (λ n. after_give n known) (sym (ap (λ (s : Seat). s.noted) is))

pub returns-clause-step : goal.returns-clause-step
returns-clause-step g c =
    let seat = c.args.seat.now in
    let known = known_in_view (me_of seat.inner).0 in
    let told = c.load-epoch.ensures.told in
    let epoch = c.load-epoch.result in
    let s = step.Give seat.number in
    let made = subst (λ (new : Seat). IsStepOf c.args.self.now.shape s (answer_found s known epoch) known new)
    told.known told.made in
    let m' = give_mirrors seat.number epoch seat.noted seat.slots c.give.new.self seat.found.items made c.requires.at.3
    seat.mirrors c.requires.scanning c.give.ensures.fresh c.give.ensures.retired in
    let counts = given_counts seat.number epoch seat.noted seat.slots c.give.new.self seat.found.items seat.mirrors m'
    made c.requires.at.3 c.requires.scanning in
    let is = ap (λ n. answer.Given n (count_by is_retired (after_give epoch known).retired))
    (sym (c.give.ensures.given ∙ counts.0)) ∙ ap (answer.Given c.give.result.0)
    (sym (c.give.ensures.left ∙ counts.1)) in
    record {
      core = subst (λ a. IsStepOf c.args.self.now.shape s a known
          (known_in_view (me_of c.load-epoch.new.seat).0)) is told.made;
      past = told.past ∙ ap (λ a. past_after s a known (past_in (me_of seat.inner).0)) is;
      made = (epoch, sym is, c.load-epoch.ensures.recorded);
      sure = told.sure;
    }
