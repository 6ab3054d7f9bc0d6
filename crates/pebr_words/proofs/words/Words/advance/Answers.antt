use Rattle.std.proofs.Common.{◌+◌, ap, refl, sym, ◌∙◌, subst}
use Rattle.pebr_table.specs.Tables.{key_of, me_of}
use Rattle.pebr_words.specs.Making.{known_in_view, past_in, IsStepOf}
use Rattle.pebr_words.specs.Mirrors.{Mirrors}
use Rattle.pebr_words.proofs.AdvanceStep.{advance_by, advance_kept, advance_recalled}
use Rattle.pebr_words.proofs.Mirroring.{same_mirrors}
use Rattle.pebr_table.specs.Operations as op
use Rattle.std.specs.Prelude.{if◌then◌else◌, ◌==◌}
use Rattle.pebr_core.specs.declared.kinds.Step.TheVariants as step
use Rattle.pebr_core.specs.declared.kinds.Answer.TheVariants as answer
use Rattle.pebr_words.specs.Pasts.{past_after}
use Rattle.pebr_words.specs.Ruled.{BackedWhole}
use Rattle.pebr_words.proofs.words.Words.advance.Goals as goal

pub exchange-requires-clause-made : goal.exchange-requires-clause-made
exchange-requires-clause-made g c = advance_by c.args.self.now.shape c.args.seat.now.number c.args.seat.now.noted _
    c.args.seat.now.mirrors.noted_is c.requires.low

pub exchange-requires-clause-kept : goal.exchange-requires-clause-kept
exchange-requires-clause-kept g c = advance_kept
    (g.P.RootProtocol.keeps (key_of c.args.self.now.table).fixed)
    (BackedWhole g.P.RootProtocol.whole (g.P.RootProtocol.backed (key_of c.args.self.now.table).fixed))
    g.P.RootProtocol.after
    c.args.seat.now.number _ _

pub exchange-requires-clause-recalled : goal.exchange-requires-clause-recalled
exchange-requires-clause-recalled g c = advance_recalled c.args.seat.now.number _

pub invariant_of-seat : goal.invariant_of-seat
invariant_of-seat g c =
    let seat = c.args.seat.now in
    let known = known_in_view (me_of seat.inner).0 in
    let told = c.exchange.ensures.told in
    record {
      acts = told.number ∙ seat.acts;
      mirrors = subst (Mirrors seat.noted seat.slots seat.found.items) (sym told.known)
          (same_mirrors seat.noted seat.slots seat.found.items known _ seat.mirrors refl refl refl refl);
    }

pub returns-clause-step : goal.returns-clause-step
returns-clause-step g c =
    let seat = c.args.seat.now in
    let known = known_in_view (me_of seat.inner).0 in
    let told = c.exchange.ensures.told in
    let s = step.Advance seat.number in
    let is = ap (λ n. if c.exchange.result == n then answer.Epoch (known.noted + 1) else answer.Lost)
    seat.mirrors.noted_is in
    record {
      core = subst (λ a. IsStepOf c.args.self.now.shape s a known
          (known_in_view (me_of c.exchange.new.seat).0)) is told.made;
      past = told.past ∙ ap (λ a. past_after s a known (past_in (me_of seat.inner).0)) is;
      made = (c.exchange.result, sym is, c.exchange.ensures.recorded);
      sure = told.sure;
    }

pub exchange-requires-clause-own : goal.exchange-requires-clause-own
exchange-requires-clause-own g c found = ap (λ n. op.exchange 0 n (n + 1) found) c.args.seat.now.mirrors.noted_is
