use Rattle.std.proofs.Common.{refl, ap, sym, ◌∙◌, subst}
use Rattle.pebr_table.specs.Tables.{key_of, me_of}
use Rattle.pebr_words.specs.Making.{known_in_view, past_in, stance_from, IsStepOf}
use Rattle.pebr_words.specs.Mirrors.{Mirrors}
use Rattle.pebr_words.proofs.CheckStep.{check_by, check_kept, check_recalled}
use Rattle.pebr_words.proofs.Mirroring.{same_mirrors}
use Rattle.std.specs.Prelude.{◌≡◌, ℕ, Bool, true, false, ◌%◌, ◌/◌, if◌then◌else◌, ◌==◌}
use Rattle.pebr_core.specs.declared.kinds.Step.TheVariants as step
use Rattle.pebr_core.specs.declared.kinds.Stance.TheVariants as stance
use Rattle.pebr_core.specs.declared.kinds.Answer.TheVariants as answer
use Rattle.pebr_core.specs.Steps.{check_answer}
use Rattle.pebr_words.specs.Pasts.{past_after}
use Rattle.pebr_words.specs.Ruled.{BackedWhole}
use Rattle.pebr_words.proofs.words.Words.own_status.Goals as goal

pub load-requires-clause-made : goal.load-requires-clause-made
load-requires-clause-made g c = check_by c.args.self.now.shape c.args.seat.now.number _ c.requires.not_out

pub load-requires-clause-kept : goal.load-requires-clause-kept
load-requires-clause-kept g c = check_kept
    (g.P.RootProtocol.keeps (key_of c.args.self.now.table).fixed)
    (BackedWhole g.P.RootProtocol.whole (g.P.RootProtocol.backed (key_of c.args.self.now.table).fixed))
    g.P.RootProtocol.after
    c.args.seat.now.number _ _

pub load-requires-clause-recalled : goal.load-requires-clause-recalled
load-requires-clause-recalled g c = check_recalled c.args.seat.now.number _ c.requires.not_out

pub invariant_of-seat : goal.invariant_of-seat
invariant_of-seat g c =
    let seat = c.args.seat.now in
    let known = known_in_view (me_of seat.inner).0 in
    let told = c.load.ensures.told in
    record {
      acts = told.number ∙ seat.acts;
      mirrors = subst (Mirrors seat.noted seat.slots seat.found.items) (sym told.known)
          (same_mirrors seat.noted seat.slots seat.found.items known _ seat.mirrors refl refl refl refl);
    }

-- the answer, of the word found
check_as : (word : ℕ) → check_answer (stance_from word) ≡ (if word % 4 == 1 then answer.Valid else answer.Ejected)
check_as word = pick (word % 4 == 1) (word % 4 == 2)
  where
    pick : (b c : Bool)
        → check_answer (if b then stance.In (word / 4) else (if c then stance.Ejected (word / 4) else stance.Out))
        ≡ (if b then answer.Valid else answer.Ejected)
    pick true c = refl
    pick false true = refl
    pick false false = refl

pub returns-clause-step : goal.returns-clause-step
returns-clause-step g c =
    let seat = c.args.seat.now in
    let known = known_in_view (me_of seat.inner).0 in
    let told = c.load.ensures.told in
    let s = step.Check seat.number in
    let is = check_as c.load.result in
    record {
      core = subst (λ a. IsStepOf c.args.self.now.shape s a known
          (known_in_view (me_of c.load.new.seat).0)) is told.made;
      past = told.past ∙ ap (λ a. past_after s a known (past_in (me_of seat.inner).0)) is;
      made = (c.load.result, sym is, c.load.ensures.recorded);
      sure = told.sure;
    }
