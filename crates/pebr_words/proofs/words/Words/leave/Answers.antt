use Rattle.std.proofs.Common.{◌*◌, ap, refl, sym, ◌∙◌, subst}
use Rattle.pebr_table.specs.Tables.{key_of, me_of}
use Rattle.pebr_words.specs.Making.{known_in_view}
use Rattle.pebr_words.specs.Mirrors.{Mirrors}
use Rattle.pebr_words.proofs.LeaveStep.{leave_by, leave_kept, leave_recalled}
use Rattle.pebr_words.proofs.Mirroring.{same_mirrors}
use Rattle.pebr_table.specs.Operations as op
use Rattle.pebr_words.specs.Places.{status_word, index}
use Rattle.pebr_words.proofs.words.Words.leave.Goals as goal

pub store-requires-clause-made : goal.store-requires-clause-made
store-requires-clause-made g c = leave_by c.args.self.now.shape c.args.seat.now.number c.args.seat.now.noted _
    c.requires.not_out

pub store-requires-clause-kept : goal.store-requires-clause-kept
store-requires-clause-kept g c = leave_kept
    (g.P.RootProtocol.keeps (key_of c.args.self.now.table).fixed)
    g.P.RootProtocol.whole (g.P.RootProtocol.backed (key_of c.args.self.now.table).fixed)
    g.P.RootProtocol.after
    c.args.act c.args.seat.now.number _ _ c.requires.keeps

pub store-requires-clause-recalled : goal.store-requires-clause-recalled
store-requires-clause-recalled g c = leave_recalled c.args.seat.now.number _

pub invariant_of-seat : goal.invariant_of-seat
invariant_of-seat g c =
    let seat = c.args.seat.now in
    let known = known_in_view (me_of seat.inner).0 in
    let told = c.store.ensures.told.1 in
    record {
      acts = told.number ∙ seat.acts;
      mirrors = subst (Mirrors seat.noted seat.slots seat.found.items) (sym told.known)
          (same_mirrors seat.noted seat.slots seat.found.items known _ seat.mirrors refl refl refl refl);
    }

pub returns-clause-step : goal.returns-clause-step
returns-clause-step g c = record {
  core = c.store.ensures.told.1.made;
  past = c.store.ensures.told.1.past;
  made = (0, refl, c.store.ensures.recorded);
  sure = c.store.ensures.told.1.sure;
}

pub store-requires-clause-own : goal.store-requires-clause-own
store-requires-clause-own g c found =
    ap (λ n. op.store (index c.args.self.now.shape (status_word c.args.seat.now.number)) (4 * n))
    c.args.seat.now.mirrors.noted_is
