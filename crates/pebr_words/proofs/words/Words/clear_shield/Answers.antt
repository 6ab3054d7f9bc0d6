use Rattle.std.proofs.Common.{refl, sym, ◌∙◌, subst}
use Rattle.pebr_table.specs.Tables.{key_of, me_of}
use Rattle.pebr_words.specs.Making.{known_in_view}
use Rattle.pebr_words.specs.Mirrors.{Mirrors}
use Rattle.pebr_words.proofs.UnshieldStep.{unshield_by, unshield_kept, unshield_recalled}
use Rattle.pebr_words.proofs.Mirroring.{same_mirrors}
use Rattle.pebr_words.specs.Ruled.{BackedWhole}
use Rattle.pebr_words.proofs.words.Words.clear_shield.Goals as goal

pub store-requires-clause-made : goal.store-requires-clause-made
store-requires-clause-made g c = unshield_by c.args.self.now.shape c.args.seat.now.number c.args.place _
    c.requires.place

pub store-requires-clause-kept : goal.store-requires-clause-kept
store-requires-clause-kept g c = unshield_kept
    (g.P.RootProtocol.keeps (key_of c.args.self.now.table).fixed)
    (BackedWhole g.P.RootProtocol.whole (g.P.RootProtocol.backed (key_of c.args.self.now.table).fixed))
    g.P.RootProtocol.after
    c.args.seat.now.number c.args.place _ _

pub store-requires-clause-recalled : goal.store-requires-clause-recalled
store-requires-clause-recalled g c = unshield_recalled c.args.seat.now.number c.args.place _

pub invariant_of-seat : goal.invariant_of-seat
invariant_of-seat g c =
    let seat = c.args.seat.now in
    let known = known_in_view (me_of seat.inner).0 in
    let told = c.store.ensures.told.1 in
    record {
      acts = told.number ∙ seat.acts;
      mirrors = subst (Mirrors seat.noted seat.slots seat.found.items) (sym told.known)
          (same_mirrors seat.noted seat.slots seat.found.items known _ seat.mirrors refl refl refl refl);
    }

pub returns-clause-step : goal.returns-clause-step
returns-clause-step g c = record {
  core = c.store.ensures.told.1.made;
  past = c.store.ensures.told.1.past;
  made = (0, refl, c.store.ensures.recorded);
  sure = c.store.ensures.told.1.sure;
}
