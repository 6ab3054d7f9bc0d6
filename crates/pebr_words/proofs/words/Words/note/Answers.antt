use Rattle.std.proofs.Common.{refl, sym, ◌∙◌, subst}
use Rattle.pebr_table.specs.Tables.{key_of, me_of}
use Rattle.pebr_words.specs.Making.{known_in_view}
use Rattle.pebr_words.specs.Mirrors.{Mirrors}
use Rattle.pebr_words.proofs.NoteStep.{note_by, noted_low, retired_long, note_kept, note_recalled}
use Rattle.pebr_words.proofs.Mirroring.{note_mirrors}
use Rattle.pebr_words.specs.Ruled.{BackedWhole}
use Rattle.pebr_words.proofs.words.Words.note.Goals as goal

pub load-epoch-requires-clause-made : goal.load-epoch-requires-clause-made
load-epoch-requires-clause-made g c = note_by c.args.self.now.shape c.args.seat.now.number _ c.requires.out

pub load-epoch-requires-clause-kept : goal.load-epoch-requires-clause-kept
load-epoch-requires-clause-kept g c = note_kept
    (g.P.RootProtocol.keeps (key_of c.args.self.now.table).fixed)
    (BackedWhole g.P.RootProtocol.whole (g.P.RootProtocol.backed (key_of c.args.self.now.table).fixed))
    g.P.RootProtocol.after
    c.args.seat.now.number _ _

pub load-epoch-requires-clause-recalled : goal.load-epoch-requires-clause-recalled
load-epoch-requires-clause-recalled g c = note_recalled c.args.seat.now.number _

pub invariant_of-seat : goal.invariant_of-seat
invariant_of-seat g c =
    let seat = c.args.seat.now in
    let known = known_in_view (me_of seat.inner).0 in
    let told = c.load-epoch.ensures.told in
    let epoch = c.load-epoch.result in
    let slots = c.note.ensures in
    record {
      acts = told.number ∙ seat.acts;
      mirrors = subst (Mirrors epoch c.note.new.self seat.found.items) (sym told.known)
          (note_mirrors seat.noted seat.slots seat.found.items known seat.mirrors c.args.self.now.shape epoch
          c.note.new.self (noted_low told.made) (retired_long told.made c.requires.at.3) slots.fresh slots.retired
          slots.kept);
    }

pub returns-clause-step : goal.returns-clause-step
returns-clause-step g c = record {
  core = c.load-epoch.ensures.told.made;
  past = c.load-epoch.ensures.told.past;
  made = (c.load-epoch.result, refl, c.load-epoch.ensures.recorded);
  sure = c.load-epoch.ensures.told.sure;
}
