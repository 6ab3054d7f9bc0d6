use Rattle.std.proofs.Common.{◌≡◌, ◌+◌, arith, refl, sym, ◌∙◌, subst}
use Rattle.pebr_table.specs.Tables.{key_of, me_of}
use Rattle.pebr_words.specs.Making.{known_in_view}
use Rattle.pebr_words.specs.Mirrors.{Mirrors}
use Rattle.pebr_words.proofs.ReadStep.{read_by, read_kept, read_recalled}
use Rattle.pebr_words.proofs.Mirroring.{same_mirrors}
use Rattle.pebr_words.specs.Ruled.{BackedWhole}
use Rattle.pebr_words.specs.Places.{slot_word, index}
use Rattle.pebr_words.proofs.Closing.{few_at}
use Rattle.pebr_words.proofs.words.Words.read_word.Goals as goal

pub overflow_add-place : goal.overflow_add-place
overflow_add-place g c =
    let words = c.args.self.now in
    let few = few_at words.shape words.limits c.args.slot c.requires.range.0 in
    let low = c.requires.range.1 in
    let start = c.requires.start in
    let limits = words.limits in
    omega (arith, few, low, start, limits.width, limits.roots, limits.seats)

pub load-requires-clause-place : goal.load-requires-clause-place
load-requires-clause-place g c =
    let start = c.requires.start in
    let is : index c.args.self.now.shape (slot_word c.args.slot c.args.word) ≡ c.args.start + c.args.word =
    omega (arith, start) in
    (c.requires.range, is)

pub load-requires-clause-made : goal.load-requires-clause-made
load-requires-clause-made g c = read_by c.args.self.now.shape c.args.seat.now.number c.args.slot c.args.word _
    c.requires.range.0 c.requires.range.1 c.requires.shielded

pub load-requires-clause-kept : goal.load-requires-clause-kept
load-requires-clause-kept g c = read_kept
    (g.P.RootProtocol.keeps (key_of c.args.self.now.table).fixed)
    (BackedWhole g.P.RootProtocol.whole (g.P.RootProtocol.backed (key_of c.args.self.now.table).fixed))
    g.P.RootProtocol.after
    c.args.seat.now.number c.args.slot c.args.word _ _

pub load-requires-clause-recalled : goal.load-requires-clause-recalled
load-requires-clause-recalled g c = read_recalled c.args.seat.now.number c.args.slot c.args.word _

pub invariant_of-seat : goal.invariant_of-seat
invariant_of-seat g c =
    let seat = c.args.seat.now in
    let known = known_in_view (me_of seat.inner).0 in
    let told = c.load.ensures.told in
    record {
      acts = told.number ∙ seat.acts;
      mirrors = subst (Mirrors seat.noted seat.slots seat.found.items) (sym told.known)
          (same_mirrors seat.noted seat.slots seat.found.items known _ seat.mirrors refl refl refl refl);
    }

pub returns-clause-step : goal.returns-clause-step
returns-clause-step g c = record {
  core = c.load.ensures.told.made;
  past = c.load.ensures.told.past;
  made = (c.load.result, refl, c.load.ensures.recorded);
  sure = c.load.ensures.told.sure;
}
