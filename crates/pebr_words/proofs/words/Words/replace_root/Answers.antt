use Rattle.std.proofs.Common.{refl, ◌∙◌, sym, subst}
use Rattle.std.specs.Prelude.{◌==◌}
use Rattle.pebr_table.specs.Tables.{key_of, me_of}
use Rattle.pebr_words.specs.Making.{known_in_view}
use Rattle.pebr_words.specs.Mirrors.{Mirrors}
use Rattle.pebr_words.proofs.Mirroring.{can_take, replace_mirrors}
use Rattle.pebr_words.proofs.ReplaceStep.{replace_by, replace_kept, replace_recalled}
use Rattle.pebr_words.proofs.words.Words.replace_root.Goals as goal

pub exchange-found-requires-clause-made : goal.exchange-found-requires-clause-made
exchange-found-requires-clause-made g c =
    replace_by c.args.self.now.shape c.args.seat.now.number c.args.root c.args.old c.args.new _ c.requires.root
    c.requires.slots.0 c.requires.slots.1 c.requires.not_out c.requires.shielded c.requires.fresh

pub exchange-found-requires-clause-kept : goal.exchange-found-requires-clause-kept
exchange-found-requires-clause-kept g c =
    replace_kept (g.P.RootProtocol.keeps (key_of c.args.self.now.table).fixed) g.P.RootProtocol.whole
    (g.P.RootProtocol.backed (key_of c.args.self.now.table).fixed) g.P.RootProtocol.after c.args.act
    c.args.seat.now.number c.args.root c.args.old c.args.new _ _
    c.requires.root c.requires.slots.0 c.requires.slots.1 c.requires.shielded c.requires.keeps

pub exchange-found-requires-clause-recalled : goal.exchange-found-requires-clause-recalled
exchange-found-requires-clause-recalled g c =
    replace_recalled c.args.seat.now.number c.args.root c.args.old c.args.new _ c.requires.root

pub take-requires : goal.take-requires
take-requires g c hit =
    let seat = c.args.seat.now in
    can_take seat.number c.args.root c.args.old c.args.new c.exchange-found.result seat.noted seat.slots
    seat.found.items
    c.root_slots_are_alone.ensures.fresh c.root_slots_are_alone.ensures.retired c.exchange-found.ensures.told.made
    seat.mirrors c.requires.at.5 c.requires.at.3 c.requires.root c.requires.slots.0 c.requires.fresh hit

pub invariant_of-seat : goal.invariant_of-seat
invariant_of-seat g c =
    let seat = c.args.seat.now in
    let known = known_in_view (me_of seat.inner).0 in
    let told = c.exchange-found.ensures.told in
    let slots = c.take.ensures in
    record {
      acts = told.number ∙ seat.acts;
      mirrors = subst (Mirrors seat.noted c.take.new.slots seat.found.items) (sym told.known)
          (replace_mirrors (c.exchange-found.result == c.args.old) c.args.old c.args.new seat.noted seat.slots
          c.take.new.slots seat.found.items known seat.mirrors slots.fresh slots.retired slots.kept);
    }

pub returns-clause-step : goal.returns-clause-step
returns-clause-step g c = record {
  core = c.exchange-found.ensures.told.made;
  past = c.exchange-found.ensures.told.past;
  made = (c.exchange-found.result, refl, c.exchange-found.ensures.recorded);
  sure = c.exchange-found.ensures.told.sure;
}
