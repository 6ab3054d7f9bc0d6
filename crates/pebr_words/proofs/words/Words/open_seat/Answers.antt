use Rattle.std.proofs.Common.{List, replicate, sym, ap, subst}
use Rattle.atomic_table.specs.Table.{Me}
use Rattle.pebr_table.specs.Tables.{me_of}
use Rattle.pebr_words.specs.declared.views.Held.{Held}
use Rattle.pebr_words.specs.Making.{number_in, known_in_view}
use Rattle.pebr_words.specs.Mirrors.{Mirrors}
use Rattle.pebr_words.proofs.Mirroring.{first_mirrors}
use Rattle.pebr_words.proofs.words.Words.open_seat.Goals as goal

pub invariant_of-result : goal.invariant_of-result
invariant_of-result g c =
    let view = ap (λ (m : Me (Unit {0}) (List (Held _))). m.0) c.requires.view in
    record {
      acts = ap number_in view;
      mirrors = subst (λ l. Mirrors 0 c.args.slots l (known_in_view (me_of c.args.inner).0)) (sym c.requires.found)
          (subst (Mirrors 0 c.args.slots (replicate c.args.self.now.shape.seats 0)) (sym (ap known_in_view view))
          (first_mirrors c.args.self.now.shape c.args.number c.args.self.now.shape.seats c.args.slots
          c.requires.slots));
    }
