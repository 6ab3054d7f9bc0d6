use Rattle.std.proofs.Common.{List, [], sym, ap, ◌∙◌, subst, arith, length, ◌<◌}
use Rattle.atomic_table.specs.Table.{Me}
use Rattle.pebr_table.specs.Tables.{key_of, me_of}
use Rattle.pebr_words.specs.declared.views.Held.{Held}
use Rattle.pebr_words.specs.Ruled.{BackedWhole, view_taken, view_left}
use Rattle.pebr_words.proofs.Splits.{splits}
use Rattle.pebr_words.proofs.OpeningViews.{next_view}
use Rattle.pebr_words.proofs.words.Words.split_one.Goals as goal

pub split-inner-requires-clause-at : goal.split-inner-requires-clause-at
split-inner-requires-clause-at g c =
    let words = c.args.self.now in
    let view = ap (λ (m : Me (Unit {0}) (List (Held _))). m.0) c.requires.view in
    let next = next_view words.shape g.P.RootProtocol.first c.args.number words.shape.seats c.requires.at.1 in (
      c.requires.at.0,
      omega (arith, words.counted),
      splits (g.P.RootProtocol.keeps (key_of words.table).fixed)
          (BackedWhole g.P.RootProtocol.whole (g.P.RootProtocol.backed (key_of words.table).fixed))
          (key_of words.table).shape _
          (me_of c.args.seat.now).0
          (subst (λ (v : List (Held _)). 0 < length v) (sym (view ∙ next)) (omega arith)),
    )

pub open_seat-requires-clause-view : goal.open_seat-requires-clause-view
open_seat-requires-clause-view g c =
    let words = c.args.self.now in
    let view = ap (λ (m : Me (Unit {0}) (List (Held _))). m.0) c.requires.view in
    let next = next_view words.shape g.P.RootProtocol.first c.args.number words.shape.seats c.requires.at.1 in
    c.split-inner.ensures.new.1 ∙ ap (λ (v : List (Held _)). (view_taken v, [])) (view ∙ next)

pub returns-clause-view : goal.returns-clause-view
returns-clause-view g c =
    let words = c.args.self.now in
    let next = next_view words.shape g.P.RootProtocol.first c.args.number words.shape.seats c.requires.at.1 in
    c.split-inner.ensures.old.2
    ∙ (ap (λ (m : Me (Unit {0}) (List (Held _))). (view_left m.0, m.1)) c.requires.view
    ∙ ap (λ (v : List (Held _)). (view_left v, [])) next)
