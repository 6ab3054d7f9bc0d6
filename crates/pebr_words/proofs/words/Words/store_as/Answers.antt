use Rattle.std.proofs.Common.{◌<◌, ◌∷◌, ap, ◌∙◌, sym, subst}
use Rattle.std.specs.Prelude.{slice_index}
use Rattle.pebr_table.specs.Tables.{operations_of, key_of, me_of}
use Rattle.pebr_words.specs.Places.{word_count}
use Rattle.pebr_words.proofs.Places.{place_in}
use Rattle.pebr_words.proofs.Makes.{makes_at, picked_told}
use Rattle.pebr_table.specs.Operations as op
use Rattle.pebr_words.proofs.words.Words.store_as.Goals as goal

pub store-requires : goal.store-requires
store-requires g c =
    let words = c.args.self.now in
    let place = c.requires.place in (
      c.requires.at.0,
      subst (λ n. c.args.word < n) (sym words.counted)
          (subst (λ n. n < word_count words.shape) place.1 (place_in words.shape words.limits.shields _ place.0)),
      λ t rule wide at fits. let a = makes_at (g.P.RootProtocol.keeps (key_of words.table).fixed)
          g.P.RootProtocol.whole (g.P.RootProtocol.backed (key_of words.table).fixed) g.P.RootProtocol.after
          g.P.RootProtocol.first _ c.safe_steps.ensures words.told
          words.limits
          c.requires.picked (me_of c.args.seat.now) c.requires.at.1 c.requires.at.2 place.0 place.1 c.requires.made
          c.requires.kept c.requires.recalled t rule wide at fits in
          (a.0, a.1, a.2, a.3, (slice_index t.words c.args.word, a.4)),
    )

pub returns-clause-told : goal.returns-clause-told
returns-clause-told g c =
    let told = c.store.ensures.told.2 in (
      told.0,
      picked_told g.P.RootProtocol.after g.P.RootProtocol.whole g.P.RootProtocol.first c.requires.picked told.0
          (me_of c.args.seat.now) (me_of c.store.new.seat) c.requires.at.1 told.1,
    )

pub returns-clause-recorded : goal.returns-clause-recorded
returns-clause-recorded g c =
    c.store.ensures.recorded
    ∙ ap (λ o. o ∷ operations_of c.args.seat.now)
    (sym (c.requires.own 0 ∙ ap (λ w. op.store w c.args.new) c.requires.place.1))
