use Rattle.std.proofs.Common.{◌<◌, ◌∷◌, ap, ◌∙◌, sym, subst}
use Rattle.pebr_table.specs.Tables.{operations_of, key_of, me_of}
use Rattle.pebr_words.specs.Places.{word_count}
use Rattle.pebr_words.proofs.Places.{place_in}
use Rattle.pebr_words.proofs.Makes.{makes_at, picked_told}
use Rattle.pebr_table.specs.Operations as op
use Rattle.pebr_words.proofs.words.Words.exchange_as.Goals as goal

pub exchange-requires : goal.exchange-requires
exchange-requires g c =
    let words = c.args.self.now in
    let place = c.requires.place in (
      c.requires.at.0,
      subst (λ n. c.args.word < n) (sym words.counted)
          (subst (λ n. n < word_count words.shape) place.1 (place_in words.shape words.limits.shields _ place.0)),
      makes_at (g.P.RootProtocol.keeps (key_of words.table).fixed) g.P.RootProtocol.whole
          (g.P.RootProtocol.backed (key_of words.table).fixed) g.P.RootProtocol.after g.P.RootProtocol.first _
          c.safe_steps.ensures words.told words.limits
          c.requires.picked (me_of c.args.seat.now) c.requires.at.1 c.requires.at.2 place.0 place.1 c.requires.made
          c.requires.kept c.requires.recalled,
    )

pub returns-clause-told : goal.returns-clause-told
returns-clause-told g c =
    picked_told g.P.RootProtocol.after g.P.RootProtocol.whole g.P.RootProtocol.first c.requires.picked
    c.exchange.result (me_of c.args.seat.now) (me_of c.exchange.new.seat) c.requires.at.1
    c.exchange.ensures.told.2

pub returns-clause-recorded : goal.returns-clause-recorded
returns-clause-recorded g c =
    c.exchange.ensures.recorded
    ∙ ap (λ o. o ∷ operations_of c.args.seat.now)
    (sym (c.requires.own c.exchange.result ∙ ap (λ w. op.exchange w c.args.change.0 c.args.change.1 c.exchange.result)
    c.requires.place.1))
