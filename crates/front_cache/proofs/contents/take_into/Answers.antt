use Rattle.std.proofs.Common.{sym, ◌∙◌, refl}
use Rattle.std.proofs.lemmas.Bool.{iff_false}
use Rattle.cache_choice.proofs.Words.{join_words, words_of_kept}
use Rattle.front_cache.proofs.contents.take_into.Goals as goal

pub returns-then-not-has_words-clause-left : goal.returns-then-not-has_words-clause-left
returns-then-not-has_words-clause-left c = (
  refl,
  λ can. iff_false c.has_words.ensures c.if-not-has_words.true
      (join_words c.args.timeouts.now c.args.content.now c.args.own.now c.requires.whole can ∙ sym c.requires.words),
)

pub returns-in-Some-clause-taken : goal.returns-in-Some-clause-taken
returns-in-Some-clause-taken c = (
  c.in-Some.kept,
  words_of_kept c.args.content.now c.args.own.now c.in-Some.kept c.requires.whole c.in-Some.ensures.some.1,
  c.in-Some.ensures.some.0,
  c.in-Some.ensures.some.1,
)
