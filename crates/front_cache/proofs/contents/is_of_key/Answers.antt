use Rattle.std.proofs.Common.{sym, ◌∙◌, refl}
use Rattle.std.proofs.lemmas.Bool.{both_ways, eqb-false, ne_eqb, not-true, not_from_false}
use Rattle.cache_choice.proofs.ByWords.{key_words}
use Rattle.cache_choice.proofs.Words.{has_key, has_no_key}
use Rattle.front_cache.proofs.contents.is_of_key.Goals as goal

pub returns-then-has_words : goal.returns-then-has_words
returns-then-has_words c = (
  λ is. has_key c.args.content.now c.args._own.now.key c.requires.whole
      (c.if-has_words.ensures.0 refl ∙ c.requires.words)
      (eqb-false _ 0 (not-true _ is)),
  λ has. not_from_false _ (ne_eqb _ 0 (λ empty. has_no_key c.args.content.now c.args._own.now.key empty has)),
)

pub returns-else-has_words : goal.returns-else-has_words
returns-else-has_words c = (
  λ is. absurd (both_ways _ c.if-has_words.false is),
  λ has. c.has_words.ensures.1
      (key_words c.args.content.now c.args._own.now.key c.requires.whole has ∙ sym c.requires.words),
)
