use Rattle.std.proofs.Common.{rules, ◌∙◌}
use Rattle.cache_choice.proofs.ByWords.{none_more}
use Rattle.cache_choice.proofs.by_words.lowest_with_words.Goals as goal

pub loop-place-preserved : goal.loop-place-preserved
loop-place-preserved c = record {
  below = none_more c.args._key.now c.args.contents.now c.loop-place.place (search rules)
      c.loop-place.invariant.below (search rules)
      (λ same. (let has = c.if-has_words.ensures.1 (same ∙ (search rules)) in search rules));
}
