use Rattle.std.proofs.Common.{inr, refl, sym}
use Rattle.cache_choice.proofs.by_words.choose_else.Goals as goal

pub returns-in-Some-clause-chosen : goal.returns-in-Some-clause-chosen
returns-in-Some-clause-chosen c = λ limits. (
  c.args.own.now,
  sym c.to_words-words.ensures,
  record {
    none_of_key = c.requires.none_of_key;
    lowest = c.in-Some.ensures.some;
    none_out = refl;
    opened = refl;
  },
)

pub returns-in-None-clause-chosen : goal.returns-in-None-clause-chosen
returns-in-None-clause-chosen c = λ limits. (
  c.args.own.now,
  sym c.to_words-words.ensures,
  inr (record {
    none_of_key = c.requires.none_of_key;
    none_empty = c.in-None.ensures.none refl;
    oldest = c.oldest_content.ensures;
    out_is = refl;
    anew = refl;
  }),
)
