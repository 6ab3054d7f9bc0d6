use Rattle.std.proofs.Common.{rules, sym}
use Rattle.cache_choice.proofs.Putting.{joins_there}
use Rattle.cache_choice.proofs.by_words.choose_by_words.Goals as goal

pub returns-in-Some-join_content-clause-chosen : goal.returns-in-Some-join_content-clause-chosen
returns-in-Some-join_content-clause-chosen c = (
  c.in-Some-join_content.kept,
  sym c.to_words.ensures,
  joins_there c.args.timeouts c.args.contents.now c.args.own.now c.in-Some-join_content.kept c.in-Some.place
      (search rules)
      c.in-Some.ensures.some.2 c.in-Some-join_content.ensures.some.0 c.in-Some-join_content.ensures.some.1,
)

pub returns-in-None-clause-chosen : goal.returns-in-None-clause-chosen
returns-in-None-clause-chosen c = c.choose_else.ensures.chosen c.args.timeouts
