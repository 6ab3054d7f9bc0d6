use Rattle.std.proofs.Common.{rules}
use Rattle.cache_choice.proofs.Others.{last_there}
use Rattle.cache_choice.proofs.by_words.last_of.Goals as goal

pub returns : goal.returns
returns c = last_there c.args.contents.now c.args.place (search rules) (search rules)
