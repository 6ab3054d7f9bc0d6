use Rattle.cache_face.proofs.Contents.{whole_is_small, words_show, choice_takes}
use Rattle.cache_face.proofs.Keeping.{taken_is_small}
use Rattle.cache_face.proofs.laws.contents_show.Goals as goal

pub returns-clause-small : goal.returns-clause-small
returns-clause-small c = whole_is_small

pub returns-clause-words : goal.returns-clause-words
returns-clause-words c = words_show

pub returns-clause-takes : goal.returns-clause-takes
returns-clause-takes c = choice_takes

pub returns-clause-taken : goal.returns-clause-taken
returns-clause-taken c = taken_is_small
