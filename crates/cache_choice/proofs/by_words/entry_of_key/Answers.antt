use Rattle.std.proofs.Common.{sym, refl}
use Rattle.cache_face.proofs.Contents.{empty_shows}
use Rattle.cache_choice.proofs.ByWords.{shows_of_key}
use Rattle.cache_choice.proofs.by_words.entry_of_key.Goals as goal

pub returns-then-content-eq0 : goal.returns-then-content-eq0
returns-then-content-eq0 c = sym (empty_shows c.args.content.now c.if-content-eq0.true)

pub returns : goal.returns
returns c =
    shows_of_key c.args.content.now _ c.requires.whole c.requires.words c.if-content-eq0.false refl refl refl refl refl
