use Rattle.std.proofs.Common.{sym}
use Rattle.cache_face.proofs.Contents.{empty_shows}
use Rattle.cache_choice.proofs.by_words.fragment_shown.Goals as goal

pub returns-then-content-eq0 : goal.returns-then-content-eq0
returns-then-content-eq0 c = sym (empty_shows c.args.content.now c.if-content-eq0.true)
