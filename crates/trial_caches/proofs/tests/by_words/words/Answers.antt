use Rattle.std.proofs.Common.{inr, sym}
use Rattle.trial_caches.proofs.tests.by_words.words.Goals as goal

pub returns : goal.returns
returns c = inr (c.args.part, sym c.to_words.ensures, c.requires)
