use Rattle.cache_face.specs.Choice.{IsSmallEntry}
use Rattle.cache_face.proofs.Four.{all_four}
use Rattle.trial_caches.proofs.tests.choices.put.Goals as goal

pub choose-requires-clause-entries : goal.choose-requires-clause-entries
choose-requires-clause-entries c = all_four IsSmallEntry c.args.first c.args.second c.args.third c.args.fourth
    c.requires.first c.requires.second c.requires.third c.requires.fourth
