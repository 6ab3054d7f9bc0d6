-- What was read is a key with these words, and no other key has them.
use Rattle.std.proofs.Common.{Some, arith, ap}
use Rattle.std.proofs.lemmas.Grind.{common_steps}
use Rattle.flow_key.proofs.KeyWords.{same_words}
use Rattle.flow_key.proofs.key.FlowKey.of_words.Goals as goal

pub returns-then-narrow-clause-round_trip : goal.returns-then-narrow-clause-round_trip
returns-then-narrow-clause-round_trip c = λ key h. ap Some (same_words _ key (grind (arith, common_steps)))
