use Rattle.pair_program.proofs.OnePairing.{pairs_same}
use Rattle.pair_program.proofs.laws.pairs_are_one.Goals as goal

pub returns : goal.returns
returns c = pairs_same
