-- The law, as it is proved of the definition.
use Rattle.octets.proofs.Fitting.{number_at-fits}
use Rattle.octets.proofs.laws.numbers_law.Goals as goal

pub returns : goal.returns
returns c = number_at-fits
