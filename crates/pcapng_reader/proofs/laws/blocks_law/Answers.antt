-- The law, as it is proved of the definition.
use Rattle.pcapng_reader.proofs.Cutting.{blocks-once}
use Rattle.pcapng_reader.proofs.laws.blocks_law.Goals as goal

pub returns : goal.returns
returns c = blocks-once
