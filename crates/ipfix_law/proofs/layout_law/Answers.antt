-- The law, as it is proved of the definitions.
use Rattle.ipfix_law.proofs.Layouts.{layout-flows}
use Rattle.ipfix_law.proofs.layout_law.Goals as goal

pub returns : goal.returns
returns c = layout-flows
