use Rattle.flow_parts.proofs.Own.{stands_opened, stands_absorbed, stands_joined}
use Rattle.flow_parts.proofs.laws.sharing_out_goes_on.Goals as goal

pub returns-clause-opened : goal.returns-clause-opened
returns-clause-opened c = stands_opened

pub returns-clause-absorbed : goal.returns-clause-absorbed
returns-clause-absorbed c = stands_absorbed

pub returns-clause-joined : goal.returns-clause-joined
returns-clause-joined c = stands_joined
