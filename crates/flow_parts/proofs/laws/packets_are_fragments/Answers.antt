use Rattle.flow_parts.proofs.Own.{own_is_one, fits_as_joinable, absorbs_as_joins, joins_either_way}
use Rattle.flow_parts.proofs.laws.packets_are_fragments.Goals as goal

pub returns-clause-own : goal.returns-clause-own
returns-clause-own c = own_is_one

pub returns-clause-fits : goal.returns-clause-fits
returns-clause-fits c = fits_as_joinable

pub returns-clause-absorbs : goal.returns-clause-absorbs
returns-clause-absorbs c = absorbs_as_joins

pub returns-clause-either_way : goal.returns-clause-either_way
returns-clause-either_way c = joins_either_way
