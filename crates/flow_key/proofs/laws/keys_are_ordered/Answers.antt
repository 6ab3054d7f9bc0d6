use Rattle.flow_key.proofs.KeyOrder.{key_order_total, tied_keys}
use Rattle.flow_key.proofs.laws.keys_are_ordered.Goals as goal

pub returns-clause-total : goal.returns-clause-total
returns-clause-total c = key_order_total

pub returns-clause-ties : goal.returns-clause-ties
returns-clause-ties c = tied_keys
