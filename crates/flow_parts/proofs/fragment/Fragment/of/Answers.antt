use Rattle.std.proofs.Common.{rules}
use Rattle.flow_parts.proofs.Heaps.{IsHeap-one}
use Rattle.flow_parts.proofs.Shares.{fresh}
use Rattle.flow_parts.proofs.fragment.Fragment.of.Goals as goal

pub returns-clause-heap : goal.returns-clause-heap
returns-clause-heap c = λ limits. IsHeap-one limits c.args.packet.now c.of_one_packet.result (search rules)

pub returns-clause-shared : goal.returns-clause-shared
returns-clause-shared c = λ limits others rest shared. fresh limits c.args.packet.now c.of_one_packet.result
    (search rules) others rest shared
