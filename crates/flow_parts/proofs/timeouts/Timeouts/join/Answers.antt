use Rattle.std.proofs.Common.{rules}
use Rattle.flow_parts.proofs.Heaps.{IsHeap-joined}
use Rattle.flow_parts.proofs.Shares.{joined}
use Rattle.flow_parts.proofs.timeouts.Timeouts.join.Goals as goal

pub returns-clause-heap : goal.returns-clause-heap
returns-clause-heap c = λ packets others heap heap'. IsHeap-joined c.args.self.now packets others c.args.one
    c.args.other _ c.requires.joinable (search rules) heap heap'

pub returns-clause-shared : goal.returns-clause-shared
returns-clause-shared c = λ packets rest shared. joined c.args.self.now c.args.one c.args.other _ c.requires.joinable
    (search rules) packets rest shared
