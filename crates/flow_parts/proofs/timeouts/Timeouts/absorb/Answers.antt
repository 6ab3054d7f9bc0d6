use Rattle.std.proofs.Common.{rules}
use Rattle.flow_parts.proofs.Heaps.{IsHeap-absorbed}
use Rattle.flow_parts.proofs.Shares.{absorbed}
use Rattle.flow_parts.proofs.timeouts.Timeouts.absorb.Goals as goal

pub returns-clause-heap : goal.returns-clause-heap
returns-clause-heap c = λ packets heap. IsHeap-absorbed c.args.self.now packets c.args.fragment c.args.packet.now _
    c.requires.fits (search rules) heap

pub returns-clause-shared : goal.returns-clause-shared
returns-clause-shared c = λ packets rest shared. absorbed c.args.self.now c.args.fragment _ c.args.packet.now
    c.requires.fits (search rules) packets rest shared
