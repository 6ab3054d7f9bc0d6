-- The records found so far, and where the next one is looked for.
use Rattle.std.proofs.Common.{◌-◌, length}
use Rattle.pcap_reader.proofs.Search.{Found}
use Rattle.pcap_reader.proofs.capture.Capture.index_into.Given as goal

abbrev pub invariant-records : goal.invariant-records
invariant-records l = Found l.self.head.order l.self.start l.self.bytes.now l.offsets.items l.at

abbrev pub decreases-records : goal.decreases-records
decreases-records l = length l.self.bytes.now - l.at
