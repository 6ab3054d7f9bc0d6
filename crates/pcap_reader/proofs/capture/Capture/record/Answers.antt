-- What stands at the place of a record is that record.
use Rattle.std.proofs.Common.{arith}
use Rattle.pcap_reader.specs.Views.{file_of, record_read}
use Rattle.pcap_reader.proofs.Place.{record_reads, record_is}
use Rattle.pcap_reader.proofs.capture.Capture.record.Goals as goal

pub record_at-requires-clause-header : goal.record_at-requires-clause-header
record_at-requires-clause-header c =
    let reads = record_reads (file_of c.args.self.now) _ _ c.args.self.now.whole c.requires.index c.requires.number in
    rw c.offset.ensures reads.header

pub record_at-requires-clause-whole : goal.record_at-requires-clause-whole
record_at-requires-clause-whole c =
    let reads = record_reads (file_of c.args.self.now) _ _ c.args.self.now.whole c.requires.index c.requires.number in
    rw c.offset.ensures reads.whole

pub returns-clause-value : goal.returns-clause-value
returns-clause-value c =
    let reads = record_reads (file_of c.args.self.now) _ _ c.args.self.now.whole c.requires.index c.requires.number in
    record_is (file_of c.args.self.now) c.args.index.now c.args.n
    (record_read c.record_at.result) c.requires.index c.requires.number reads
    (rw c.offset.ensures at c.record_at.ensures.seconds) (rw c.offset.ensures at c.record_at.ensures.fraction)
    (rw c.offset.ensures at c.record_at.ensures.original) (rw c.offset.ensures at c.record_at.ensures.captured)

pub returns-clause-within : goal.returns-clause-within
returns-clause-within c =
    let reads = record_reads (file_of c.args.self.now) _ _ c.args.self.now.whole c.requires.index c.requires.number in
    let len = rw c.offset.ensures at c.record_at.ensures.len in
    omega (arith, reads.whole)

pub returns-clause-small : goal.returns-clause-small
returns-clause-small c =
    let reads = record_reads (file_of c.args.self.now) _ _ c.args.self.now.whole c.requires.index c.requires.number in
    let len = rw c.offset.ensures at c.record_at.ensures.len in
    omega (arith, reads.small)
