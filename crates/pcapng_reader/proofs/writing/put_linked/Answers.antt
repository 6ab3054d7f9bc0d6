-- An accepted record passes as one of raw IP, and of another nothing does.
use Rattle.std.proofs.Common.{◌≡◌, ℕ, List, ap, sym, subst}
use Rattle.std.specs.Prelude.{OnOk, OnErr, Result}
use Rattle.packet_accept.specs.declared.packet.Packet.{Packet}
use Rattle.packet_accept.specs.declared.ignored.Ignored.{Ignored}
use Rattle.std.proofs.KnownBytes.{Appends-nil}
use Rattle.sink_buffer.specs.Passing.{IsPassed}
use Rattle.pcap_reader.specs.Views.{record_read}
use Rattle.pcapng_reader.specs.Index.{linked_read}
use Rattle.pcapng_reader.specs.Filtered.{octets_if, raw_if, record_octets, octets_of_record}
use Rattle.pcapng_reader.specs.Tallied.{answer_of}
use Rattle.pcapng_reader.specs.Counting.{Adds}
use Rattle.pcapng_reader.proofs.Gathered.{passed-nothing}
use Rattle.pcapng_reader.proofs.Tallying.{adds-written}
use Rattle.pcapng_reader.proofs.writing.put_linked.Goals as goal

pub returns-in-Ok-clause-passed : goal.returns-in-Ok-clause-passed
returns-in-Ok-clause-passed g c =
    let same : record_octets (record_read c.in-Ok.raw) ≡ octets_of_record (linked_read c.args.linked.now) =
    ap octets_if c.in-Ok.ensures.value in
    subst
    (λ (l : List ℕ). OnOk c.put_record.result
    (IsPassed (g.K.Sink.held c.args.output.now) (g.K.Sink.held c.put_record.new.output) c.args.out.now
    c.put_record.new.out l))
    same c.put_record.ensures.passed

pub returns-in-Ok-clause-cut : goal.returns-in-Ok-clause-cut
returns-in-Ok-clause-cut g c =
    let same : record_octets (record_read c.in-Ok.raw) ≡ octets_of_record (linked_read c.args.linked.now) =
    ap octets_if c.in-Ok.ensures.value in
    subst
    (λ (l : List ℕ). OnErr c.put_record.result ((left : List ℕ)
    × IsPassed (g.K.Sink.held c.args.output.now) (g.K.Sink.held c.put_record.new.output) c.args.out.now left l))
    same c.put_record.ensures.cut

pub returns-in-Ok-clause-counted : goal.returns-in-Ok-clause-counted
returns-in-Ok-clause-counted g c =
    adds-written _ _ c.args.linked.now.link (answer_of (linked_read c.args.linked.now)) c.in-Ok.ensures.accepted
    c.add_written.ensures

pub returns-in-Err-clause-passed : goal.returns-in-Err-clause-passed
returns-in-Err-clause-passed g c =
    subst
    (λ (l : List ℕ). IsPassed (g.K.Sink.held c.args.output.now) (g.K.Sink.held c.args.output.now) c.args.out.now
    c.args.out.now l)
    (sym (ap octets_if (ap (λ (r : Result Packet Ignored). raw_if r (linked_read c.args.linked.now))
    c.in-Err.ensures.ignored)))
    (passed-nothing _ _ (Appends-nil (g.K.Sink.held c.args.output.now)))

pub returns-in-Err-clause-counted : goal.returns-in-Err-clause-counted
returns-in-Err-clause-counted g c =
    subst (Adds c.args.tally.now c.add_left_out.new.self c.args.linked.now.link) (sym c.in-Err.ensures.ignored)
    c.add_left_out.ensures
