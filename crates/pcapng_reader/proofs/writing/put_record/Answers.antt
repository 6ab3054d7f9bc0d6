-- A record passes in two pieces.
use Rattle.std.proofs.Common.{ap, ◌∙◌, ◌++◌, ℕ, List}
use Rattle.sink_buffer.specs.Passing.{IsPassed}
use Rattle.pcap_reader.specs.Views.{record_read}
use Rattle.pcapng_reader.specs.Filtered.{record_octets}
use Rattle.pcapng_reader.proofs.Gathered.{passed-then, passed-short, record-halves, on-ok, on-err}
use Rattle.pcapng_reader.proofs.writing.put_record.Goals as goal

pub returns-in-Err-clause-cut : goal.returns-in-Err-clause-cut
returns-in-Err-clause-cut g c =
    let rec = record_read c.args.rec.now in
    let cut = c.in-Err.ensures.cut in (
      cut.0 ++ rec.captured,
      passed-short _ _ _ cut.0 _ rec.captured (record_octets rec) cut.1
          (ap (λ (l : List ℕ). l ++ rec.captured) (c.as_slice.ensures.value ∙ c.encode_header.ensures.items)
          ∙ record-halves rec),
    )

pub returns-clause-passed : goal.returns-clause-passed
returns-clause-passed g c =
    let rec = record_read c.args.rec.now in
    on-ok c.put-2.result _ _
    (λ (passed : IsPassed (g.K.Sink.held c.put.new.sink) (g.K.Sink.held c.put-2.new.sink) c.put.new.self
    c.put-2.new.self rec.captured).
    passed-then _ _ _ _ _ _ _ rec.captured (record_octets rec) c.in-Ok.ensures.passed passed
    (ap (λ (l : List ℕ). l ++ rec.captured) (c.as_slice.ensures.value ∙ c.encode_header.ensures.items)
    ∙ record-halves rec))
    c.put-2.ensures.passed

pub returns-clause-cut : goal.returns-clause-cut
returns-clause-cut g c =
    let rec = record_read c.args.rec.now in
    on-err c.put-2.result _ _
    (λ (cut : (left : List ℕ) × IsPassed (g.K.Sink.held c.put.new.sink) (g.K.Sink.held c.put-2.new.sink) c.put.new.self
    left rec.captured). (
      cut.0,
      passed-then _ _ _ _ _ _ _ rec.captured (record_octets rec) c.in-Ok.ensures.passed cut.1
          (ap (λ (l : List ℕ). l ++ rec.captured) (c.as_slice.ensures.value ∙ c.encode_header.ensures.items)
          ∙ record-halves rec),
    ))
    c.put-2.ensures.cut
