-- Each record passes behind those before it, and then what is held goes out.
use Rattle.std.proofs.Common.{◌≡◌, ◌≤◌, ◌+◌, ◌++◌, ℕ, List, [], length, take, sym, ap, refl, subst, ◌∙◌, arith}
use Rattle.std.specs.Io.KnownBytes.{Appends}
use Rattle.std.proofs.lemmas.List.{length-map}
use Rattle.sink_buffer.specs.Passing.{IsPassed}
use Rattle.pcapng_reader.specs.Index.{record_at, records_at, linked_read}
use Rattle.pcapng_reader.specs.Filtered.{capture_of, file_header, octets_of_record}
use Rattle.pcapng_reader.proofs.Gathered.{capture-more, capture-whole, passed-then, begun-capture, out-whole, out-begun}
use Rattle.pcapng_reader.proofs.Gathered.{on-ok, on-err}
use Rattle.pcapng_reader.proofs.Tallying.{tally-more, tally-room, tally-whole, few-taken}
use Rattle.pcapng_reader.proofs.writing.write_packets.Goals as goal

pub returns-in-Err-clause-begun : goal.returns-in-Err-clause-begun
returns-in-Err-clause-begun g c =
    let records = records_at c.args.capture.now.bytes.now c.args.index.now in
    let cut = c.in-Err.ensures.cut in
    begun-capture _ _ _ cut.0 file_header records 0 c.requires.empty cut.1 refl

pub loop-n-init : goal.loop-n-init
loop-n-init g c = record {
  way = subst
      (λ (l : List ℕ). IsPassed (g.K.Sink.held c.args.output.now) (g.K.Sink.held c.put.new.sink) l c.put.new.self
      file_header)
      c.requires.empty c.in-Ok.ensures.passed;
  room = c.requires.room;
  told = c.requires.uncounted;
  blocks = refl;
  tail = refl;
  quiet = c.in-Ok.ensures.cause.quiet;
}

pub returns-in-Err-put_linked-clause-begun : goal.returns-in-Err-put_linked-clause-begun
returns-in-Err-put_linked-clause-begun g c =
    let records = records_at c.args.capture.now.bytes.now c.args.index.now in
    let n = c.loop-n.n in
    let there = c.record-linked.ensures.value _ c.requires.index.found in
    let cut = c.in-Err-put_linked.ensures.cut in
    begun-capture _ _ _ cut.0 (capture_of (take (n + 1) records)) records (n + 1) refl
    (passed-then _ _ _ _ _ _ _ (octets_of_record (linked_read c.record-linked.result))
    (capture_of (take (n + 1) records))
    c.loop-n.invariant.way cut.1 (sym (capture-more records n _ there)))
    refl

pub loop-n-preserved : goal.loop-n-preserved
loop-n-preserved g c =
    let records = records_at c.args.capture.now.bytes.now c.args.index.now in
    let n = c.loop-n.n in
    let there = c.record-linked.ensures.value _ c.requires.index.found in
    record {
      way = passed-then _ _ _ _ _ _ _ (octets_of_record (linked_read c.record-linked.result))
          (capture_of (take (n + 1) records))
          c.loop-n.invariant.way c.in-Ok-put_linked.ensures.passed (sym (capture-more records n _ there));
      room = omega (arith, c.loop-n.invariant.room, c.put_linked.ensures.room);
      told = tally-more _ _ records n (linked_read c.record-linked.result) there c.loop-n.invariant.told
          c.put_linked.ensures.counted;
      blocks = c.put_linked.ensures.counted.blocks ∙ c.loop-n.invariant.blocks;
      tail = c.put_linked.ensures.counted.tail ∙ c.loop-n.invariant.tail;
      quiet = c.in-Ok-put_linked.ensures.cause.quiet ∙ c.loop-n.invariant.quiet;
    }

pub returns-clause-whole : goal.returns-clause-whole
returns-clause-whole g c =
    let records = records_at c.args.capture.now.bytes.now c.args.index.now in
    let all : length records ≤ c.loop-n.n = omega (
      arith,
      length-map c.args.index.now (record_at c.args.capture.now.bytes.now),
      c.count-n-end.ensures,
      c.loop-n-test.false,
    ) in
    on-ok c.write_out.result _ _
    (λ (taken : Appends (g.K.Sink.held c.loop-n.output) (g.K.Sink.held c.write_out.new.sink) c.loop-n.out).
    subst (Appends (g.K.Sink.held c.args.output.now) (g.K.Sink.held c.write_out.new.sink))
    (capture-whole records c.loop-n.n all)
    (out-whole _ _ _ [] c.loop-n.out (capture_of (take c.loop-n.n records)) refl c.loop-n.invariant.way taken))
    c.write_out.ensures.whole

pub returns-clause-begun : goal.returns-clause-begun
returns-clause-begun g c =
    let records = records_at c.args.capture.now.bytes.now c.args.index.now in
    on-err c.write_out.result _ _
    (λ (begun : (count : ℕ)
    × Appends (g.K.Sink.held c.loop-n.output) (g.K.Sink.held c.write_out.new.sink) (take count c.loop-n.out)).
    out-begun _ _ _ [] c.loop-n.out (capture_of (take c.loop-n.n records)) records c.loop-n.n begun.0 refl
    c.loop-n.invariant.way begun.1 refl)
    c.write_out.ensures.prefix

pub put_linked-requires-clause-counts : goal.put_linked-requires-clause-counts
put_linked-requires-clause-counts g c =
    let records = records_at c.args.capture.now.bytes.now c.args.index.now in
    let whole : c.count-n-end.result ≡ length records =
    c.count-n-end.ensures ∙ sym (length-map c.args.index.now (record_at c.args.capture.now.bytes.now)) in
    tally-room c.loop-n.tally (take c.loop-n.n records) c.loop-n.invariant.told
    (few-taken records c.loop-n.n c.count-n-end.result c.loop-n-test.true whole (omega arith))

pub returns-clause-counted : goal.returns-clause-counted
returns-clause-counted g c =
    let records = records_at c.args.capture.now.bytes.now c.args.index.now in
    let all : length records ≤ c.loop-n.n = omega (
      arith,
      length-map c.args.index.now (record_at c.args.capture.now.bytes.now),
      c.count-n-end.ensures,
      c.loop-n-test.false,
    ) in
    on-ok c.write_out.result _ _
    (λ (taken : Appends (g.K.Sink.held c.loop-n.output) (g.K.Sink.held c.write_out.new.sink) c.loop-n.out).
    tally-whole c.loop-n.tally records c.loop-n.n all c.loop-n.invariant.told)
    c.write_out.ensures.whole
