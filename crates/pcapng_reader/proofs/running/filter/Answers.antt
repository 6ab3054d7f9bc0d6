-- What was written is the answer, or a beginning of it.
use Rattle.std.proofs.Common.{◌≡◌, ◌∙◌, ℕ, List, subst, arith}
use Rattle.std.specs.Prelude.{take}
use Rattle.std.specs.Io.KnownBytes.{Appends}
use Rattle.pcapng_reader.specs.Index.{IsIndexOf, records_at, found_at}
use Rattle.pcapng_reader.specs.Tallied.{IsTallyOf}
use Rattle.pcapng_reader.specs.Counting.{IsExtentOf}
use Rattle.pcapng_reader.specs.Filtered.{capture_of}
use Rattle.pcapng_reader.proofs.Answered.{answer-is}
use Rattle.pcapng_reader.proofs.running.filter.Goals as goal

-- what is found in the file, and the tally of it
pub returns-in-Ok-write_packets : goal.returns-in-Ok-write_packets
returns-in-Ok-write_packets g c =
    let same = c.in-Ok.ensures.capture in
    let index = subst (λ (b : List ℕ). IsIndexOf c.in-Ok-index_blocks.found.0 b) same c.in-Ok-index_blocks.ensures.index in
    let extent = subst (IsExtentOf c.in-Ok-index_blocks.found.1) same c.in-Ok-index_blocks.ensures.extent in
    let counted = subst (λ (b : List ℕ). IsTallyOf c.write_packets.new.tally (records_at b c.in-Ok-index_blocks.found.0)) same
    c.in-Ok-write_packets.ensures.counted in
    record {
      ends = record {
        written = capture_of (records_at c.args.bytes.now c.in-Ok-index_blocks.found.0);
        answer = answer-is c.args.bytes.now c.in-Ok-index_blocks.found.0 c.in-Ok.ensures.pcapng
            (λ place. let h = c.type_inv.bytes place in omega (arith, h)) index;
        taken = subst
            (λ (b : List ℕ). Appends (g.K.Sink.held c.args.output.now) (g.K.Sink.held c.write_packets.new.output)
            (capture_of (records_at b c.in-Ok-index_blocks.found.0)))
            same c.in-Ok-write_packets.ensures.whole;
      };
      refused = λ never. absurd (cc);
      tally = record {
        found = found_at c.args.bytes.now index.interfaces c.in-Ok-index_blocks.found.0;
        told = index.found;
        blocks = c.write_packets.ensures.blocks ∙ c.in-Ok-new.ensures.blocks ∙ extent.blocks;
        tail = omega (arith, c.write_packets.ensures.tail, c.in-Ok-new.ensures.tail, extent.tail);
        records = counted;
      };
    }

pub returns : goal.returns
returns g c =
    let same = c.in-Ok.ensures.capture in
    let index = subst (λ (b : List ℕ). IsIndexOf c.in-Ok-index_blocks.found.0 b) same c.in-Ok-index_blocks.ensures.index in
    let begun = c.in-Err.ensures.begun in
    record {
      ends = record {
        written = capture_of (records_at c.args.bytes.now c.in-Ok-index_blocks.found.0);
        answer = answer-is c.args.bytes.now c.in-Ok-index_blocks.found.0 c.in-Ok.ensures.pcapng
            (λ place. let h = c.type_inv.bytes place in omega (arith, h)) index;
        begun = record {
          count = begun.0;
          taken = subst
              (λ (b : List ℕ). Appends (g.K.Sink.held c.args.output.now) (g.K.Sink.held c.write_packets.new.output)
              (take begun.0 (capture_of (records_at b c.in-Ok-index_blocks.found.0))))
              same begun.1;
        };
        cause = c.in-Err.ensures.cause.failed;
      };
      refused = λ never. absurd (cc);
      tally = tt;
    }
