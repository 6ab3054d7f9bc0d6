-- The blocks are read one after the other, to the tail or to the first that is bad.
use Rattle.std.proofs.Common.{◌≡◌, ◌≤◌, ◌∙◌, sym, ap, subst, refl, arith, drop, length, Err}
use Rattle.std.specs.Prelude.{sum_by}
use Rattle.pcapng_reader.specs.declared.front.Front.{Front}
use Rattle.pcapng_reader.specs.Blocks.{front}
use Rattle.pcapng_reader.specs.Index.{found_at}
use Rattle.pcapng_reader.proofs.Pieces.{block-more, block-bad, at-tail, at-malformed, count-more}
use Rattle.pcapng_reader.proofs.Pieces.{octets-more, pieces-tail}
use Rattle.pcapng_reader.specs.Tallied.{piece_length}
use Rattle.pcapng_reader.proofs.capture.PngCapture.index_blocks.Goals as goal

pub returns-in-Tail-clause-index : goal.returns-in-Tail-clause-index
returns-in-Tail-clause-index c =
    let bytes = c.args.self.now.bytes.now in
    let found = found_at bytes c.blocks-2.interfaces.items c.blocks-2.places.items in
    let stands : front c.blocks-2.section (drop c.blocks-2.at bytes) ≡ Front.Tail =
    sym (c.in-Tail.ensures.value ∙ ap (front c.blocks-2.section) c.split_at.ensures.back) in
    rw c.new.ensures (record {
      interfaces = c.blocks-2.interfaces.items;
      found = sym c.blocks-2.invariant.rest ∙ at-tail bytes found c.blocks-2.section c.blocks-2.at stands;
      whole = c.blocks-2.invariant.whole;
    })

pub returns-in-Tail-clause-extent : goal.returns-in-Tail-clause-extent
returns-in-Tail-clause-extent c =
    let bytes = c.args.self.now.bytes.now in
    let stands : front c.blocks-2.section (drop c.blocks-2.at bytes) ≡ Front.Tail =
    sym (c.in-Tail.ensures.value ∙ ap (front c.blocks-2.section) c.split_at.ensures.back) in
    let none = pieces-tail c.blocks-2.section c.blocks-2.at (drop c.blocks-2.at bytes) stands in
    record {
      blocks = omega (arith, c.blocks-2.invariant.count, ap (λ l. length l) none);
      tail = omega (
        arith,
        c.blocks-2.invariant.octets,
        ap (sum_by piece_length) none,
        c.split_at.ensures.back_len,
        c.blocks-2.invariant.within,
      );
    }

pub returns-in-Malformed-clause-bad : goal.returns-in-Malformed-clause-bad
returns-in-Malformed-clause-bad c = λ at same.
    let bytes = c.args.self.now.bytes.now in
    let found = found_at bytes c.blocks-2.interfaces.items c.blocks-2.places.items in
    let stands : front c.blocks-2.section (drop c.blocks-2.at bytes) ≡ Front.Malformed =
    sym (c.in-Malformed.ensures.value ∙ ap (front c.blocks-2.section) c.split_at.ensures.back) in
    let here : c.blocks-2.at ≡ at = cc in
    sym c.blocks-2.invariant.rest ∙ at-malformed bytes found c.blocks-2.section c.blocks-2.at stands ∙ ap Err here

pub returns-in-Err-clause-bad : goal.returns-in-Err-clause-bad
returns-in-Err-clause-bad c = λ at same.
    let bytes = c.args.self.now.bytes.now in
    let found = found_at bytes c.blocks-2.interfaces.items c.blocks-2.places.items in
    let stands : front c.blocks-2.section (drop c.blocks-2.at bytes) ≡ Front.Block c.in-Block.order c.in-Block.len =
    sym (c.in-Block.ensures.value ∙ ap (front c.blocks-2.section) c.split_at.ensures.back) in
    let bad = c.in-Err.ensures.bad at (cc) in
    sym c.blocks-2.invariant.rest ∙ block-bad bytes found c.blocks-2.section c.in-Block.order c.blocks-2.at
    c.in-Block.len _ at stands
    c.in-Block.ensures.whole.some refl bad

pub blocks-2-preserved : goal.blocks-2-preserved
blocks-2-preserved c =
    let bytes = c.args.self.now.bytes.now in
    let found = found_at bytes c.blocks-2.interfaces.items c.blocks-2.places.items in
    let stands : front c.blocks-2.section (drop c.blocks-2.at bytes) ≡ Front.Block c.in-Block.order c.in-Block.len =
    sym (c.in-Block.ensures.value ∙ ap (front c.blocks-2.section) c.split_at.ensures.back) in
    let within = c.in-Block.ensures.whole.within in
    record {
      within = omega (arith, within, c.split_at.ensures.back_len, c.blocks-2.invariant.within);
      rest = block-more bytes found _ c.blocks-2.section c.in-Block.order c.blocks-2.at c.in-Block.len _ stands
          c.in-Block.ensures.whole.some refl c.in-Ok.ensures.taken ∙ c.blocks-2.invariant.rest;
      units = c.take_block.ensures.units;
      whole = c.take_block.ensures.whole;
      few = omega (arith, c.in-Block.ensures.whole.some, c.blocks-2.invariant.few);
      count = count-more bytes c.blocks-2.section c.in-Block.order c.blocks-2.at c.in-Block.len _ c.blocks-2.blocks _
          stands c.in-Block.ensures.whole.some refl c.blocks-2.invariant.count;
      octets = octets-more bytes c.blocks-2.section c.in-Block.order c.blocks-2.at c.in-Block.len _ _ stands
          c.in-Block.ensures.whole.some refl (subst (λ l. c.in-Block.len ≤ length l) c.split_at.ensures.back within)
          c.blocks-2.invariant.octets;
    }
