-- What stands at the place of a packet is its record.
use Rattle.std.proofs.Common.{◌∙◌, sym, ap, Some}
use Rattle.pcapng_reader.specs.Records.{LinkedRecord}
use Rattle.pcapng_reader.proofs.Placed.{at-place, record-there, part-of-part}
use Rattle.pcapng_reader.proofs.capture.PngCapture.record.Goals as goal

pub enhanced_record-requires-clause-whole : goal.enhanced_record-requires-clause-whole
enhanced_record-requires-clause-whole c =
    (at-place c.args.self.now.bytes.now c.args.index.now c.args.n c.place.result.now _ c.requires.index.whole
    c.requires.number (c.place.ensures c.place.result.now) c.in-Enhanced.is).block

pub returns-in-Enhanced-clause-value : goal.returns-in-Enhanced-clause-value
returns-in-Enhanced-clause-value c = λ found told. record-there c.args.self.now.bytes.now c.requires.index.interfaces
    c.args.index.now c.args.n c.place.result.now _ found
    c.requires.index.found c.requires.number (c.place.ensures c.place.result.now) c.in-Enhanced.is told
    ∙ ap (λ (r : LinkedRecord). Some r) (sym c.enhanced_record.ensures.value)

pub returns-in-Simple-clause-value : goal.returns-in-Simple-clause-value
returns-in-Simple-clause-value c = λ found told. record-there c.args.self.now.bytes.now c.requires.index.interfaces
    c.args.index.now c.args.n c.place.result.now _ found
    c.requires.index.found c.requires.number (c.place.ensures c.place.result.now) c.in-Simple.is told
    ∙ ap (λ (r : LinkedRecord). Some r) (sym c.simple_record.ensures.value)

pub returns-in-Enhanced-clause-part : goal.returns-in-Enhanced-clause-part
returns-in-Enhanced-clause-part c =
    let at = at-place c.args.self.now.bytes.now c.args.index.now c.args.n c.place.result.now _ c.requires.index.whole
    c.requires.number (c.place.ensures c.place.result.now) c.in-Enhanced.is in
    part-of-part c.args.self.now.bytes.now c.enhanced_record.result.rec.captured.now c.in-Enhanced.from c.in-Enhanced.to
    at.forward at.within
    c.enhanced_record.ensures.within c.enhanced_record.ensures.captured
