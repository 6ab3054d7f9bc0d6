use Rattle.std.proofs.Common.{◌≡◌, ◌+◌, ◌<◌, ◌^◌, ◌≤◌, ℕ, length, refl, sym, subst, ap, ◌∙◌, arith, rules, Err, None}
use Rattle.std.proofs.lemmas.List.{length-append}
use Rattle.pcap_reader.specs.File.{CaptureFile, IsKnownLink}
use Rattle.pcap_reader.specs.Index.{IsIndexOf}
use Rattle.pcap_reader.specs.Records.{damage_of, records_of}
use Rattle.pcap_reader.specs.Views.{file_of, part_of}
use Rattle.capture_input.proofs.Filling.{damage-place, part-refused}
use Rattle.capture_input.proofs.Given.{Laws, few-in, given-part}
use Rattle.capture_input.proofs.reading.Reading.index_part.Given as given
use Rattle.capture_input.proofs.reading.Reading.index_part.Goals as goal

pub refusal-requires-clause-bounded : goal.refusal-requires-clause-bounded
refusal-requires-clause-bounded g c = λ n is.
    let part = file_of c.part-part.result in
    let start : part.start ≡ 0 = ap (λ (f : CaptureFile). f.start) c.part-part.ensures.part in
    let own : length part.bytes ≡ length c.bytes-bytes.result.now =
    ap (λ (f : CaptureFile). length f.bytes) c.part-part.ensures.part in
    let place = damage-place part n (c.in-Err.ensures.damaged n (ap (λ e. Err e) is)) in
    omega (arith, place, own, c.parts_law.ensures.whole part (omega (arith, start)))

pub returns-in-Err-clause-refused : goal.returns-in-Err-clause-refused
returns-in-Err-clause-refused g c = λ before limit answers h.
    let self = c.args.self in
    (part-refused self.head self.input.window.bytes c.bytes-bytes.result.now 0 (length c.bytes-bytes.result.now) h.file
    h.more (file_of c.part-part.result) before (g.S.Source.left c.args.source.now)
    (g.S.Source.left c.refusal.new.source) (g.S.Source.faults c.args.source.now)
    (g.S.Source.faults c.args.source.now) (g.S.Source.faults c.refusal.new.source) self.input limit c.in-Err.error
    c.refusal.result c.parts_law.ensures.next c.parts_law.ensures.header c.parts_law.ensures.stays
    c.parts_law.ensures.whole h.at c.part-part.ensures.part c.bytes-bytes.ensures c.part-part.ensures.known
    (λ n is. c.in-Err.ensures.damaged n (ap (λ e. Err e) is)) refl h.limit_is h.within refl h.given
    c.refusal.ensures).0

laws : (g : given.Over) (c : goal.In-Ok g) → Laws
laws g c = record {
  next = c.parts_law.ensures.next;
  header = c.parts_law.ensures.header;
  short = c.parts_law.ensures.short;
  whole = c.parts_law.ensures.whole;
  count = c.packets_law.ensures.count;
}

-- the part that was indexed is that of the window
same : (g : given.Over) (c : goal.In-Ok g)
    → file_of c.part-part.result ≡ part_of c.args.self.head c.args.self.input.window.bytes
same g c = c.part-part.ensures.part ∙ ap (part_of c.args.self.head) c.bytes-bytes.ensures

few : (g : given.Over) (c : goal.In-Ok g)
    → c.args.self.base + c.args.self.count + length c.in-Ok.index.offsets < 2 ^ 32
few g c =
    let f = c.requires.filled in
    let least = few-in f.0 (g.S.Source.left c.args.source.now) f.1 c.args.self f.2 (laws g c) f.3 in
    let count = c.in-Ok.ensures.index.count in
    let own : length (records_of (file_of c.part-part.result))
    ≡ length (records_of (part_of c.args.self.head c.args.self.input.window.bytes)) =
    ap (λ (p : CaptureFile). length (records_of p)) (same g c) in
    omega (arith, least, count, own)

pub overflow_add-reading : goal.overflow_add-reading
overflow_add-reading g c = (let f = few g c in omega (arith, f))

laws-then : (g : given.Over) (c : goal.After-tail g) → Laws
laws-then g c = record {
  next = c.parts_law.ensures.next;
  header = c.parts_law.ensures.header;
  short = c.parts_law.ensures.short;
  whole = c.parts_law.ensures.whole;
  count = c.packets_law.ensures.count;
}

same-then : (g : given.Over) (c : goal.After-tail g)
    → file_of c.part-part.result ≡ part_of c.args.self.head c.args.self.input.window.bytes
same-then g c = c.part-part.ensures.part ∙ ap (part_of c.args.self.head) c.bytes-bytes.ensures

pub returns-clause-few : goal.returns-clause-few
returns-clause-few g c =
    let f = c.requires.filled in
    let least = few-in f.0 (g.S.Source.left c.args.source.now) f.1 c.args.self f.2 (laws-then g c) f.3 in
    let count = c.in-Ok.ensures.index.count in
    let own = ap (λ (p : CaptureFile). length (records_of p)) (same-then g c) in
    omega (arith, least, count, own)

pub returns-clause-given : goal.returns-clause-given
returns-clause-given g c = λ before limit answers h.
    let s = same-then g c in
    given-part before (g.S.Source.left c.args.source.now) limit _ _ _ c.args.self answers c.in-Ok.index
    (laws-then g c) h
    (subst (λ (p : CaptureFile). IsKnownLink p.link) s c.part-part.ensures.known)
    (subst (λ (p : CaptureFile). damage_of p ≡ None) s c.in-Ok.ensures.undamaged)
    (subst (λ (p : CaptureFile). IsIndexOf c.in-Ok.index p) s c.in-Ok.ensures.index)
    refl c.count.ensures (search rules)
