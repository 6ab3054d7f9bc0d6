-- The first window has no file header that can be read.
use Rattle.std.proofs.Common.{◌≡◌, ◌++◌, ℕ, length, Err, None, arith, sym, subst, ap, ◌∙◌}
use Rattle.std.specs.Prelude.{IsSomeAnd}
use Rattle.std.specs.Io.KnownBytes.{Consumes}
use Rattle.pcap_reader.specs.File.{capture_file, IsKnownLink}
use Rattle.capture_input.specs.declared.fault.MeterFault.{MeterFault}
use Rattle.capture_input.specs.Refusals.{IsRefused}
use Rattle.capture_input.specs.Inputs.{ReadsOn}
use Rattle.capture_input.proofs.Filling.{seen, head-refused}
use Rattle.capture_input.proofs.input.CaptureInput.begin.Goals as goal

pub returns-in-Err-clause-refused : goal.returns-in-Err-clause-refused
returns-in-Err-clause-refused g c =
    let told = c.in_ok-fill.ensures in
    let more = told.more in
    let window = c.fill.new.self.window.bytes in
    let only : window ≡ told.got = told.bytes ∙ ap (λ l. l ++ told.got) c.requires.empty.0 in
    let had = subst (λ l. Consumes (g.S.Source.left c.args.source.now) (g.S.Source.left c.fill.new.source) l)
    (sym only) told.given in
    let count : c.fill.new.self.taken ≡ length window =
    (let e = ap length only in omega (arith, more.taken_is, e, c.requires.empty.1)) in
    let of = c.in-Err.ensures in
    let same : c.bytes.result.now ≡ window = c.bytes.ensures in
    subst (λ (k : ℕ). IsRefused
    (seen (g.S.Source.left c.args.source.now) (g.S.Source.left c.read_on.new.source)
    (g.S.Source.faults c.args.source.now) (g.S.Source.faults c.read_on.new.source)) k c.read_on.result)
    told.limit
    (head-refused (g.S.Source.left c.args.source.now) (g.S.Source.left c.fill.new.source)
    (g.S.Source.left c.read_on.new.source) (g.S.Source.faults c.args.source.now)
    (g.S.Source.faults c.fill.new.source) (g.S.Source.faults c.read_on.new.source) window c.fill.new.self
    c.fill.new.self.window.size c.in-Err.error c.read_on.result
    more.quiet had count c.parts_law.ensures.header more.full (omega (arith, told.size, c.requires.size))
    (λ is. subst (λ l. capture_file l ≡ None) same (of.not_capture.0 (ap (λ e. Err e) is)))
    (λ n is. subst (λ l. IsSomeAnd (capture_file l) (λ file. (file.link ≡ n) × ¬ IsKnownLink n)) same
    ((of.link_unknown n).0 (ap (λ e. Err e) is)))
    (subst (λ (f : MeterFault). ReadsOn
    (seen (g.S.Source.left c.fill.new.source) (g.S.Source.left c.read_on.new.source)
    (g.S.Source.faults c.fill.new.source)
    (g.S.Source.faults c.read_on.new.source)) c.fill.new.self f c.read_on.result) c.fault_of.ensures
    c.read_on.ensures)).0
