use Rattle.pcap_reader.specs.Index.{IsIndexOf}
use Rattle.watch_program.proofs.Files.{refused-not}
use Rattle.watch_program.proofs.watching.meter_bytes.Goals as goal

pub unreachable-requires : goal.unreachable-requires
unreachable-requires g c =
    refused-not c.args.bytes.now (IsIndexOf c.args.index.now) c.open.result c.in_default.field-0 c.in_default.is
    c.requires.capture c.open.ensures.not_capture.0
    (λ n. (c.open.ensures.link_unknown n).0)
