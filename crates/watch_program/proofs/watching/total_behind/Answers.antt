use Rattle.std.proofs.Common.{◌≡◌, ◌∙◌, arith, length}
use Rattle.pcap_reader.specs.File.{capture_file}
use Rattle.pcap_reader.proofs.OneKind.{and-so}
use Rattle.packet_accept.specs.Packets.{packets_of}
use Rattle.capture_tally.specs.Tallies.{octets_of}
use Rattle.flow_cache.specs.Closed.{metered_by}
use Rattle.flow_cache.specs.Shown.{shown_of, means_of}
use Rattle.watch_program.proofs.Seen.{seen-of}
use Rattle.watch_program.proofs.Totals.{HasCounts, handed-same, counted, tallied}
use Rattle.watch_program.proofs.watching.total_behind.Goals as goal

pub close-requires-clause-handed : goal.close-requires-clause-handed
close-requires-clause-handed c =
    handed-same c.args.metered.parts (shown_of c.args.metered.pass) (shown_of c.args.pass)
    (shown_of c.unite-pass.result) c.unite-pass.ensures.united
    c.requires.pass.1 c.requires.parts

pub total_of-requires-clause-packets : goal.total_of-requires-clause-packets
total_of-requires-clause-packets c =
    let counts = counted c.args.bytes.now (means_of c.args.cache).limits (shown_of c.args.metered.pass)
    (shown_of c.args.pass) (shown_of c.unite-pass.result)
    (metered_by c.close.new.self) c.in_ok-parts.parts
    c.sharing_out_counts.ensures.counts c.unite-pass.ensures.united
    c.requires.pass.1 c.requires.packets c.in_ok-parts.ensures.shared c.in_ok-parts.ensures.given in
    let fits = (tallied c.args.bytes.now c.in_ok-parts.parts c.args.metered.tally counts c.requires.tally).0 in
    omega (arith, fits)

pub total_of-requires-clause-octets : goal.total_of-requires-clause-octets
total_of-requires-clause-octets c =
    let counts = counted c.args.bytes.now (means_of c.args.cache).limits (shown_of c.args.metered.pass)
    (shown_of c.args.pass) (shown_of c.unite-pass.result)
    (metered_by c.close.new.self) c.in_ok-parts.parts
    c.sharing_out_counts.ensures.counts c.unite-pass.ensures.united
    c.requires.pass.1 c.requires.packets c.in_ok-parts.ensures.shared c.in_ok-parts.ensures.given in
    let fits = (tallied c.args.bytes.now c.in_ok-parts.parts c.args.metered.tally counts c.requires.tally).1 in
    omega (arith, fits)

pub returns-clause-total : goal.returns-clause-total
returns-clause-total c =
    let counts = counted c.args.bytes.now (means_of c.args.cache).limits (shown_of c.args.metered.pass)
    (shown_of c.args.pass) (shown_of c.unite-pass.result)
    (metered_by c.close.new.self) c.in_ok-parts.parts
    c.sharing_out_counts.ensures.counts c.unite-pass.ensures.united
    c.requires.pass.1 c.requires.packets c.in_ok-parts.ensures.shared c.in_ok-parts.ensures.given in
    and-so (capture_file c.args.bytes.now) (HasCounts c.in_ok-parts.parts)
    (λ file. (c.in_ok-total.total.0 ≡ length (packets_of file)) × (c.in_ok-total.total.1 ≡ octets_of (packets_of file)))
    counts
    (λ file has. (c.in_ok-total.ensures.packets ∙ has.0, c.in_ok-total.ensures.octets ∙ has.1))

pub returns-clause-seen : goal.returns-clause-seen
returns-clause-seen c =
    seen-of c.args.bytes.now (means_of c.args.cache).limits (shown_of c.args.metered.pass) (shown_of c.args.pass)
    (shown_of c.unite-pass.result) c.unite-pass.ensures.united c.requires.pass.1 c.requires.packets
    c.in_ok-parts.ensures.seen
