use Rattle.std.proofs.Common.{◌∙◌, sym}
use Rattle.pcap_reader.specs.Views.{file_of, record_read}
use Rattle.packet_accept.specs.Acceptance.{accepted_packet}
use Rattle.packet_accept.specs.Packets.{answers_of}
use Rattle.watch_program.proofs.FirstKeys.{next-accepted, next-ignored}
use Rattle.watch_program.proofs.keys.append_key.Goals as goal

pub returns-in_ok-push-clause-keys : goal.returns-in_ok-push-clause-keys
returns-in_ok-push-clause-keys c =
    let file = file_of c.args.capture.now in
    let found = record_read c.record-found.result in
    c.in_ok-push.ensures.items ∙ next-accepted c.args.n (answers_of file)
    (accepted_packet file.link file.nanos found c.args.n) c.in-Ok.packet c.args.keys.now.items
    (c.packets_law.ensures.next file c.args.n found c.record-found.ensures.value)
    (sym c.accept.ensures.answer ∙ c.in-Ok.is) c.requires.before

pub returns-in_default-clause-keys : goal.returns-in_default-clause-keys
returns-in_default-clause-keys c =
    let file = file_of c.args.capture.now in
    let found = record_read c.record-found.result in
    next-ignored c.args.n (answers_of file) (accepted_packet file.link file.nanos found c.args.n) c.in_default.field-0
    c.args.keys.now.items
    (c.packets_law.ensures.next file c.args.n found c.record-found.ensures.value)
    (sym c.accept.ensures.answer ∙ c.in_default.is) c.requires.before
