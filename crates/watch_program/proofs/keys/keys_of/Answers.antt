use Rattle.std.proofs.Common.{◌≡◌, ◌∙◌, ap, take, length, rules, arith}
use Rattle.pcap_reader.specs.Records.{records_of}
use Rattle.pcap_reader.specs.Views.{file_of}
use Rattle.packet_accept.specs.Packets.{answers_of, packets_in, packets_of}
use Rattle.watch_program.specs.Answers.{keys_in}
use Rattle.watch_program.proofs.FirstKeys.{enough, all}
use Rattle.watch_program.proofs.keys.keys_of.Goals as goal

pub returns-then-len-most : goal.returns-then-len-most
returns-then-len-most c =
    let many : length c.loop-n.keys.items ≡ c.args.most = search rules in
    enough c.args.most c.loop-n.n (answers_of (file_of c.args.capture.now)) c.loop-n.keys.items
    c.packets_law.ensures.together c.loop-n.invariant.keys many

pub returns : goal.returns
returns c =
    let file = file_of c.args.capture.now in
    let whole : c.loop-n.n ≡ length (records_of file) =
    omega (arith, c.loop-n-test.false, c.loop-n.auto.n-end, c.count-n-end.ensures, c.requires.index.count) in
    all c.args.most (packets_of file) c.loop-n.keys.items
    (c.loop-n.invariant.keys ∙ ap (λ k. keys_in (packets_in (take k (answers_of file)))) whole
    ∙ ap keys_in (c.packets_law.ensures.all file)) c.loop-n.invariant.few
