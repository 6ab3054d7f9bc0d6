use Rattle.std.proofs.Common.{◌≡◌, ◌≤◌, length, take}
use Rattle.pcap_reader.specs.Views.{file_of}
use Rattle.packet_accept.specs.Packets.{answers_of, packets_in}
use Rattle.watch_program.specs.Answers.{keys_in}
use Rattle.watch_program.proofs.keys.keys_of.Given as goal

abbrev pub invariant-loop-n : goal.invariant-loop-n
invariant-loop-n l = record {
  keys : l.keys.items ≡ keys_in (packets_in (take l.n (answers_of (file_of l.capture))));
  few : length l.keys.items ≤ l.most;
}
