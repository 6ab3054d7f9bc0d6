-- What was read of the piece, and the size of the message at the front of what is left.
use Rattle.std.proofs.Common.{◌≡◌, ◌<◌, length}
use Rattle.ipfix_reader.specs.Pieces.{IsFront}
use Rattle.ipfix_reader.proofs.Pieces.{HasWalked}
use Rattle.ipfix_reader.proofs.walk.StreamWalk.read_whole.Given as goal

abbrev pub invariant-messages : goal.invariant-messages
invariant-messages g l = record {
  walked : HasWalked (g.T.RecordTaker.has_taken l.fn.taker) (g.T.RecordTaker.has_taken l.taker) l.fn.self l.self
      l.fn.bytes l.rest;
  front : 0 < l.size → IsFront l.size l.rest;
  none : l.size ≡ 0 → length l.rest < 65535;
}

abbrev pub decreases-messages : goal.decreases-messages
decreases-messages g l = length l.rest
