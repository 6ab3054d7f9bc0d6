-- What was found so far, and where the next block is looked for.
use Rattle.std.proofs.Common.{◌≡◌, ◌-◌, ◌+◌, ◌≤◌, length, drop}
use Rattle.std.specs.Prelude.{All, sum_by}
use Rattle.pcapng_reader.specs.Blocks.{pieces_from, pieces_of}
use Rattle.pcapng_reader.specs.Reading.{with_pieces, found_in}
use Rattle.pcapng_reader.specs.Index.{HasUnits, IsPlaceIn, found_at}
use Rattle.pcapng_reader.specs.Tallied.{piece_length}
use Rattle.pcapng_reader.proofs.capture.PngCapture.index_blocks.Given as goal

abbrev pub invariant-blocks-2 : goal.invariant-blocks-2
invariant-blocks-2 l = record {
  within : l.at ≤ length l.bytes;
  rest : with_pieces (found_at l.bytes l.interfaces.items l.places.items)
      (pieces_from l.section l.at 0 (drop l.at l.bytes)) ≡ found_in l.bytes;
  units : All HasUnits l.interfaces.items;
  whole : All (IsPlaceIn l.bytes) l.places.items;
  few : l.blocks ≤ l.at;
  count : l.blocks + length (pieces_from l.section l.at 0 (drop l.at l.bytes)) ≡ length (pieces_of l.bytes);
  octets : l.at + sum_by piece_length (pieces_from l.section l.at 0 (drop l.at l.bytes))
      ≡ sum_by piece_length (pieces_of l.bytes);
}

abbrev pub decreases-blocks-2 : goal.decreases-blocks-2
decreases-blocks-2 l = length l.bytes - l.at
