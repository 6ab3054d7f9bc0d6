-- The code's own: what one more packet adds to a tally, and that no number of it runs over.
use Rattle.std.specs.Prelude.{ℕ, ◌≡◌, ◌<◌, ◌+◌, ◌-◌, ◌^◌, ◌==◌, ◌&&◌, List, length, sum_by, slice_index, is_ok, is_none, cond}
use Rattle.std.specs.Prelude.{Result}
use Rattle.link_types.specs.Links.{link_of}
use Rattle.packet_accept.specs.declared.packet.Packet.{Packet}
use Rattle.packet_accept.specs.declared.ignored.Ignored.{Ignored}
use Rattle.capture_tally.specs.Tallies.{is_ignored_for}
use Rattle.pcapng_reader.specs.declared.tally.PngTally.{PngTally}
use Rattle.pcapng_reader.specs.declared.tally.Extent.{Extent}
use Rattle.pcapng_reader.specs.Blocks.{pieces_of}
use Rattle.pcapng_reader.specs.Tallied.{piece_length}

-- The file's blocks are so many, and so many octets are left behind them.
pub record IsExtentOf (extent : Extent) (bytes : List ℕ) : Type 0 where
  pub blocks : extent.blocks ≡ length (pieces_of bytes)
  pub tail : sum_by piece_length (pieces_of bytes) + extent.tail ≡ length bytes

-- Each number of the tally can grow by one.
pub record HasRoom (tally : PngTally) : Type 0 where
  pub packets : tally.packets < 2 ^ 64 - 1
  pub written : tally.written < 2 ^ 64 - 1
  pub not_ip : tally.not_ip < 2 ^ 64 - 1
  pub short : tally.short < 2 ^ 64 - 1
  pub bad_header : tally.bad_header < 2 ^ 64 - 1
  pub short_transport : tally.short_transport < 2 ^ 64 - 1
  pub bad_time : tally.bad_time < 2 ^ 64 - 1
  pub links : length tally.unread.items ≡ 2 ^ 16
  pub unread : (link : ℕ) → link < 2 ^ 16 → slice_index tally.unread.items link < 2 ^ 64 - 1

-- One more answer of a packet with this link type was counted.
pub record Adds (old new : PngTally) (link : ℕ) (answer : Result Packet Ignored) : Type 0 where
  pub blocks : new.blocks ≡ old.blocks
  pub tail : new.tail ≡ old.tail
  pub packets : new.packets ≡ old.packets + 1
  pub written : new.written ≡ old.written + cond (is_ok answer) 1 0
  pub not_ip : new.not_ip ≡ old.not_ip + cond (is_ignored_for 1 answer) 1 0
  pub short : new.short ≡ old.short + cond (is_ignored_for 2 answer) 1 0
  pub bad_header : new.bad_header ≡ old.bad_header + cond (is_ignored_for 3 answer) 1 0
  pub short_transport : new.short_transport ≡ old.short_transport + cond (is_ignored_for 4 answer) 1 0
  pub bad_time : new.bad_time ≡ old.bad_time + cond (is_ignored_for 5 answer) 1 0
  pub links : length new.unread.items ≡ length old.unread.items
  pub unread : (number : ℕ) → number < 2 ^ 16 → slice_index new.unread.items number
      ≡ slice_index old.unread.items number
      + cond ((link == number) && (is_none (link_of link) && is_ignored_for 1 answer)) 1 0
