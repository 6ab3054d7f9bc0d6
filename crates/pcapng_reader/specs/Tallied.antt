-- What a file holds, what is written of it and what is left out, in numbers.
use Rattle.std.specs.Prelude.{ℕ, ◌≡◌, ◌<◌, ◌+◌, ◌^◌, ◌==◌, ◌&&◌, Bool, List, length, count_by, sum_by, slice_index, is_ok, is_none}
use Rattle.std.specs.Prelude.{Result, Ok, Err, true}
use Rattle.link_types.specs.Links.{link_of}
use Rattle.meter_io.specs.Sides.{Side, IsRead}
use Rattle.packet_accept.specs.declared.packet.Packet.{Packet}
use Rattle.packet_accept.specs.declared.ignored.Ignored.{Ignored}
use Rattle.packet_accept.specs.declared.ignored.Ignored.TheVariants.{NotIp, Short, BadHeader, ShortTransport, BadTime}
use Rattle.packet_accept.specs.Acceptance.{accepted_packet}
use Rattle.capture_tally.specs.Tallies.{cause_number, is_ignored_for}
use Rattle.pcapng_reader.specs.declared.tally.PngTally.{PngTally}
use Rattle.pcapng_reader.specs.declared.status.PngStatus.{PngStatus}
use Rattle.pcapng_reader.specs.declared.status.PngStatus.TheVariants.{Done}
use Rattle.pcapng_reader.specs.Blocks.{Block, pieces_of}
use Rattle.pcapng_reader.specs.Records.{LinkedRecord}
use Rattle.pcapng_reader.specs.Reading.{Found, found_in}
use Rattle.pcapng_reader.specs.Outcome.{limit}

-- The answer to a packet's record. The number that the packet gets plays no part in what is counted.
abbrev pub answer_of : LinkedRecord → Result Packet Ignored
answer_of linked = accepted_packet linked.link true linked.rec 0

-- The record is written.
abbrev pub is_written : LinkedRecord → Bool
is_written linked = is_ok (answer_of linked)

-- The record is left out for this cause.
abbrev pub is_left_out : Ignored → LinkedRecord → Bool
is_left_out cause linked = is_ignored_for (cause_number cause) (answer_of linked)

-- How many of the records are left out for this cause.
abbrev pub left_out : Ignored → List LinkedRecord → ℕ
left_out cause records = count_by (is_left_out cause) records

-- The record is left out since it has this link type, which isn't read.
abbrev pub is_unread : ℕ → LinkedRecord → Bool
is_unread link linked = (linked.link == link) && (is_none (link_of linked.link) && is_left_out NotIp linked)

-- The numbers of these records: how many there are, how many are written, how many are left out for each cause, and how
-- many since they have a link type that isn't read, for each number of a link type.
pub record IsTallyOf (tally : PngTally) (records : List LinkedRecord) : Type 0 where
  pub packets : tally.packets ≡ length records
  pub written : tally.written ≡ count_by is_written records
  pub not_ip : tally.not_ip ≡ left_out NotIp records
  pub short : tally.short ≡ left_out Short records
  pub bad_header : tally.bad_header ≡ left_out BadHeader records
  pub short_transport : tally.short_transport ≡ left_out ShortTransport records
  pub bad_time : tally.bad_time ≡ left_out BadTime records
  pub links : length tally.unread.items ≡ 2 ^ 16
  pub unread : (link : ℕ) → link < 2 ^ 16 → slice_index tally.unread.items link ≡ count_by (is_unread link) records

-- The octets of a block. Something malformed has none.
abbrev pub piece_length : Result Block ℕ → ℕ
piece_length (Ok block) = length block.part
piece_length (Err at) = 0

-- The tally of a file: how many blocks it has, how many octets are left behind the last of them, and the numbers of its
-- packets' records.
pub record IsFileTally (tally : PngTally) (bytes : List ℕ) : Type 0 where
  pub found : Found
  pub told : found_in bytes ≡ Ok found
  pub blocks : tally.blocks ≡ length (pieces_of bytes)
  pub tail : sum_by piece_length (pieces_of bytes) + tally.tail ≡ length bytes
  pub records : IsTallyOf tally found.records

-- The tally is that of the file that the input gave.
pub record IsInputTally (tally : PngTally) (input : Side) : Type 0 where
  pub bytes : List ℕ
  pub read : IsRead input limit bytes
  pub file : IsFileTally tally bytes

-- How a run ended that gives a tally where it is done.
abbrev pub status_of : Result PngTally PngStatus → PngStatus
status_of (Ok tally) = Done
status_of (Err status) = status
