-- The records that packet blocks give (draft-ietf-opsawg-pcapng, sections 4.3 and 4.4).
use Rattle.std.specs.Prelude.{ℕ, ◌+◌, ◌-◌, ◌*◌, ◌/◌, ◌%◌, ◌^◌, List, [], take, drop, nat_lt, if◌then◌else◌}
use Rattle.octets.specs.declared.endianness.Endianness.{Endianness}
use Rattle.octets.specs.Numbers.{ordered_number_at}
use Rattle.pcap_reader.specs.Records.{PacketRecord}
use Rattle.pcapng_reader.specs.declared.interface.Interface.{Interface}
use Rattle.pcapng_reader.specs.declared.time.Stamp.{Stamp}

-- A packet's record, with the link type of its interface.
pub record LinkedRecord : Type 0 where
  pub link : ℕ
  pub rec : PacketRecord

-- A record without a time has a fraction of more than a second, which no time has.
abbrev pub no_time : Stamp
no_time = record { seconds = 0; fraction = 4294967295 }

-- Seconds and a fraction in nanoseconds, where the seconds fit 32 bits.
abbrev pub fitting_stamp : ℕ → ℕ → Stamp
fitting_stamp seconds fraction =
    if nat_lt seconds (2 ^ 32) then record { seconds = seconds; fraction = fraction } else no_time

-- The same with an offset in seconds, which is a signed number in two's complement: from 2^63 on it is the number less
-- 2^64, and a time before 1970 is none.
abbrev pub moved_stamp : ℕ → ℕ → ℕ → Stamp
moved_stamp seconds offset fraction =
    if nat_lt offset (2 ^ 63) then fitting_stamp (seconds + offset) fraction
    else if nat_lt (seconds + offset) (2 ^ 64) then no_time
    else fitting_stamp (seconds + offset - 2 ^ 64) fraction

-- A time of so many units since 1970, by its interface: whole seconds, moved by the offset, and the rest in
-- nanoseconds, rounded down.
abbrev pub stamp_of : Interface → ℕ → Stamp
stamp_of interface time =
    moved_stamp (time / interface.units) interface.offset (time % interface.units * 1000000000 / interface.units)

-- The time of an enhanced packet: the upper half stands at 12, the lower at 16.
abbrev pub told_time : Endianness → List ℕ → ℕ
told_time order part = ordered_number_at order 12 4 part * 2 ^ 32 + ordered_number_at order 16 4 part

-- How many octets of an enhanced packet were captured, at 20; they stand from 28 on.
abbrev pub captured_len : Endianness → List ℕ → ℕ
captured_len order part = ordered_number_at order 20 4 part

-- The record of an enhanced packet of this interface. The original length stands at 24.
abbrev pub enhanced_record : Interface → Endianness → List ℕ → LinkedRecord
enhanced_record interface order part =
    let stamp = stamp_of interface (told_time order part) in record {
      link = interface.link;
      rec = record {
        seconds = stamp.seconds;
        fraction = stamp.fraction;
        original = ordered_number_at order 24 4 part;
        captured = take (captured_len order part) (drop 28 part);
      };
    }

-- The record of a simple packet: it has no time, so nothing else is read of it.
abbrev pub simple_record : LinkedRecord
simple_record = record {
  link = 0;
  rec = record { seconds = no_time.seconds; fraction = no_time.fraction; original = 0; captured = [] };
}
