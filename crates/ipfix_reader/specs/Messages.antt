-- The messages of a stream (RFC 7011, section 3.1).
use Rattle.std.specs.Prelude.{ℕ, ◌+◌, ◌-◌, ◌%◌, ◌^◌, ◌==◌, Bool, true, List, [], length, Option, Some, None, Result, Ok}
use Rattle.std.specs.Prelude.{Err, nat_lt, not, if◌then◌else◌}
use Rattle.ipfix_model.specs.declared.values.DataRecord.{DataRecord}
use Rattle.ipfix_reader.specs.declared.fault.StreamFault.{StreamFault}
use Rattle.ipfix_reader.specs.declared.fault.StreamFault.TheVariants.{Cut, BadVersion, BadLength, BadSequence}
use Rattle.octets.specs.Outcome.{◌>>=◌}
use Rattle.ipfix_reader.specs.Part.{Part, behind, first_part}
use Rattle.octets.specs.Numbers.{number_at}
use Rattle.ipfix_reader.specs.Walk.{Reading, all_items}
use Rattle.ipfix_reader.specs.Known.{Sequences, expected_in, with_expected}
use Rattle.ipfix_reader.specs.Sets.{Contents, message_sets}

-- What messages give: the contents of their sets, and the sequence numbers that are expected.
pub record Progress : Type 0 where
  pub contents : Contents
  pub sequences : Sequences

-- The header's fields: version, length of the message, sequence number and observation domain. The export time, at byte
-- 4, isn't used.
abbrev pub message_version : Part → ℕ
message_version part = number_at 0 2 part.bytes

abbrev pub message_length : Part → ℕ
message_length part = number_at 2 2 part.bytes

abbrev pub message_sequence : Part → ℕ
message_sequence part = number_at 8 4 part.bytes

abbrev pub message_domain : Part → ℕ
message_domain part = number_at 12 4 part.bytes

-- The number is the expected one, where one is.
abbrev pub is_next : ℕ → Option ℕ → Bool
is_next number None = true
is_next number (Some expected) = number == expected

-- The length of a message whose header has no fault.
unfoldable pub checked_length : Sequences → Part → Result ℕ StreamFault
checked_length sequences part =
    if nat_lt (length part.bytes) 16 then Err (Cut part.at)
    else if not (message_version part == 10) then Err (BadVersion part.at)
    else if nat_lt (message_length part) 16 then Err (BadLength part.at)
    else if nat_lt (length part.bytes) (message_length part) then Err (Cut part.at)
    else if not (is_next (message_sequence part) (expected_in sequences (message_domain part)))
    then Err (BadSequence part.at)
    else Ok (message_length part)

-- The sequence number counts the data records of a domain, modulo 2^32.
abbrev pub next_number : Part → Contents → Contents → ℕ
next_number part before after = (message_sequence part + (length after.records - length before.records)) % 2 ^ 32

-- What is known behind a message whose sets gave these contents.
abbrev pub behind_message : Part → Progress → Contents → Progress
behind_message part before after = record {
  contents = after;
  sequences = with_expected before.sequences (message_domain part) (next_number part before.contents after);
}

-- A message, or the stream's end.
abbrev pub stream_message : Reading Progress → Reading Progress
stream_message go_on before part =
    if length part.bytes == 0 then Ok before
    else checked_length before.sequences part
    >>= λ size. message_sets (message_domain part) before.contents (behind 16 (first_part size part))
    >>= λ after. go_on (behind_message part before after) (behind size part)

-- The messages of a stream.
unfoldable pub stream_messages : Reading Progress
stream_messages = all_items stream_message

-- Before the first message nothing is known.
abbrev pub nothing_read : Progress
nothing_read = record { contents = record { templates = []; records = [] }; sequences = [] }

-- The data records of a stream, or its first fault.
unfoldable pub decode : List ℕ → Result (List DataRecord) StreamFault
decode bytes = stream_messages nothing_read (record { at = 0; bytes = bytes }) >>= λ read. Ok read.contents.records
