-- A stream that is read in pieces, message by message.
use Rattle.std.specs.Prelude.{◌≡◌, ℕ, ◌≤◌, max, List, ◌++◌, length, Result, Ok}
use Rattle.ipfix_model.specs.declared.values.DataRecord.{DataRecord}
use Rattle.ipfix_reader.specs.declared.fault.StreamFault.{StreamFault}
use Rattle.octets.specs.Outcome.{◌>>=◌}
use Rattle.octets.specs.Numbers.{number_at}
use Rattle.ipfix_reader.specs.Known.{Templates, Sequences}
use Rattle.ipfix_reader.specs.Messages.{stream_messages, decode}

-- What is known behind some messages: the templates and the expected sequence numbers of each observation domain, and
-- where in the stream the next message begins.
pub record WalkState : Type 0 where
  pub templates : Templates
  pub sequences : Sequences
  pub at : ℕ

-- What messages give that follow these data records.
abbrev pub read_behind : WalkState → List DataRecord → List ℕ → Result (List DataRecord) StreamFault
read_behind walk records more =
    stream_messages (record {
      contents = record { templates = walk.templates; records = records };
      sequences = walk.sequences;
    })
    (record { at = walk.at; bytes = more }) >>= λ read. Ok read.contents.records

-- The messages in these bytes were read, and these are their data records: to decode the bytes with whatever follows
-- them is to go on with what follows, from what is known behind them.
pub record HasRead (bytes : List ℕ) (records : List DataRecord) (walk : WalkState) : Type 0 where
  pub place : walk.at ≡ length bytes
  pub onward : (more : List ℕ) → decode (bytes ++ more) ≡ read_behind walk records more

-- The first `size` bytes are a message by its length field; or they are a header whose length field claims less than a
-- header.
pub record IsFront (size : ℕ) (bytes : List ℕ) : Type 0 where
  pub inside : size ≤ length bytes
  pub claimed : size ≡ max (number_at 2 2 bytes) 16
