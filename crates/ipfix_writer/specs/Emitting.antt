-- What contracts see of an emitter between its calls; and, the code's own, what it keeps of its fields.
use Rattle.std.specs.Prelude.{◌≡◌, ℕ, ◌<◌, ◌≤◌, ◌/◌, ◌+◌, ◌-◌, ◌%◌, ◌^◌, ◌==◌, if◌then◌else◌, min, List, [], ◌∷◌, ◌++◌}
use Rattle.std.specs.Prelude.{length, take, Option, Some, None, Result, OnOk, OnErr}
use Rattle.meter_io.specs.Causes.{HasCause}
use Rattle.meter_io.specs.Sides.{Side, HasTaken}
use Rattle.record_ledger.specs.declared.record.FlowRecord.{FlowRecord}
use Rattle.ipfix_writer.specs.declared.emitter.Phase.{Phase}
use Rattle.ipfix_writer.specs.declared.emitter.Phase.TheVariants.{Fresh, Started, Broken}
use Rattle.ipfix_writer.specs.Encoding.{template_message}
use Rattle.ipfix_writer.specs.Layout.{RecordSet, encode_flow, AreFilled, data_messages, together, message_length}
use Rattle.ipfix_writer.specs.Layout.{length_in, BeginsLayout}
use Rattle.ipfix_model.specs.Sizes.{v4_record_length, template_message_length}

-- What contracts see of an emitter: the message size, the export time, how far it came, the records that wait for
-- their message to be full, the sequence number of that message, how many messages were written, and the bytes of
-- those that the sink has not taken yet.
pub record EmitterState : Type 0 where
  pub size : ℕ
  pub export_time : ℕ
  pub phase : Phase
  pub waiting : List FlowRecord
  pub sequence : ℕ
  pub messages : ℕ
  pub held : List ℕ

-- The records that wait as a list of messages: none before the first record.
abbrev pub waiting_part : List FlowRecord → List (List FlowRecord)
waiting_part [] = []
waiting_part (flow ∷ flows) = (flow ∷ flows) ∷ []

-- The code's own: the template of the last of some records.
abbrev pub last_template : {A : Type 0} → (A → RecordSet) → List A → Option ℕ
last_template encode [] = None
last_template encode (x ∷ []) = Some (encode x).template
last_template encode (x ∷ (next ∷ xs)) = last_template encode (next ∷ xs)

-- The code's own: the length of the set header in front of a record of this template, by the template of the record
-- before it, if there is one.
abbrev pub header_before : Option ℕ → ℕ → ℕ
header_before None template = 4
header_before (Some last) template = if last == template then 0 else 4

-- The emitter was given these records, and the sink has taken these bytes; those that are held come behind them.
pub record IsUnderWay (emitter : EmitterState) (flows : List FlowRecord) (written : List ℕ) : Type 0 where
  pub parts : List (List FlowRecord)
  pub started : emitter.phase ≡ Started
  pub whole : together parts ++ emitter.waiting ≡ flows
  pub begun : emitter.waiting ≡ [] → parts ≡ []
  pub filled : AreFilled emitter.size (parts ++ waiting_part emitter.waiting)
  pub bytes : written ++ emitter.held ≡ template_message emitter.export_time
      ++ data_messages emitter.export_time 0 parts
  pub sequence : emitter.sequence ≡ length (together parts) % 2 ^ 32
  pub messages : emitter.messages ≡ min (1 + length parts) (2 ^ 64 - 1)

-- A call that takes in these records: the emitter was given them, or a write failed and the sink took a beginning of
-- the stream.
pub record HasTakenIn {T E : Type 0} (before after : EmitterState) (sink : Side) (flows : List FlowRecord)
    (result : Result T E) : Type 0 where
  pub taken : OnOk result ((earlier : List FlowRecord) (written : List ℕ) → IsUnderWay before earlier written
      → (bytes : List ℕ) × HasTaken sink bytes × IsUnderWay after (earlier ++ flows) (written ++ bytes))
  pub broken : OnErr result ((earlier : List FlowRecord) (written : List ℕ) → IsUnderWay before earlier written
      → (bytes : List ℕ) × HasTaken sink bytes × ((rest : List FlowRecord) → BeginsLayout before.size before.export_time
      (earlier ++ (flows ++ rest)) (written ++ bytes)))
  pub size : after.size ≡ before.size
  pub export_time : after.export_time ≡ before.export_time
  pub started : OnOk result (after.phase ≡ Started)
  pub phase : OnErr result (after.phase ≡ Broken)
  pub cause : HasCause sink.faults_before sink.faults_after result

-- The code's own: what an emitter keeps of its fields: the room for a message and its records, the length of the
-- message that waits, and the template of its last record.
pub record EmitterKeeps (size : ℕ) (phase : Phase) (waiting : List FlowRecord) (sequence messages length_of_message : ℕ)
    (template : Option ℕ)
    (room_of_bytes room_of_records : ℕ) (held : List ℕ) : Type 0 where
  pub least : template_message_length ≤ size
  pub most : size < 2 ^ 16
  pub exact : length_of_message ≡ message_length waiting
  pub within : length_of_message ≤ size
  pub last : template ≡ last_template encode_flow waiting
  pub bytes : size ≤ room_of_bytes
  pub records : size / v4_record_length ≤ room_of_records
  pub fresh : phase ≡ Fresh → (waiting ≡ []) × (sequence ≡ 0) × (messages ≡ 0) × (held ≡ [])

-- The code's own: the first `count` records fill a message: it has one or more and is at most `size` bytes long, and
-- with one more it would be longer.
pub record FillsMessage {A : Type 0} (encode : A → RecordSet) (size : ℕ) (records : List A) (count : ℕ) : Type 0 where
  pub some : 0 < count
  pub within : count ≤ length records
  pub fits : length_in encode (take count records) ≤ size
  pub full : count < length records → size < length_in encode (take (count + 1) records)
