-- The layout of records as a stream of messages. It is stated for anything that is written as data records: `encode`
-- tells the template and the bytes of one; `encode_flow` is that of flow records.
use Rattle.std.specs.Prelude.{◌≡◌, ℕ, ◌+◌, ◌%◌, ◌^◌, ◌-◌, min, ◌<◌, ◌≤◌, ◌==◌, if◌then◌else◌, List, [], ◌∷◌, ◌++◌}
use Rattle.std.specs.Prelude.{length, take, flat_map}
use Rattle.record_ledger.specs.declared.record.FlowRecord.{FlowRecord}
use Rattle.ipfix_model.specs.Templates.{template_of}
use Rattle.ipfix_writer.specs.Encoding.{message, set, template_message, data_record}

-- Data records of one template, one behind the other: its number, and their bytes.
pub record RecordSet : Type 0 where
  pub template : ℕ
  pub records : List ℕ

-- A record in front of some sets: it shares the first of them where that is of its template, else it has its own.
unfoldable pub put_before : ℕ → List ℕ → List RecordSet → List RecordSet
put_before template bytes [] = record { template = template; records = bytes } ∷ []
put_before template bytes (first ∷ sets) =
    if template == first.template
    then record { template = template; records = bytes ++ first.records } ∷ sets
    else record { template = template; records = bytes } ∷ (first ∷ sets)

-- The data records of some values, one behind the other.
abbrev pub records_in : {A : Type 0} → (A → RecordSet) → List A → List ℕ
records_in encode xs = flat_map (λ x. (encode x).records) xs

-- The sets of some records: neighbours of one template share a set.
unfoldable pub sets_in : {A : Type 0} → (A → RecordSet) → List A → List RecordSet
sets_in encode [] = []
sets_in encode (x ∷ xs) = put_before (encode x).template (encode x).records (sets_in encode xs)

-- The bytes of some sets.
abbrev pub bytes_of_sets : List RecordSet → List ℕ
bytes_of_sets sets = flat_map (λ (s : RecordSet). set s.template s.records) sets

-- The bytes of the sets of some records.
unfoldable pub body_in : {A : Type 0} → (A → RecordSet) → List A → List ℕ
body_in encode xs = bytes_of_sets (sets_in encode xs)

-- The length of the message that has these records.
unfoldable pub length_in : {A : Type 0} → (A → RecordSet) → List A → ℕ
length_in encode xs = 16 + length (body_in encode xs)

-- Each message has a record or more and is at most `size` bytes long, and with the first record of the next message
-- it would be longer.
unfoldable pub AreFilledBy : {A : Type 0} → (A → RecordSet) → ℕ → List (List A) → Type 0
AreFilledBy encode size [] = Unit {0}
AreFilledBy encode size (xs ∷ []) = (0 < length xs) × (length_in encode xs ≤ size)
AreFilledBy encode size (xs ∷ (next ∷ rest)) =
    (0 < length xs) × (length_in encode xs ≤ size) × (size < length_in encode (xs ++ take 1 next))
    × AreFilledBy encode size (next ∷ rest)

-- The data messages: the sequence number of each is the number of records in those before it, modulo 2^32.
unfoldable pub messages_in : {A : Type 0} → (A → RecordSet) → ℕ → ℕ → List (List A) → List ℕ
messages_in encode export_time before [] = []
messages_in encode export_time before (xs ∷ rest) =
    message export_time (before % 2 ^ 32) (body_in encode xs)
    ++ messages_in encode export_time (before + length xs) rest

-- Lists put together.
abbrev pub together : {A : Type 0} → List (List A) → List A
together parts = flat_map (λ part. part) parts

-- The bytes are the stream of these records behind a first message: data messages, each with the longest prefix of the
-- records still left whose message is at most `size` bytes long.
pub record IsStream {A : Type 0} (encode : A → RecordSet) (size export_time : ℕ) (first : List ℕ) (xs : List A)
    (bytes : List ℕ) : Type 0 where
  pub parts : List (List A)
  pub whole : together parts ≡ xs
  pub filled : AreFilledBy encode size parts
  pub written : bytes ≡ first ++ messages_in encode export_time 0 parts

-- What a flow record is written as.
abbrev pub encode_flow : FlowRecord → RecordSet
encode_flow flow = record { template = template_of flow; records = data_record flow }

abbrev pub records_bytes : List FlowRecord → List ℕ
records_bytes flows = records_in encode_flow flows

abbrev pub sets_of : List FlowRecord → List RecordSet
sets_of flows = sets_in encode_flow flows

abbrev pub body_of : List FlowRecord → List ℕ
body_of flows = body_in encode_flow flows

abbrev pub message_length : List FlowRecord → ℕ
message_length flows = length_in encode_flow flows

abbrev pub AreFilled : ℕ → List (List FlowRecord) → Type 0
AreFilled size parts = AreFilledBy encode_flow size parts

abbrev pub data_messages : ℕ → ℕ → List (List FlowRecord) → List ℕ
data_messages export_time before parts = messages_in encode_flow export_time before parts

-- The bytes are the layout of the flow records: the template message, then their data messages.
abbrev pub IsLayout : ℕ → ℕ → List FlowRecord → List ℕ → Type 0
IsLayout size export_time flows bytes = IsStream encode_flow size export_time (template_message export_time) flows bytes

-- The bytes are the layout of the records in `messages` messages, the template message among them.
pub record IsLayoutOf (size export_time : ℕ) (flows : List FlowRecord) (bytes : List ℕ) (messages : ℕ) : Type 0 where
  pub layout : IsLayout size export_time flows bytes
  pub count : messages ≡ min (1 + length layout.parts) (2 ^ 64 - 1)

-- The bytes are the beginning of the layout of the records.
pub record BeginsLayout (size export_time : ℕ) (flows : List FlowRecord) (bytes : List ℕ) : Type 0 where
  pub all : List ℕ
  pub more : List ℕ
  pub layout : IsLayout size export_time flows all
  pub begins : all ≡ bytes ++ more
