-- The lengths of records, sets and messages.
use Rattle.std.proofs.Common.{◌≡◌, ◌≤◌, ◌+◌, ◌==◌, ℕ, Bool, true, false, List, ◌++◌, length, if◌then◌else◌, refl}
use Rattle.std.proofs.Common.{◌≢◌, ap, ◌∙◌, arith, length-append, append-nil, eq-eqb}
use Rattle.std.proofs.lemmas.Bool.{ne_eqb}
use Rattle.octets.specs.Numbers.{octets_of}
use Rattle.byteorder.specs.Numbers.{length-bytes_high_first}
use Rattle.record_ledger.specs.declared.record.FlowRecord.{FlowRecord}
use Rattle.ipfix_model.specs.Fields.{record_length}
use Rattle.ipfix_model.specs.Templates.{v4_fields, v6_fields}
use Rattle.ipfix_model.specs.Sizes.{v4_record_length, v6_record_length, counts_length}
use Rattle.ipfix_writer.specs.Encoding.{message_header, message, set, data_record, record_size}
use Rattle.ipfix_writer.specs.DataParts.{counts_part}
use Rattle.ipfix_writer.specs.DataSizes.{length-data_record}

-- the length of the records of each template
pub record_size-if : (v4 : Bool) → record_length (if v4 then v4_fields else v6_fields)
    ≡ (if v4 then v4_record_length else v6_record_length)
record_size-if true = refl
record_size-if false = refl

pub record_size-is : (flow : FlowRecord) → record_size flow
    ≡ (if flow.part.key.version == 4 then v4_record_length else v6_record_length)
record_size-is flow = record_size-if (flow.part.key.version == 4)

record_size-range : (v4 : Bool) → (v4_record_length ≤ (if v4 then v4_record_length else v6_record_length))
    × ((if v4 then v4_record_length else v6_record_length) ≤ v6_record_length)
record_size-range true = (omega arith, omega arith)
record_size-range false = (omega arith, omega arith)

pub record_size-bounds : (flow : FlowRecord) → (v4_record_length ≤ length (data_record flow))
    × (length (data_record flow) ≤ v6_record_length)
record_size-bounds flow =
    let range = record_size-range (flow.part.key.version == 4) in
    let long = length-data_record flow ∙ record_size-is flow in
    (omega (arith, long, range), omega (arith, long, range))

-- a data record as its values, over IPv4 and over IPv6: addresses of this size, ports and protocol, then the counts
abbrev pub values_in : ℕ → FlowRecord → List ℕ
values_in size flow = let key = flow.part.key in
    octets_of size key.source ++ (octets_of size key.destination ++ (octets_of 2 key.source_port
    ++ (octets_of 2 key.destination_port ++ (octets_of 1 key.protocol ++ counts_part flow))))

pub data_record-v4 : (flow : FlowRecord) → flow.part.key.version ≡ 4 → data_record flow ≡ values_in 4 flow
unfolding data_record counts_part
data_record-v4 flow v4 = rw (eq-eqb flow.part.key.version 4 v4) (simp append-nil)

pub data_record-v6 : (flow : FlowRecord) → flow.part.key.version ≢ 4 → data_record flow ≡ values_in 16 flow
unfolding data_record counts_part
data_record-v6 flow v6 = rw (ne_eqb flow.part.key.version 4 v6) (simp append-nil)

-- the length of the counts
pub length-counts_part : (flow : FlowRecord) → length (counts_part flow) ≡ counts_length
unfolding counts_part
length-counts_part flow = simp (length-append, length-bytes_high_first)

pub length-set : (number : ℕ) (records : List ℕ) → length (set number records) ≡ 4 + length records
unfolding set
length-set number records = simp (length-append, length-bytes_high_first) (omega arith)

pub length-message_header : (size time sequence : ℕ) → length (message_header size time sequence) ≡ 16
unfolding message_header
length-message_header size time sequence = simp (length-append, length-bytes_high_first)

pub length-message : (time sequence : ℕ) (sets : List ℕ) → length (message time sequence sets) ≡ 16 + length sets
unfolding message
length-message time sequence sets =
    length-append (message_header (16 + length sets) time sequence) sets
    ∙ ap (λ n. n + length sets) (length-message_header (16 + length sets) time sequence)
