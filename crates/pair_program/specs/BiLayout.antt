-- The layout of biflows as a stream of messages (RFC 7011, sections 3.1 to 3.4; RFC 5103).
use Rattle.std.specs.Prelude.{ℕ, ◌++◌, List, Option, Some, None}
use Rattle.record_ledger.specs.declared.record.FlowRecord.{FlowRecord}
use Rattle.ipfix_model.specs.Templates.{v4_template, v4_fields, v6_template, v6_fields, v4_bi_template, v4_bi_fields}
use Rattle.ipfix_model.specs.Templates.{v6_bi_template, v6_bi_fields, bi_template_of, bi_fields_of}
use Rattle.ipfix_model.specs.Values.{record_bytes, bi_field_value}
use Rattle.ipfix_writer.specs.Encoding.{message, set, template_record}
use Rattle.ipfix_writer.specs.Layout.{RecordSet, encode_flow, IsStream}
use Rattle.pair_program.specs.declared.biflow.Biflow.{Biflow}

-- The data record of two directions: the values of the fields of the template for biflows, in order.
unfoldable pub bi_record : FlowRecord → FlowRecord → List ℕ
bi_record forward reverse = record_bytes (bi_field_value forward reverse) (bi_fields_of forward)

-- What a biflow is written as: a record of the template for biflows of its version where it has a reverse flow, else a
-- record of the template for flows.
abbrev pub encode_both : FlowRecord → Option FlowRecord → RecordSet
encode_both forward None = encode_flow forward
encode_both forward (Some reverse) = record { template = bi_template_of forward; records = bi_record forward reverse }

abbrev pub encode_biflow : Biflow → RecordSet
encode_biflow pair = encode_both pair.forward pair.reverse

-- The first message: one set with the template records of all four templates.
abbrev pub bi_template_records : List ℕ
bi_template_records =
    template_record v4_template v4_fields ++ (template_record v6_template v6_fields
    ++ (template_record v4_bi_template v4_bi_fields ++ template_record v6_bi_template v6_bi_fields))

unfoldable pub bi_template_message : ℕ → List ℕ
bi_template_message export_time = message export_time 0 (set 2 bi_template_records)

-- The bytes are the layout of the biflows: that message, then their data messages, each with the longest prefix of the
-- biflows still left whose message is at most `size` bytes long.
abbrev pub IsBiLayout : ℕ → ℕ → List Biflow → List ℕ → Type 0
IsBiLayout size export_time pairs bytes =
    IsStream encode_biflow size export_time (bi_template_message export_time) pairs bytes
