-- The laws of the layout.
use Rattle.std.specs.Prelude.{◌≡◌, ℕ, ◌+◌, ◌==◌, if◌then◌else◌, List, length}
use Rattle.record_ledger.specs.declared.record.FlowRecord.{FlowRecord}
use Rattle.ipfix_writer.specs.Encoding.{template_records, template_message, data_record}
use Rattle.ipfix_writer.specs.Layout.{IsLayout}
use Rattle.ipfix_model.specs.Sizes.{v4_record_length, v6_record_length, template_set_length, template_message_length}

-- The layout is one value: two lists of bytes that are the layout of the same records are equal.
abbrev pub IsOneLayout : Type 0
IsOneLayout = (size export_time : ℕ) (flows : List FlowRecord) (one other : List ℕ)
    → IsLayout size export_time flows one → IsLayout size export_time flows other → one ≡ other

-- The length of a data record, over IPv4 and over IPv6.
abbrev pub HasRecordLengths : Type 0
HasRecordLengths = (flow : FlowRecord) → length (data_record flow)
    ≡ (if flow.part.key.version == 4 then v4_record_length else v6_record_length)

-- The length of the set of templates, its header among it.
abbrev pub HasTemplateSetLength : Type 0
HasTemplateSetLength = 4 + length template_records ≡ template_set_length

-- The length of the template message.
abbrev pub HasTemplateMessageLength : Type 0
HasTemplateMessageLength = (export_time : ℕ) → length (template_message export_time) ≡ template_message_length
