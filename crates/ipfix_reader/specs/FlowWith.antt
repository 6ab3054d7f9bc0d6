-- The flow record with some fields as a function: the one answer that `IsFlowWith` allows, as the law
-- `flows_have_fields` says.
use Rattle.std.specs.Prelude.{ℕ, ◌<◌, ◌^◌, Option, Some, None, option_and_then}
use native.Mathlib.Decide.{dec_lt}
use Rattle.flow_parts.specs.declared.fragment.Fragment.{Fragment}
use Rattle.flow_parts.specs.PartWith.{part_with}
use Rattle.record_ledger.specs.declared.record.FlowRecord.{FlowRecord}
use Rattle.record_ledger.specs.RecordWith.{record_where}
use Rattle.ipfix_reader.specs.FlowFields.{FlowFields}

-- The flow record with these fields, and none where they don't fit.
unfoldable pub flow_with : FlowFields → Option FlowRecord
flow_with fields = option_and_then (record_where fields.reason (dec_lt fields.reason (2 ^ 8))) (part_with fields.part)
