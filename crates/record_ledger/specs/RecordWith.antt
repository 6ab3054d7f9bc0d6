-- The record of a fragment with an end reason as a function.
use Rattle.std.specs.Prelude.{ℕ, ◌<◌, ◌^◌, Option, Some, None}
use Rattle.flow_parts.specs.declared.fragment.Fragment.{Fragment}
use Rattle.record_ledger.specs.declared.record.FlowRecord.{FlowRecord}

-- The record of this fragment with this end reason, where the reason fits or doesn't.
unfoldable pub record_where : (reason : ℕ) → Dec (reason < 2 ^ 8) → Fragment → Option FlowRecord
record_where reason (yes fits) part = Some (record { part = part; reason = reason; sized = fits })
record_where reason (no wide) part = None
