-- When two flow records are the two directions of one biflow (RFC 5103).
use Rattle.std.specs.Prelude.{ℕ, ◌==◌, ◌&&◌, Bool, not, nat_le}
use Rattle.flow_key.specs.declared.key.FlowKey.{FlowKey}
use Rattle.flow_parts.specs.Joining.{gap}
use Rattle.record_ledger.specs.declared.record.FlowRecord.{FlowRecord}

-- Two keys are the same.
abbrev pub is_same : FlowKey → FlowKey → Bool
is_same one other =
    (one.version == other.version) && (one.source == other.source) && (one.destination == other.destination)
    && (one.protocol == other.protocol) && (one.source_port == other.source_port) &&
    (one.destination_port == other.destination_port)

-- One key is the reverse of the other: both addresses and both ports are exchanged.
abbrev pub is_reverse : FlowKey → FlowKey → Bool
is_reverse one other =
    (one.version == other.version) && (one.destination == other.source) && (one.source == other.destination)
    && (one.protocol == other.protocol) && (one.destination_port == other.source_port) &&
    (one.source_port == other.destination_port)

-- Two records are mates: their keys are the reverse of one another, the keys differ, and the gap between their spans is
-- at most `idle` milliseconds, 0 where they overlap.
unfoldable pub are_mates : ℕ → FlowRecord → FlowRecord → Bool
are_mates idle one other =
    is_reverse one.part.key other.part.key && not (is_same one.part.key other.part.key) && nat_le
    (gap one.part other.part) idle
