-- Orders of fragments and records.
use Rattle.std.specs.Ordering.{nat_cmp, ordering_then}
use Rattle.std.specs.declared.cmp.Ordering.{Ordering}
use Rattle.flow_key.specs.Key.{key_order}
use Rattle.flow_parts.specs.declared.fragment.Fragment.{Fragment}
use Rattle.record_ledger.specs.declared.record.FlowRecord.{FlowRecord}

-- By key, then by last time.
abbrev pub key_then_last : Fragment → Fragment → Ordering
key_then_last one other = ordering_then (key_order one.key other.key) (nat_cmp one.last other.last)

-- By last time, first time, packets, octets and flags, the first of these that differs.
abbrev pub number_order : Fragment → Fragment → Ordering
number_order one other = ordering_then (nat_cmp one.last other.last) (ordering_then (nat_cmp one.first other.first)
    (ordering_then (nat_cmp one.packets other.packets) (ordering_then (nat_cmp one.octets other.octets)
    (nat_cmp one.flags other.flags))))

-- The order in which fragments are joined: by key, then by all else, so that fragments that tie are equal.
abbrev pub joining_order : Fragment → Fragment → Ordering
joining_order one other = ordering_then (key_order one.key other.key) (number_order one other)

-- The written order of records: by last time, then by key.
abbrev pub written_order : FlowRecord → FlowRecord → Ordering
written_order one other = ordering_then (nat_cmp one.part.last other.part.last) (key_order one.part.key other.part.key)
