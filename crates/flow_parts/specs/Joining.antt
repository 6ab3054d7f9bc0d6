-- When a fragment takes in a packet, and when two fragments can be one.
use Rattle.std.specs.Prelude.{◌≡◌, ℕ, ◌-◌, ◌≤◌, min, max}
use Rattle.packet_accept.specs.declared.packet.Packet.{Packet}
use Rattle.flow_parts.specs.declared.fragment.Fragment.{Fragment}
use Rattle.flow_parts.specs.declared.timeouts.Timeouts.{Timeouts}
use Rattle.flow_parts.specs.Ending.{Ends}
use Rattle.flow_parts.specs.Ending.{IsClosed}

-- The packet has the fragment's key, its time is at most idle before the fragment's first and at most idle after its
-- last, the joined span is at most active, a closed fragment takes no later packet, and a packet that ends its flow
-- isn't earlier than the fragment's last. (A difference of numbers is 0 where it would be negative.)
pub record TakesIn (limits : Timeouts) (fragment : Fragment) (packet : Packet) : Type 0 where
  pub one_key : fragment.key ≡ packet.key
  pub not_early : fragment.first - packet.time ≤ limits.idle
  pub not_late : packet.time - fragment.last ≤ limits.idle
  pub short : max fragment.last packet.time - min fragment.first packet.time ≤ limits.active
  pub closed : IsClosed fragment → packet.time ≤ fragment.last
  pub ending : Ends packet → fragment.last ≤ packet.time

-- The gap between the spans of two fragments, 0 where they overlap.
abbrev pub gap : Fragment → Fragment → ℕ
gap one other = max (one.first - other.last) (other.first - one.last)

-- The length of the span over two fragments.
abbrev pub joined_span : Fragment → Fragment → ℕ
joined_span one other = max one.last other.last - min one.first other.first

-- The keys are equal, the gap is at most idle, the joined span is at most active, and neither of the two that is closed
-- ends before the other.
pub record IsJoinable (limits : Timeouts) (one other : Fragment) : Type 0 where
  pub one_key : one.key ≡ other.key
  pub near : gap one other ≤ limits.idle
  pub short : joined_span one other ≤ limits.active
  pub one_closed : IsClosed one → other.last ≤ one.last
  pub other_closed : IsClosed other → one.last ≤ other.last
