-- The packets that a fragment stands for.
use Rattle.std.specs.Prelude.{◌≡◌, ◌≢◌, ℕ, ◌+◌, ◌-◌, ◌<◌, ◌≤◌, List, [], length, sum_by, All, Any}
use Rattle.packet_accept.specs.declared.packet.Packet.{Packet}
use Rattle.flow_parts.specs.declared.fragment.Fragment.{Fragment}
use Rattle.flow_parts.specs.declared.timeouts.Timeouts.{Timeouts}
use Rattle.packet_accept.specs.Extremes.{IsLeast, IsGreatest}
use Rattle.flow_parts.specs.Union.{IsUnion}
use Rattle.flow_parts.specs.Ending.{Ends}

-- The packets are linked: each one that isn't among the latest is followed by a strictly later one, later by at
-- most the idle time-out (after RFC 5470, section 5.1.1).
abbrev pub IsLinked : ℕ → List Packet → Type 0
IsLinked idle packets = All (λ p. Any (λ later. p.time < later.time) packets
    → Any (λ next. (p.time < next.time) × (next.time ≤ p.time + idle)) packets) packets

-- The packets are a heap of the fragment: there is one at least, all have its key, it has their number, their octets,
-- the union of their flags, their least and their greatest time, they are linked, its span is at most the active
-- time-out, and each packet that ends its flow has its last time.
pub record IsHeap (limits : Timeouts) (packets : List Packet) (fragment : Fragment) : Type 0 where
  pub some : packets ≢ []
  pub one_key : All (λ p. p.key ≡ fragment.key) packets
  pub count : fragment.packets ≡ length packets
  pub octets : fragment.octets ≡ sum_by (λ (p : Packet). p.octets) packets
  pub flags : IsUnion (λ (p : Packet). p.flags) packets fragment.flags
  pub first : IsLeast (λ (p : Packet). p.time) packets fragment.first
  pub last : IsGreatest (λ (p : Packet). p.time) packets fragment.last
  pub linked : IsLinked limits.idle packets
  pub short : fragment.last - fragment.first ≤ limits.active
  pub ended : All (λ p. Ends p → p.time ≡ fragment.last) packets
