-- Fragments that share out packets.
use Rattle.std.specs.Prelude.{List, flat_map, IsPermutation}
use Rattle.std.specs.List.{AllZip}
use Rattle.packet_accept.specs.declared.packet.Packet.{Packet}
use Rattle.flow_parts.specs.declared.fragment.Fragment.{Fragment}
use Rattle.flow_parts.specs.declared.timeouts.Timeouts.{Timeouts}
use Rattle.flow_parts.specs.Heap.{IsHeap}

-- The fragments share out the packets: there are as many lists as fragments, the lists put together are a
-- permutation of the packets, and each list is a heap of the fragment in its place.
pub record SharesOut (limits : Timeouts) (packets : List Packet) (parts : List Fragment) : Type 0 where
  pub heaps : List (List Packet)
  pub whole : IsPermutation packets (flat_map (λ (heap : List Packet). heap) heaps)
  pub each : AllZip (IsHeap limits) heaps parts
