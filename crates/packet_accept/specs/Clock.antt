-- The clock of packets.
use Rattle.std.specs.Prelude.{◌≡◌, ℕ, max, List, [], Option, Some, None, MatchOption}
use Rattle.packet_accept.specs.declared.packet.Packet.{Packet}
use Rattle.packet_accept.specs.Extremes.{IsGreatest}

-- The clock of packets: the greatest of their times, and none where there is no packet.
abbrev pub IsClock : List Packet → Option ℕ → Type 0
IsClock packets clock = MatchOption clock (packets ≡ []) (IsGreatest (λ (p : Packet). p.time) packets)

-- The later of two clocks.
abbrev pub later_clock : Option ℕ → Option ℕ → Option ℕ
later_clock None other = other
later_clock (Some time) None = Some time
later_clock (Some time) (Some other) = Some (max time other)
