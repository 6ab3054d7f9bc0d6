-- What a tally counts of the answers that the records of a capture get.
use Rattle.std.specs.Prelude.{◌≡◌, ◌==◌, ◌<◌, ◌^◌, ℕ, Bool, false, List, [], ◌∷◌, length, count_by, sum_by, All, Result}
use Rattle.std.specs.Prelude.{Ok, Err}
use Rattle.packet_accept.specs.declared.packet.Packet.{Packet}
use Rattle.packet_accept.specs.declared.ignored.Ignored.{Ignored}
use Rattle.packet_accept.specs.declared.ignored.Ignored.TheVariants.{NotIp, Short, BadHeader, ShortTransport, BadTime}
use Rattle.packet_accept.specs.Packets.{packets_in}
use Rattle.packet_accept.specs.Clock.{IsClock}
use Rattle.capture_tally.specs.declared.tally.Tally.{Tally}

-- The causes by their numbers.
abbrev pub cause_number : Ignored → ℕ
cause_number NotIp = 1
cause_number Short = 2
cause_number BadHeader = 3
cause_number ShortTransport = 4
cause_number BadTime = 5

-- The answer is the cause with this number.
abbrev pub is_ignored_for : ℕ → Result Packet Ignored → Bool
is_ignored_for number (Ok packet) = false
is_ignored_for number (Err cause) = cause_number cause == number

-- How many of the answers are each cause, in the order of the causes.
abbrev pub ignored_counts : List (Result Packet Ignored) → List ℕ
ignored_counts answers =
    count_by (is_ignored_for 1) answers ∷ count_by (is_ignored_for 2) answers ∷ count_by (is_ignored_for 3) answers
    ∷ count_by (is_ignored_for 4) answers ∷ count_by (is_ignored_for 5) answers ∷ []

-- The octets of some packets together.
abbrev pub octets_of : List Packet → ℕ
octets_of packets = sum_by (λ (p : Packet). p.octets) packets

-- The tally is that of these answers: how many there are, how many are packets, how many are each cause, the octets of
-- the packets, and the time of the latest packet.
pub record IsTallyOf (tally : Tally) (answers : List (Result Packet Ignored)) : Type 0 where
  pub captured : tally.captured ≡ length answers
  pub accepted : tally.accepted ≡ length (packets_in answers)
  pub ignored : tally.ignored ≡ ignored_counts answers
  pub octets : tally.octets ≡ octets_of (packets_in answers)
  pub clock : IsClock (packets_in answers) tally.clock

-- Each number of the tally is below 2^63, so that two such tallies can be added up.
pub record HasRoom (tally : Tally) : Type 0 where
  pub captured : tally.captured < 2 ^ 63
  pub accepted : tally.accepted < 2 ^ 63
  pub ignored : All (λ count. count < 2 ^ 63) tally.ignored
  pub octets : tally.octets < 2 ^ 63
