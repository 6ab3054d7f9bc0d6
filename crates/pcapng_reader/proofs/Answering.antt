-- The answer to a record whose time is bad, or whose link part is.
use Rattle.std.proofs.Common.{◌≡◌, ℕ, ◌≤◌, ◌<◌, ◌+◌, ◌*◌, ◌/◌, true, false, Ok, Err, refl, arith}
use Rattle.std.specs.Prelude.{Result, nat_lt}
use Rattle.std.proofs.lemmas.Bool.Decides.{nat_tests}
use Rattle.packet_headers.specs.Link.{LinkPart, link_part}
use Rattle.packet_accept.specs.declared.ignored.Ignored.{Ignored}
use Rattle.packet_accept.specs.declared.ignored.Ignored.TheVariants.{BadTime}
use Rattle.packet_accept.specs.Cause.{or_cause}
use Rattle.packet_accept.specs.Acceptance.{time_of, headers_of, accepted_packet}
use Rattle.pcapng_reader.specs.Records.{LinkedRecord}
use Rattle.pcapng_reader.specs.Tallied.{answer_of}

time-late : (seconds fraction : ℕ) → 1000000000 ≤ fraction → time_of true seconds fraction ≡ Err BadTime
unfolding time_of
time-late seconds fraction late =
    let no : nat_lt fraction 1000000000 ≡ false = grind (arith, nat_tests) in rw no refl

time-good : (seconds fraction : ℕ) → fraction < 1000000000
    → time_of true seconds fraction ≡ Ok (seconds * 1000 + fraction / 1000000)
unfolding time_of
time-good seconds fraction early =
    let yes : nat_lt fraction 1000000000 ≡ true = grind (arith, nat_tests) in rw yes refl

-- a fraction of a second or more is a bad time
pub answer-late : (linked : LinkedRecord) → 1000000000 ≤ linked.rec.fraction → answer_of linked ≡ Err BadTime
unfolding accepted_packet
answer-late linked late =
    let time : time_of true linked.rec.seconds linked.rec.fraction ≡ Err BadTime =
    time-late linked.rec.seconds linked.rec.fraction late in
    rw time refl

-- a fault of the link part is the cause
pub answer-fault : (linked : LinkedRecord) (cause : Ignored) → linked.rec.fraction < 1000000000
    → or_cause (link_part linked.link linked.rec.captured) ≡ Err cause → answer_of linked ≡ Err cause
unfolding accepted_packet headers_of
answer-fault linked cause early fault =
    let time = time-good linked.rec.seconds linked.rec.fraction early in rw (time, fault) refl
