-- What is left gives what all of the headers give, and each header makes it shorter.
use Rattle.std.proofs.Common.{◌≡◌, length}
use Rattle.packet_headers.specs.Extensions.{upper_part}
use Rattle.packet_headers.proofs.extensions.upper_of.Given as goal

abbrev pub invariant-loop-upper : goal.invariant-loop-upper
invariant-loop-upper l = upper_part l.next l.rest ≡ upper_part l.fn.first l.fn.headers

abbrev pub decreases-loop-upper : goal.decreases-loop-upper
decreases-loop-upper l = length l.rest
