-- The file begins with what was taken.
use Rattle.std.proofs.Common.{Some}
use Rattle.join_program.specs.Taking.{share_of}
use Rattle.join_program.proofs.reading.take_from.Given as goal

abbrev pub ghosts-take_from_as : goal.ghosts-take_from_as
ghosts-take_from_as g a = record { start = Some a.taken; share = share_of a.share }
