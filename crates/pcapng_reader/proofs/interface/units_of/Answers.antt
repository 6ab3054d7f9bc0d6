-- There is at least one unit of time in a second.
use Rattle.std.proofs.Common.{arith}
use Rattle.pcapng_reader.proofs.Powers.{ten-pos}
use Rattle.pcapng_reader.proofs.interface.units_of.Goals as goal

pub returns-then-code-le18-clause-some : goal.returns-then-code-le18-clause-some
returns-then-code-le18-clause-some c = omega (arith, ten-pos c.args.code)
