-- The options so far, and where the next one is looked for.
use Rattle.std.proofs.Common.{◌≡◌, length}
use Rattle.pcapng_reader.specs.Interfaces.{with_options}
use Rattle.pcapng_reader.specs.Options.{options_in}
use Rattle.pcapng_reader.specs.Index.{HasUnits}
use Rattle.pcapng_reader.proofs.interface.with_options.Given as goal

abbrev pub invariant-options : goal.invariant-options
invariant-options l = record {
  same : with_options l.order l.interface (options_in l.order l.left)
      ≡ with_options l.order l.initial.interface (options_in l.order l.octets);
  units : HasUnits l.interface;
}

abbrev pub decreases-options : goal.decreases-options
decreases-options l = length l.left
