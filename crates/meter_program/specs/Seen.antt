-- What is seen of the objects that are handed to a run, before it and after it.
use Rattle.std.specs.Prelude.{List}
use Rattle.meter_io.specs.Sides.{Side}
use Rattle.flow_parts.specs.declared.fragment.Fragment.{Fragment}

-- The input, the output and standard error, and after the run the fragments of the last cache that was closed.
pub record Seen : Type 0 where
  pub input : Side
  pub output : Side
  pub stderr : Side
  pub metered : List Fragment

abbrev pub seen_of : Side → Side → Side → List Fragment → Seen
seen_of input output stderr metered = record { input = input; output = output; stderr = stderr; metered = metered }
