-- One more piece that was taken.
use Rattle.std.proofs.Common.{arith, ◌∙◌}
use Rattle.meter_io.proofs.Parts.{Appends-next}
use Rattle.meter_io.proofs.writing.write_all.Goals as goal

pub loop-done-preserved : goal.loop-done-preserved
loop-done-preserved g c = record {
  within = omega (arith, c.in-Ok.ensures.bound);
  written = Appends-next _ _ _ _ _ _ _ c.split_at.ensures.back c.loop-done.invariant.written c.in-Ok.ensures.bytes;
  quiet = c.in-Ok.ensures.cause.quiet ∙ c.loop-done.invariant.quiet;
}
