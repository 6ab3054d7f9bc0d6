-- One read more.
use Rattle.std.proofs.Common.{rules, ◌++◌, take, drop, ◌∙◌, arith}
use Rattle.std.proofs.KnownBytes.{Consumes-trans}
use Rattle.capture_input.proofs.Filled.{grown-next, length-next}
use Rattle.capture_input.proofs.window.fill_behind.Goals as goal

pub loop-taken-preserved : goal.loop-taken-preserved
loop-taken-preserved g c =
    let grown = c.loop-taken.invariant.grown in
    let told = c.in_ok-count.ensures in
    record {
      within = told.count.1;
      same = c.read_behind.ensures.same.0 ∙ c.loop-taken.invariant.same;
      grown = (
        grown.0 ++ take c.in_ok-count.count (drop c.loop-taken.end c.read_behind.new.buffer),
        grown-next _ _ _ _ c.loop-taken.end c.in_ok-count.count grown.1 c.read_behind.ensures.same.1,
        length-next _ _ c.loop-taken.end c.in_ok-count.count _ grown.2 told.count.1,
        Consumes-trans _ _ _ _ _ grown.3 told.bytes,
      );
      most = omega (arith, told.count.0, c.loop-taken.invariant.most);
      quiet = search rules;
    }
