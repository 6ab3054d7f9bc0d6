-- The line of one record more.
use Rattle.std.proofs.Common.{arith}
use Rattle.meter_program.proofs.Shown.{lines-more}
use Rattle.meter_program.proofs.lines.LinesRecordTaker.take.Goals as goal

pub returns : goal.returns
returns c = λ before has.
    lines-more _ _ _ _ before c.args.rec has c.in_ok-append_line.ensures (omega arith) c.saturating_add-self.ensures
