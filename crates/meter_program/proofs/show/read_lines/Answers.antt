-- The lines of a stream are those of the records that were taken.
use Rattle.std.proofs.Common.{ap, refl}
use Rattle.std.specs.Prelude.{codes}
use Rattle.meter_program.specs.Summary.{count_line}
use Rattle.meter_program.proofs.Shown.{lines-none}
use Rattle.meter_program.proofs.show.read_lines.Goals as goal

pub returns-in-Ok-read_stream-clause-lines : goal.returns-in-Ok-read_stream-clause-lines
returns-in-Ok-read_stream-clause-lines g c =
    let way = c.in-Ok-read_stream.ensures.taken (lines-none _ _ c.new.ensures.items refl) in (
      way.0,
      way.1,
      record {
        records = way.2.0;
        decoded = way.2.2;
        lines = (way.2.1).lines;
        count = ap (count_line (codes "records")) (way.2.1).counted;
      },
    )

pub returns-in-Err-read_stream-clause-refused : goal.returns-in-Err-read_stream-clause-refused
returns-in-Err-read_stream-clause-refused g c =
    c.in-Err-read_stream.ensures.wrong (lines-none _ _ c.new.ensures.items refl)
