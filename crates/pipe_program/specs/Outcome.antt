-- What a run means, by its words and its status: what a run of `meter` means that is asked for the same.
use Rattle.std.specs.Prelude.{◌+◌, Option, Some, None, option_map}
use Rattle.cache_face.specs.Openings.{opened_with}
use Rattle.cache_face.specs.declared.opened.Opened.{Opened}
use Rattle.meter_io.specs.Sides.{HasTakenOrFailed}
use Rattle.meter_program.specs.declared.status.Status.{Status}
use Rattle.meter_program.specs.Seen.{Seen}
use Rattle.meter_program.specs.Outcome.{IsUsage, Ends, IsComplete}
use Rattle.pipe_program.specs.Lines.{pipe_line}
use Rattle.pipe_program.specs.Words.{Piping, pipe, as_meter}

-- What a run means, by what its words ask for: it ends as the command `meter` does. At a refusal standard error took
-- the line of the status.
abbrev pub PipeMeans : Option Piping → Seen → Status → Type 0
PipeMeans None seen status = IsUsage seen (pipe_line status) status
PipeMeans (Some piping) seen status = Ends (as_meter piping) seen
    (HasTakenOrFailed seen.stderr (pipe_line status)) status

-- Which caches were opened, where the run is done: one more, of the sets that are asked for, with a pass for each worker
-- and two more.
abbrev pub opened_after : Piping → Opened → Opened
opened_after (pipe idle active workers sets queue batch size) before = opened_with before sets (workers + 2)

-- For an input that `meter` takes, where no call failed, the run is done, or memory is out.
abbrev pub IsPipeComplete : Option Piping → Seen → Status → Type 0
IsPipeComplete words seen status = IsComplete (option_map as_meter words) seen status
