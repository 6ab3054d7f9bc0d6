-- Schedules: what a replay prints, and the first bad line.
use Rattle.std.specs.Prelude.{ℕ, ◌+◌, List, Option, Some, Result, Ok, Err, option_map}
use Rattle.pebr_core.specs.State.{start_state}
use Rattle.pebr_core.specs.Runs.{state_after, answers_of, first_refused}
use Rattle.pebr_core.specs.declared.kinds.Shape.{Shape}
use Rattle.pebr_core.specs.declared.kinds.Step.{Step}
use Rattle.pebr_schedule.specs.Grammar.{schedule_of}
use Rattle.pebr_schedule.specs.Printed.{printed_text}

-- The line of the first step that isn't enabled; the first step stands on line 2.
abbrev pub refused_line : Shape → List Step → Option ℕ
refused_line shape steps = option_map (λ place. place + 2) (first_refused (start_state shape) steps)

abbrev pub bad_line_by : Result (Shape × List Step) ℕ → Option ℕ
bad_line_by (Err line) = Some line
bad_line_by (Ok schedule) = refused_line schedule.0 schedule.1

-- The first bad line of a text: that out of the grammar, or in a text without such a line that of the first step that
-- isn't enabled.
abbrev pub bad_line : List ℕ → Option ℕ
bad_line text = bad_line_by (schedule_of text)

-- What a replay of these steps from the start prints: the answers and the state behind them.
abbrev pub replay_text : Shape → List Step → List ℕ
replay_text shape steps = printed_text (answers_of (start_state shape) steps) (state_after (start_state shape) steps)
