use Rattle.pebr_core.proofs.SafeRun.{IsRunFrom}
use Rattle.pebr_core.proofs.runs.replay.Given as goal

-- the run so far, and what is left of it
abbrev pub invariant-loop-place : goal.invariant-loop-place
invariant-loop-place l = IsRunFrom l.fn.core l.steps l.place l.core l.answers.items
