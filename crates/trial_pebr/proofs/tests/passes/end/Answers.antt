use Rattle.std.proofs.Common.{ap, ◌∙◌}
use Rattle.std.specs.List.{list_all}
use Rattle.pebr_core.specs.State.{Seat, is_down}
use Rattle.trial_pebr.proofs.tests.passes.end.Goals as goal

pub returns-clause-down : goal.returns-clause-down
returns-clause-down c = ap (λ (s : Seat). list_all is_down s.shields) c.leave.ensures.known ∙ c.clear.ensures.down
