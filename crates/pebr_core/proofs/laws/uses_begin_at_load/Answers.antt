use Rattle.pebr_core.proofs.Frames.{uses_begin, leaves_shields}
use Rattle.pebr_core.proofs.laws.uses_begin_at_load.Goals as goal

pub returns-clause-begin : goal.returns-clause-begin
returns-clause-begin c = uses_begin

pub returns-clause-shields : goal.returns-clause-shields
returns-clause-shields c = leaves_shields
