use Rattle.std.proofs.Common.{◌++◌}
use Rattle.flow_parts.proofs.Reaching.{shared}
use Rattle.turn_cache.proofs.Closing.{if_ok_weaker}
use Rattle.turn_cache.specs.Shown.{shown_of}
use Rattle.turn_cache.proofs.face.TurnCacheFlowCache.close.Goals as goal

pub returns-clause-shared : goal.returns-clause-shared
returns-clause-shared c =
    let note = (shown_of c.args.pass).note in
    if_ok_weaker c.entries.result _ _
    (λ entries reached packets shares. shared c.args.self.timeouts packets note.taken (entries.items ++ note.handed)
    reached shares) c.entries.ensures.reached
