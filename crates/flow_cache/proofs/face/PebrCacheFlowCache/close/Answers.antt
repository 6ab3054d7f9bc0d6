use Rattle.std.proofs.Common.{◌++◌}
use Rattle.std.proofs.lemmas.Result.{IfOk-weaker}
use Rattle.flow_parts.proofs.Reaching.{shared}
use Rattle.flow_cache.specs.Shown.{shown_of}
use Rattle.flow_cache.proofs.face.PebrCacheFlowCache.close.Goals as goal

pub returns-clause-shared : goal.returns-clause-shared
returns-clause-shared c =
    let note = (shown_of c.args.pass).note in
    IfOk-weaker c.entries.result _ _
    (λ entries reached packets shares. shared c.args.self.timeouts packets note.taken (entries.items ++ note.handed)
    reached shares) c.entries.ensures.reached
