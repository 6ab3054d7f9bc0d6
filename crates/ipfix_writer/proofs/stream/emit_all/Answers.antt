-- The records come behind the message with the templates, and the last message behind them.
use Rattle.std.proofs.Common.{◌∙◌, [], ◌++◌, subst, refl, ℕ, append-nil}
use Rattle.std.proofs.KnownBytes.{Appends-trans}
use Rattle.ipfix_writer.specs.Layout.{IsLayoutOf}
use Rattle.ipfix_writer.proofs.UnderWay.{on_ok, on_err}
use Rattle.ipfix_writer.proofs.Runs.{begins-same}
use Rattle.ipfix_writer.proofs.stream.emit_all.Goals as goal

pub returns-in-Err-emit_list-clause-broken : goal.returns-in-Err-emit_list-clause-broken
returns-in-Err-emit_list-clause-broken g c =
    let first = c.in-Ok.ensures.started in
    let next = c.in-Err-emit_list.ensures.broken [] first.0 first.2 in (
      first.0 ++ next.0,
      Appends-trans _ _ _ _ _ first.1 next.1,
      begins-same c.start.new.self.size c.args.emitter.size c.start.new.self.export_time c.args.emitter.export_time
          _ _ _ _ c.in-Ok.ensures.settings.0 c.in-Ok.ensures.settings.1 (append-nil c.args.records.now) refl
          (next.2 []),
    )

pub returns-clause-written : goal.returns-clause-written
returns-clause-written g c =
    let records = c.args.records.now in
    let now = c.emit_list.new.emitter in
    let first = c.in-Ok.ensures.started in
    let next = c.in-Ok-emit_list.ensures.taken [] first.0 first.2 in
    let size = c.in-Ok-emit_list.ensures.size ∙ c.in-Ok.ensures.settings.0 in
    let export_time = c.in-Ok-emit_list.ensures.export_time ∙ c.in-Ok.ensures.settings.1 in
    on_ok c.finish.result c.finish.ensures.finished (λ messages h.
    let last = h records (first.0 ++ next.0) next.2 in (
      (first.0 ++ next.0) ++ last.0,
      Appends-trans _ _ _ _ _ (Appends-trans _ _ _ _ _ first.1 next.1) last.1,
      subst (λ (n : ℕ). IsLayoutOf n c.args.emitter.export_time records ((first.0 ++ next.0) ++ last.0) messages) size
          (subst (λ (t : ℕ). IsLayoutOf now.size t records ((first.0 ++ next.0) ++ last.0) messages) export_time
          last.2),
    ))

pub returns-clause-broken : goal.returns-clause-broken
returns-clause-broken g c =
    let first = c.in-Ok.ensures.started in
    let next = c.in-Ok-emit_list.ensures.taken [] first.0 first.2 in
    on_err c.finish.result c.finish.ensures.broken (λ h.
    let last = h c.args.records.now (first.0 ++ next.0) next.2 in (
      (first.0 ++ next.0) ++ last.0,
      Appends-trans _ _ _ _ _ (Appends-trans _ _ _ _ _ first.1 next.1) last.1,
      begins-same c.emit_list.new.emitter.size c.args.emitter.size c.emit_list.new.emitter.export_time
          c.args.emitter.export_time _ _ _ _
          (c.in-Ok-emit_list.ensures.size ∙ c.in-Ok.ensures.settings.0)
          (c.in-Ok-emit_list.ensures.export_time ∙ c.in-Ok.ensures.settings.1) refl refl last.2,
    ))
