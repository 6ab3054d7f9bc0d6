use Rattle.std.proofs.Common.{◌∙◌, ◌+◌, ◌-◌, ◌^◌, min, ap, sym, subst, refl, ℕ, List, ◌++◌, take, append_assoc}
use Rattle.std.proofs.KnownBytes.{Appends-trans}
use Rattle.ipfix_writer.specs.Layout.{IsLayoutOf}
use Rattle.ipfix_writer.specs.Emitting.{EmitterState, IsUnderWay}
use Rattle.ipfix_writer.proofs.UnderWay.{finished-empty, finished-last, begins-of, begins-held, begins-drained, is_nil}
use Rattle.ipfix_writer.proofs.UnderWay.{some-left, on_ok, on_err}
use Rattle.record_ledger.specs.declared.record.FlowRecord.{FlowRecord}
use Rattle.ipfix_writer.proofs.emitter.Emitter.finish.Goals as goal

pub returns-then-is_empty-clause-finished : goal.returns-then-is_empty-clause-finished
returns-then-is_empty-clause-finished g c =
    let now = c.args.self in
    let none = sym (ap (λ (e : EmitterState). e.waiting) c.self.view_is)
    ∙ is_nil c.self.inside.waiting.items _ (sym c.self.inside.waiting.ok.0)
    (sym c.is_empty.ensures ∙ c.if-is_empty.true) in
    on_ok c.drain.result c.drain.ensures.whole (λ messages h flows written way. (
      now.held,
      h.0,
      subst (IsLayoutOf now.size now.export_time flows (written ++ now.held)) (sym h.1)
          (finished-empty now flows written none way),
    ))

pub returns-then-is_empty-clause-broken : goal.returns-then-is_empty-clause-broken
returns-then-is_empty-clause-broken g c =
    let now = c.args.self in
    let none = sym (ap (λ (e : EmitterState). e.waiting) c.self.view_is)
    ∙ is_nil c.self.inside.waiting.items _ (sym c.self.inside.waiting.ok.0)
    (sym c.is_empty.ensures ∙ c.if-is_empty.true) in
    on_err c.drain.result c.drain.ensures.prefix (λ h flows written way. (
      take h.0 now.held,
      h.1,
      begins-held now.size now.export_time flows written now.held now.messages h.0
          (finished-empty now flows written none way),
    ))

pub returns-in-Ok-clause-finished : goal.returns-in-Ok-clause-finished
returns-in-Ok-clause-finished g c =
    let now = c.args.self in
    let passed = c.in-Ok.ensures.written in
    let some = some-left c.self.inside.waiting.items now.waiting _ (sym c.self.inside.waiting.ok.0)
    (sym c.is_empty.ensures ∙ c.if-is_empty.false)
    (ap (λ (e : EmitterState). e.waiting) c.self.view_is) in
    on_ok c.drain-in-Ok.result c.drain-in-Ok.ensures.whole (λ messages h flows written way. (
      passed.taken ++ c.flush.new.self.held,
      Appends-trans _ _ _ _ _ passed.appended h.0,
      finished-last now flows written passed.taken c.flush.new.self.held messages some way passed.whole
          (h.1 ∙ ap (λ (e : EmitterState). e.messages) c.in-Ok.ensures.after),
    ))

pub returns-in-Ok-clause-broken : goal.returns-in-Ok-clause-broken
returns-in-Ok-clause-broken g c =
    let now = c.args.self in
    let passed = c.in-Ok.ensures.written in
    let some = some-left c.self.inside.waiting.items now.waiting _ (sym c.self.inside.waiting.ok.0)
    (sym c.is_empty.ensures ∙ c.if-is_empty.false)
    (ap (λ (e : EmitterState). e.waiting) c.self.view_is) in
    on_err c.drain-in-Ok.result c.drain-in-Ok.ensures.prefix (λ h flows written way. (
      passed.taken ++ take h.0 c.flush.new.self.held,
      Appends-trans _ _ _ _ _ passed.appended h.1,
      begins-drained now.size now.export_time flows written passed.taken c.flush.new.self.held
          c.flush.new.self.messages h.0
          (finished-last now flows written passed.taken c.flush.new.self.held c.flush.new.self.messages some way
          passed.whole (ap (λ (e : EmitterState). e.messages) c.in-Ok.ensures.after)),
    ))

pub returns-clause-broken : goal.returns-clause-broken
returns-clause-broken g c = λ (flows : List FlowRecord) (written : List ℕ) (way : IsUnderWay c.args.self flows written).
    let now = c.args.self in
    let some = some-left c.self.inside.waiting.items now.waiting _ (sym c.self.inside.waiting.ok.0)
    (sym c.is_empty.ensures ∙ c.if-is_empty.false)
    (ap (λ (e : EmitterState). e.waiting) c.self.view_is) in
    let cut = c.in-Err.ensures.cut in
    let taken = cut.1.taken in
    let count = min (now.messages + 1) (2 ^ 64 - 1) in (
      taken,
      cut.1.appended,
      begins-of now.size now.export_time flows (written ++ taken) cut.0 (written ++ (taken ++ cut.0)) count
          (finished-last now flows written taken cut.0 count some way cut.1.whole refl)
          (sym (append_assoc written taken cut.0)),
    )
