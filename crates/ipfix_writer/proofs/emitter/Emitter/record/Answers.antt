use Rattle.std.proofs.Common.{◌∙◌, ◌≤◌, ◌<◌, ap, sym, subst, arith, ℕ, List, [], ◌∷◌, ◌++◌}
use Rattle.std.proofs.KnownBytes.{Appends-nil}
use Rattle.ipfix_writer.specs.Layout.{message_length}
use Rattle.ipfix_writer.specs.Emitting.{EmitterState, IsUnderWay}
use Rattle.ipfix_writer.proofs.UnderWay.{under_way-more, under_way-next, begins-next}
use Rattle.ipfix_writer.proofs.Filling.{alone-fits}
use Rattle.record_ledger.specs.declared.record.FlowRecord.{FlowRecord}
use Rattle.ipfix_writer.proofs.emitter.Emitter.record.Goals as goal

pub returns-then-longer-self-clause-taken : goal.returns-then-longer-self-clause-taken
returns-then-longer-self-clause-taken g c =
    λ (flows : List FlowRecord) (written : List ℕ) (way : IsUnderWay c.args.self.now flows written).
    let size = ap (λ (e : EmitterState). e.size) c.self.view_is in
    let fits : message_length (c.args.self.now.waiting ++ c.args.flow.now ∷ []) ≤ c.args.self.now.size =
    omega (arith, c.if-longer-self.true, c.length_with-longer.ensures, size) in (
      [],
      Appends-nil (g.K.Sink.held c.args.sink.now),
      subst (λ (e : EmitterState). IsUnderWay e (flows ++ c.args.flow.now ∷ []) (written ++ [])) (sym c.keep.ensures)
          (under_way-more c.args.self.now flows written c.args.flow.now way fits),
    )

pub keep-requires-in-Ok-clause-fits : goal.keep-requires-in-Ok-clause-fits
keep-requires-in-Ok-clause-fits g c =
    let size = ap (λ (e : EmitterState). e.size) c.self.view_is in
    let alone = ap (λ (e : EmitterState). message_length (e.waiting ++ c.args.flow.now ∷ [])) c.in-Ok.ensures.after in
    let size_now = ap (λ (e : EmitterState). e.size) c.in-Ok.ensures.after in
    let fits = alone-fits c.args.self.now.size c.args.flow.now (omega (arith, c.self.invariant.least, size)) in
    omega (arith, c.length_with-alone.ensures, alone, size_now, fits)

pub returns-in-Ok-clause-taken : goal.returns-in-Ok-clause-taken
returns-in-Ok-clause-taken g c =
    λ (flows : List FlowRecord) (written : List ℕ) (way : IsUnderWay c.args.self.now flows written).
    let now = c.args.self.now in
    let size = ap (λ (e : EmitterState). e.size) c.self.view_is in
    let full : now.size < message_length (now.waiting ++ c.args.flow.now ∷ []) =
    omega (arith, c.if-longer-self.false, c.length_with-longer.ensures, size) in
    let passed = c.in-Ok.ensures.written in (
      passed.taken,
      passed.appended,
      under_way-next now c.keep-in-Ok.new.self flows written passed.taken c.flush.new.self.held c.args.flow.now
          (omega (arith, c.self.invariant.least, size)) way full passed.whole
          (c.keep-in-Ok.ensures ∙ ap (λ (e : EmitterState). record e { waiting = e.waiting ++ c.args.flow.now ∷ [] })
          c.in-Ok.ensures.after),
    )

pub returns-in-Err-clause-broken : goal.returns-in-Err-clause-broken
returns-in-Err-clause-broken g c =
    λ (flows : List FlowRecord) (written : List ℕ) (way : IsUnderWay c.args.self.now flows written).
    let now = c.args.self.now in
    let size = ap (λ (e : EmitterState). e.size) c.self.view_is in
    let full : now.size < message_length (now.waiting ++ c.args.flow.now ∷ []) =
    omega (arith, c.if-longer-self.false, c.length_with-longer.ensures, size) in
    let cut = c.in-Err.ensures.cut in
    let begins = λ (rest : List FlowRecord). begins-next now flows written cut.1.taken cut.0 c.args.flow.now rest
    (omega (arith, c.self.invariant.least, size)) way full cut.1.whole in
    (cut.1.taken, cut.1.appended, begins)
