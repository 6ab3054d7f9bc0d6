use Rattle.std.proofs.Common.{◌≡◌, ◌∙◌, ◌≤◌, ap, sym, ◌∷◌, [], ◌++◌, arith, List, Bool, true, if◌then◌else◌, Result}
use Rattle.std.specs.Result.{is_ok}
use Rattle.record_ledger.specs.declared.record.FlowRecord.{FlowRecord}
use Rattle.ipfix_writer.specs.Emitting.{EmitterState}
use Rattle.ipfix_writer.specs.Layout.{message_length}
use Rattle.ipfix_writer.proofs.UnderWay.{places-left, keeps-more}
use Rattle.ipfix_writer.proofs.emitter.Emitter.keep.Goals as goal

-- the list after a push that went well
pushed : {T E : Type 0} (result : Result T E) (new old : List FlowRecord) → is_ok result ≡ true
    → (if is_ok result then new else old) ≡ new
pushed result new old went = ap (λ (b : Bool). if b then new else old) went

pub unwrap-requires : goal.unwrap-requires
unwrap-requires c =
    let exact : c.args.length ≡ message_length (c.self.inside.waiting.items ++ c.args.flow.now ∷ []) =
    c.requires.exact ∙ ap (λ (e : EmitterState). message_length (e.waiting ++ c.args.flow.now ∷ []))
    (sym c.self.view_is) in
    let size : c.args.self.now.size ≡ c.self.inside.size = ap (λ (e : EmitterState). e.size) (sym c.self.view_is) in
    let fits : c.args.length ≤ c.self.inside.size = omega (arith, c.requires.fits, size) in
    c.push.ensures.succeeds
    (omega (
      arith,
      c.self.inside.waiting.ok.0,
      places-left _ _ _ c.self.inside.waiting.items c.args.flow.now exact fits c.self.invariant.records,
    ))

pub invariant_of-self : goal.invariant_of-self
invariant_of-self c =
    let exact : c.args.length ≡ message_length (c.self.inside.waiting.items ++ c.args.flow.now ∷ []) =
    c.requires.exact ∙ ap (λ (e : EmitterState). message_length (e.waiting ++ c.args.flow.now ∷ []))
    (sym c.self.view_is) in
    let size : c.args.self.now.size ≡ c.self.inside.size = ap (λ (e : EmitterState). e.size) (sym c.self.view_is) in
    let fits : c.args.length ≤ c.self.inside.size = omega (arith, c.requires.fits, size) in
    keeps-more _ _ _ _ _ _ _ _ _ _ _ _ _ _ c.args.flow.now c.self.invariant
    (ap (λ (e : EmitterState). e.phase) c.self.view_is ∙ c.requires.started)
    (c.push.ensures.items ∙ pushed c.push.result _ _ (ap is_ok c.unwrap.ensures)) exact fits c.template.ensures
    (c.push.ensures.capacity)
