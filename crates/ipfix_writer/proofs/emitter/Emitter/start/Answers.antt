use Rattle.std.proofs.Common.{◌∙◌, ap, subst, List, length, arith}
use Rattle.ipfix_writer.specs.Emitting.{EmitterState}
use Rattle.ipfix_writer.specs.Layout.{BeginsLayout}
use Rattle.record_ledger.specs.declared.record.FlowRecord.{FlowRecord}
use Rattle.ipfix_writer.proofs.Templates.{length-template_message}
use Rattle.ipfix_writer.proofs.UnderWay.{under_way-start, begins-template}
use Rattle.ipfix_writer.proofs.emitter.Emitter.start.Goals as goal

pub returns-in-Ok-clause-started : goal.returns-in-Ok-clause-started
returns-in-Ok-clause-started g c =
    let fresh = c.self.invariant.fresh (ap (λ (e : EmitterState). e.phase) c.self.view_is ∙ c.requires) in
    let passed = c.in-Ok.ensures.passed in (
      passed.taken,
      passed.appended,
      under_way-start c.self.inside.size c.self.inside.export_time c.self.inside.waiting.items c.self.inside.sequence
          c.self.inside.out c.put.new.self passed.taken c.as_slice.result.now fresh.0 fresh.1 fresh.3 passed.whole
          (c.as_slice.ensures.value ∙ c.encode_template_message.ensures.items),
    )

pub returns-in-Err-clause-broken : goal.returns-in-Err-clause-broken
returns-in-Err-clause-broken g c =
    let fresh = c.self.invariant.fresh (ap (λ (e : EmitterState). e.phase) c.self.view_is ∙ c.requires) in
    let cut = c.in-Err.ensures.cut in
    let taken = cut.1.taken in
    let begins = λ (flows : List FlowRecord). subst
    (λ (e : EmitterState). BeginsLayout e.size e.export_time flows taken) c.self.view_is
    (begins-template c.self.inside.size c.self.inside.export_time flows c.self.inside.out taken cut.0
    c.as_slice.result.now c.self.invariant.least fresh.3 cut.1.whole
    (c.as_slice.ensures.value ∙ c.encode_template_message.ensures.items)) in
    (taken, cut.1.appended, begins)

pub put-requires : goal.put-requires
put-requires g c =
    omega (
      arith,
      length-template_message c.self.inside.export_time,
      ap length (c.as_slice.ensures.value ∙ c.encode_template_message.ensures.items),
    )
