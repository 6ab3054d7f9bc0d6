use Rattle.std.proofs.Common.{arith, ◌∙◌, ap, ◌∷◌, [], ◌++◌}
use Rattle.ipfix_writer.specs.Emitting.{EmitterState, header_before}
use Rattle.ipfix_writer.specs.Layout.{message_length}
use Rattle.ipfix_writer.proofs.Sizes.{record_size-bounds}
use Rattle.ipfix_writer.proofs.Lengths.{header_before-bound}
use Rattle.ipfix_writer.proofs.UnderWay.{length-with}
use Rattle.ipfix_writer.proofs.emitter.Emitter.length_with.Goals as goal

pub overflow_add-result-2 : goal.overflow_add-result-2
overflow_add-result-2 c =
    omega (
      arith,
      c.header_length.ensures,
      header_before-bound c.self.inside.template c.template.result,
      c.size.ensures,
      record_size-bounds c.args.flow.now,
    )

pub returns : goal.returns
returns c =
    length-with _ _ _ c.self.inside.waiting.items _ c.args.flow.now c.self.invariant.exact c.self.invariant.last
    (c.header_length.ensures ∙ ap (header_before c.self.inside.template) c.template.ensures) c.size.ensures
    ∙ ap (λ (e : EmitterState). message_length (e.waiting ++ c.args.flow.now ∷ [])) c.self.view_is
