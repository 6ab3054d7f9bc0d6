use Rattle.std.proofs.Common.{◌∙◌, ◌≡◌, ◌+◌, ap, arith, length}
use Rattle.ipfix_writer.specs.Emitting.{EmitterState}
use Rattle.ipfix_writer.specs.Layout.{body_of, length_in}
use Rattle.ipfix_writer.proofs.Sizes.{length-message}
use Rattle.ipfix_writer.proofs.Lengths.{message_length-bound}
use Rattle.ipfix_writer.proofs.UnderWay.{keeps-flushed}
use Rattle.ipfix_writer.proofs.emitter.Emitter.flush.Goals as goal

pub overflow_cast-count : goal.overflow_cast-count
overflow_cast-count g c =
    omega (
      arith,
      c.len-count.ensures,
      c.self.inside.waiting.ok.0,
      message_length-bound c.self.inside.waiting.items,
      c.self.invariant.exact,
      c.self.invariant.within,
      c.self.invariant.most,
    )

pub invariant_of-self : goal.invariant_of-self
invariant_of-self g c =
    keeps-flushed _ _ _ _ _ _ _ _ _ _ _ _ _ _ _ _ c.self.invariant
    (ap (λ (e : EmitterState). e.phase) c.self.view_is ∙ c.requires)
    c.clear.ensures.items (c.encode_message.ensures.room) (omega (arith, c.clear.ensures.capacity))

pub put-requires : goal.put-requires
unfolding length_in
put-requires g c =
    let long : length c.as_slice-2.result.now ≡ 16 + length (body_of c.as_slice.result.now) =
    ap length (c.as_slice-2.ensures.value ∙ c.encode_message.ensures.items) ∙ length-message _ _ _ in
    let same : 16 + length (body_of c.as_slice.result.now) ≡ 16 + length (body_of c.self.inside.waiting.items) =
    ap (λ flows. 16 + length (body_of flows)) c.as_slice.ensures.value in
    let exact : c.self.inside.length ≡ 16 + length (body_of c.self.inside.waiting.items) = c.self.invariant.exact in
    omega (arith, long, same, exact, c.self.invariant.within, c.self.invariant.most)
