-- A message is shorter than the buffer's room.
use Rattle.std.proofs.Common.{◌∙◌, ap, arith, length}
use Rattle.ipfix_writer.specs.Layout.{length_in}
use Rattle.ipfix_writer.proofs.Sizes.{length-message}
use Rattle.ipfix_writer.proofs.messages.put_message.Goals as goal

pub put-requires : goal.put-requires
unfolding length_in
put-requires g c =
    let long = ap length (c.as_slice.ensures.value ∙ c.encode_message.ensures.items) ∙ length-message _ _ _ in
    omega (arith, long, c.first_message-count.ensures.length, c.first_message-count.ensures.fits, c.requires.small)
