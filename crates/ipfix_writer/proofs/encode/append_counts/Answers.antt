use Rattle.std.proofs.Common.{◌∙◌, ◌++◌, ap, arith}
use Rattle.ipfix_writer.proofs.Puts.{all-put}
use Rattle.ipfix_writer.proofs.Sizes.{length-counts_part}
use Rattle.ipfix_writer.proofs.encode.append_counts.Goals as goal

pub returns-clause-items : goal.returns-clause-items
returns-clause-items c =
    let counts = all-put c.put_counts.ensures.put (omega (arith, length-counts_part c.args.flow.now)) in
    c.append.ensures.items ∙ ap (λ octets. c.args.buffer.now.items ++ octets) counts
