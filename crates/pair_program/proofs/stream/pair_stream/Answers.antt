-- What was paired, laid out.
use Rattle.std.proofs.Common.{arith, subst}
use Rattle.pair_program.specs.BiLayout.{IsBiLayout}
use Rattle.pair_program.proofs.stream.pair_stream.Goals as goal

pub returns-in-Ok-bi_layout-clause-paired : goal.returns-in-Ok-bi_layout-clause-paired
returns-in-Ok-bi_layout-clause-paired c =
    c.in-Ok.ensures.paired c.args.size c.in-Ok-bi_layout.written.items (omega (arith, c.requires.size))
    (subst (λ pairs. IsBiLayout c.args.size c.in-Ok.paired.seconds pairs c.in-Ok-bi_layout.written.items)
    c.as_slice.ensures.value c.in-Ok-bi_layout.ensures)
