use Rattle.std.proofs.Common.{rules, arith}
use Rattle.work_pieces.proofs.Drawing.{draws}
use Rattle.work_pieces.proofs.pieces.Pieces.step.Goals as goal

pub fetch_add-found-requires : goal.fetch_add-found-requires
fetch_add-found-requires c = (
  search rules,
  search rules,
  draws _ _ _ c.args.pass.now.seat.me c.requires.single.0
      (grind (arith, c.requires.single.1, c.args.pass.now.flag)),
)
